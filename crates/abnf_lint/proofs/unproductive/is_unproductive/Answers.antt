use Rattle.std.proofs.Math.Nat.{eq-or-lt_of_le}
use Rattle.std.proofs.Common.{rules, ◌≡◌, ◌≤◌, ◌∙◌, inl, inr, ap, List, subst, sym, refl, arith}
use Rattle.abnf_parts.specs.Part.{Part, root_number}
use Rattle.abnf_parts.specs.Generates.{Generates}
use Rattle.abnf_cert.specs.declared.entry.Entry.{Entry}
use Rattle.abnf_cert.specs.declared.entry.Entry.TheVariants.{Nothing, Least}
use Rattle.abnf_cert.specs.Accepted.{entry_at, top}
use Rattle.abnf_cert.proofs.Checked.{not_false}
use Rattle.abnf_lint.specs.Unproductive.{IsUnproductive}
use Rattle.abnf_cert.proofs.RootSays.{root_says}
use Rattle.abnf_lint.proofs.unproductive.is_unproductive.Goals as goal

pub returns-in-Nothing : goal.returns-in-Nothing
returns-in-Nothing c =
    let rules = c.args.grammar.now.rules in
    let is : c.entry_of.result ≡ entry_at c.args.cert.now (root_number c.args.grammar.now.rules c.args.rule) = c.entry_of.ensures ∙ ap (λ (es : List Entry). entry_at es c.get.result) c.entries.ensures ∙ ap (entry_at c.args.cert.now) (c.get.ensures ∙ c.root_of.ensures) in
    let root = root_says c.args.grammar.now.rules c.args.cert.now c.requires.accepted c.args.rule c.requires.rule Nothing (sym c.in-Nothing.is ∙ is) in
    let holds : IsUnproductive c.args.grammar.now.rules c.args.rule = record {
      known = λ x. not_false c.reaches_opaque.result c.if-reaches_opaque.false (c.reaches_opaque.ensures.1 x);
      nothing = λ p at s g. root.2 s (let same : p ≡ root.0 = cc (at, root.1) in subst (λ (q : Part). Generates c.args.grammar.now.rules q s) same g);
    } in
    (λ x. holds, λ x. refl)

pub returns-in-Least : goal.returns-in-Least
returns-in-Least c =
    let is : c.entry_of.result ≡ entry_at c.args.cert.now (root_number c.args.grammar.now.rules c.args.rule) = c.entry_of.ensures ∙ ap (λ (es : List Entry). entry_at es c.get.result) c.entries.ensures ∙ ap (entry_at c.args.cert.now) (c.get.ensures ∙ c.root_of.ensures) in
    let root = root_says c.args.grammar.now.rules c.args.cert.now c.requires.accepted c.args.rule c.requires.rule (Least c.in-Least.length c.in-Least.height c.in-Least.choice) (sym c.in-Least.is ∙ is) in
    let most : c.in-Least.length ≤ top = omega arith in
    (λ x. cc x, λ holds. absurd (elim (eq-or-lt_of_le most) [ inl x ↦ holds.nothing root.0 root.1 (root.2.1 x).0.0 (root.2.1 x).0.1 | inr x ↦ holds.nothing root.0 root.1 (root.2.0 x).1.reached.0 (root.2.0 x).1.reached.1 ]))

pub returns-then-reaches_opaque : goal.returns-then-reaches_opaque
returns-then-reaches_opaque = search rules depth 3
