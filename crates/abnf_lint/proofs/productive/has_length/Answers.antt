use Rattle.std.proofs.Common.{◌≡◌, ◌≤◌, ◌∙◌, inl, inr, ap, List, subst, sym, refl, arith}
use Rattle.std.proofs.Math.Nat.{eq-or-lt_of_le}
use Rattle.abnf_parts.specs.Part.{Part, root_number}
use Rattle.abnf_parts.specs.Generates.{Generates}
use Rattle.abnf_cert.specs.declared.entry.Entry.{Entry}
use Rattle.abnf_cert.specs.declared.entry.Entry.TheVariants.{Nothing, Least}
use Rattle.abnf_cert.specs.Accepted.{entry_at, top}
use Rattle.abnf_cert.proofs.RootSays.{root_says}
use Rattle.abnf_lint.proofs.productive.has_length.Goals as goal

pub returns-in-Nothing : goal.returns-in-Nothing
returns-in-Nothing c =
    let rules = c.args.grammar.now.rules in
    let is : c.entry_of.result ≡ entry_at c.args.cert.now (root_number rules c.args.rule) = c.entry_of.ensures ∙ ap (λ (es : List Entry). entry_at es c.get.result) c.entries.ensures ∙ ap (entry_at c.args.cert.now) (c.get.ensures ∙ c.root_of.ensures) in
    let root = root_says rules c.args.cert.now c.requires.accepted c.args.rule c.requires.rule Nothing (sym c.in-Nothing.is ∙ is) in
    (λ t. absurd (cc t), λ p. absurd (root.2 p.2.0 (let same : p.0 ≡ root.0 = cc (p.1, root.1) in subst (λ (q : Part). Generates rules q p.2.0) same p.2.1)))

pub returns-in-Least : goal.returns-in-Least
returns-in-Least c =
    let rules = c.args.grammar.now.rules in
    let is : c.entry_of.result ≡ entry_at c.args.cert.now (root_number rules c.args.rule) = c.entry_of.ensures ∙ ap (λ (es : List Entry). entry_at es c.get.result) c.entries.ensures ∙ ap (entry_at c.args.cert.now) (c.get.ensures ∙ c.root_of.ensures) in
    let root = root_says rules c.args.cert.now c.requires.accepted c.args.rule c.requires.rule (Least c.in-Least.length c.in-Least.height c.in-Least.choice) (sym c.in-Least.is ∙ is) in
    let most : c.in-Least.length ≤ top = omega arith in
    (λ t. (root.0, root.1, elim (eq-or-lt_of_le most) [ inl x ↦ (root.2.1 x).0 | inr x ↦ let r = (root.2.0 x).1.reached in (r.0, r.1) ]), λ p. refl)
