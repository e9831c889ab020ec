use Rattle.std.proofs.Common.{◌≡◌, ◌<◌, ◌∙◌, ap, sym, arith}
use Rattle.std.proofs.lemmas.Result.{err_from_is_err_and}
use Rattle.abnf_parts.specs.Part.{root_number}
use Rattle.abnf_cert.specs.declared.entry.Entry.TheVariants.{Nothing, Least}
use Rattle.abnf_cert.specs.Accepted.{entry_at, top}
use Rattle.abnf_cert.proofs.RootSays.{root_says}
use Rattle.abnf_least.proofs.RootShown.{root_shown}
use Rattle.abnf_least.proofs.shortest.known.Goals as goal

pub returns-then-length-clause-known : goal.returns-then-length-clause-known
returns-then-length-clause-known c =
    let is : c.entry_of.result ≡ entry_at c.args.entries.now (root_number c.args.grammar.now.rules c.args.rule) = c.entry_of.ensures ∙ ap (entry_at c.args.entries.now) (c.get.ensures ∙ c.root_of.ensures) in
    let root = root_says c.args.grammar.now.rules c.args.entries.now c.requires.accepted c.args.rule c.requires.rule (Least c.in-Least.length c.in-Least.height c.in-Least.choice) (sym c.in-Least.is ∙ is) in
    (root.0, root.1, root.2.1 c.if-length.true)

pub returns-then-length-gt-MOST_SHOWN-clause-known : goal.returns-then-length-gt-MOST_SHOWN-clause-known
returns-then-length-gt-MOST_SHOWN-clause-known c =
    let is : c.entry_of.result ≡ entry_at c.args.entries.now (root_number c.args.grammar.now.rules c.args.rule) = c.entry_of.ensures ∙ ap (entry_at c.args.entries.now) (c.get.ensures ∙ c.root_of.ensures) in
    let root = root_says c.args.grammar.now.rules c.args.entries.now c.requires.accepted c.args.rule c.requires.rule (Least c.in-Least.length c.in-Least.height c.in-Least.choice) (sym c.in-Least.is ∙ is) in
    let below : c.in-Least.length < top = omega arith in
    (root.0, root.1, ((root.2.0 below).1, c.if-length-gt-MOST_SHOWN.true, below))

pub returns-in-Nothing-clause-known : goal.returns-in-Nothing-clause-known
returns-in-Nothing-clause-known c =
    let is : c.entry_of.result ≡ entry_at c.args.entries.now (root_number c.args.grammar.now.rules c.args.rule) = c.entry_of.ensures ∙ ap (entry_at c.args.entries.now) (c.get.ensures ∙ c.root_of.ensures) in
    let root = root_says c.args.grammar.now.rules c.args.entries.now c.requires.accepted c.args.rule c.requires.rule Nothing (sym c.in-Nothing.is ∙ is) in
    (root.0, root.1, root.2)

pub returns-in_ok-text-in-Least-clause-known : goal.returns-in_ok-text-in-Least-clause-known
returns-in_ok-text-in-Least-clause-known c =
    let is : c.entry_of.result ≡ entry_at c.args.entries.now (root_number c.args.grammar.now.rules c.args.rule) = c.entry_of.ensures ∙ ap (entry_at c.args.entries.now) (c.get.ensures ∙ c.root_of.ensures) in
    let root = root_says c.args.grammar.now.rules c.args.entries.now c.requires.accepted c.args.rule c.requires.rule (Least c.in-Least.length c.in-Least.height c.in-Least.choice) (sym c.in-Least.is ∙ is) in
    let below : c.in-Least.length < top = omega arith in
    let shown =
    root_shown c.args.grammar.now.rules c.args.entries.now c.requires.accepted c.args.rule c.in-Least.length c.in-Least.height c.in-Least.choice (sym is ∙ c.in-Least.is) below root.0 root.1 c.in_ok-text-in-Least.text c.in_ok-text-in-Least.ensures in
    (root.0, root.1, ((root.2.0 below).1, c.if-length-gt-MOST_SHOWN.false, c.in_ok-text-in-Least.ensures, shown.0, shown.1))

pub returns-in_err-text-in-Least-clause-memory : goal.returns-in_err-text-in-Least-clause-memory
returns-in_err-text-in-Least-clause-memory c =
    let is : c.entry_of.result ≡ entry_at c.args.entries.now (root_number c.args.grammar.now.rules c.args.rule) = c.entry_of.ensures ∙ ap (entry_at c.args.entries.now) (c.get.ensures ∙ c.root_of.ensures) in
    let root = root_says c.args.grammar.now.rules c.args.entries.now c.requires.accepted c.args.rule c.requires.rule (Least c.in-Least.length c.in-Least.height c.in-Least.choice) (sym c.in-Least.is ∙ is) in
    let below : c.in-Least.length < top = omega arith in
    let p = err_from_is_err_and c.from_residual.result c.from_residual.ensures.1 in
    rw p.1 (root.0, root.1, c.in-Least.length, (root.2.0 below).1, c.if-length-gt-MOST_SHOWN.false)
