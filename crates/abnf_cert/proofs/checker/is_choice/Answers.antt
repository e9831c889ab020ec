use Rattle.std.proofs.Common.{rules, ◌<◌, ◌↔◌, IsTrue, arith, subst, sym}
use Rattle.abnf_cert.specs.own.Test.{entries_at}
use Rattle.abnf_cert.specs.Accepted.{HasPair, top, IsChoice, entry_at}
use Rattle.abnf_cert.proofs.Checked.{chosen, full_choice, first_choice}
use Rattle.abnf_cert.proofs.checker.is_choice.Goals as goal

pub returns-then-length : goal.returns-then-length
returns-then-length c =
    let es = entries_at c.args.entries.now c.args.numbers.now in
    let pair = subst (λ x. HasPair c.in-Least.length c.in-Least.height x) c.entry_of.ensures (c.has_pair.ensures.0 c.if-not-has_pair.false) in
    let pair = subst (λ x. HasPair c.in-Least.length c.in-Least.height (entry_at c.args.entries.now x)) c.get.ensures pair in
    let is = chosen c.args.entries.now c.args.numbers.now c.in-Least.length c.in-Least.height c.in-Least.choice c.index-numbers-choice.result c.if-choice-numbers.false c.index-numbers-choice.is pair in
    subst (λ e. IsTrue c.all_pass-then-length.result ↔ IsChoice es e) (sym c.in-Least.is)
    (full_choice es c.in-Least.length c.in-Least.height c.in-Least.choice c.all_pass-then-length.result is c.if-length.true c.all_pass-then-length.ensures)

pub returns-else-length : goal.returns-else-length
returns-else-length c =
    let es = entries_at c.args.entries.now c.args.numbers.now in
    let pair = subst (λ x. HasPair c.in-Least.length c.in-Least.height x) c.entry_of.ensures (c.has_pair.ensures.0 c.if-not-has_pair.false) in
    let pair = subst (λ x. HasPair c.in-Least.length c.in-Least.height (entry_at c.args.entries.now x)) c.get.ensures pair in
    let is = chosen c.args.entries.now c.args.numbers.now c.in-Least.length c.in-Least.height c.in-Least.choice c.index-numbers-choice.result c.if-choice-numbers.false c.index-numbers-choice.is pair in
    let below : c.in-Least.length < top = omega arith in
    subst (λ e. IsTrue c.is_first_least.result ↔ IsChoice es e) (sym c.in-Least.is)
    (first_choice es c.in-Least.length c.in-Least.height c.in-Least.choice c.is_first_least.result is below c.is_first_least.ensures)

pub returns-in-Nothing : goal.returns-in-Nothing
returns-in-Nothing = search rules depth 3
