use Rattle.std.proofs.Common.{arith}
use Rattle.std.proofs.lemmas.Bool.{both_ways}
use Rattle.abnf_least.proofs.At.{found, passed}
use Rattle.abnf_least.proofs.Queued.{one_fewer}
use Rattle.abnf_least.proofs.search.take_next.Goals as goal

pub returns-then-is_given-clause-some : goal.returns-then-is_given-clause-some
returns-then-is_given-clause-some c =
    found c.args.grammar.now.rules c.args.table.now c.loop-candidate.queue c.pop.new.self c.in-Some.candidate c.requires.one_each c.loop-candidate.invariant
    c.in-Some.ensures.some (c.is_given.ensures.0 c.if-is_given.true)

pub loop-candidate-preserved : goal.loop-candidate-preserved
loop-candidate-preserved c =
    passed c.args.grammar.now.rules c.args.table.now c.loop-candidate.queue c.pop.new.self c.in-Some.candidate c.requires.one_each c.loop-candidate.invariant
    c.in-Some.ensures.some (λ g. both_ways c.is_given.result c.if-is_given.false (c.is_given.ensures.1 g))

pub loop-candidate-smaller : goal.loop-candidate-smaller
loop-candidate-smaller c =
    let one = one_fewer c.loop-candidate.queue c.pop.new.self c.in-Some.candidate c.in-Some.ensures.some in omega (arith, one)
