use Rattle.abnf_least.proofs.Listed.{Listed}
use Rattle.abnf_least.proofs.users.Users.of_grammar.Given as goal

abbrev pub invariant-loop-number : goal.invariant-loop-number
invariant-loop-number l = Listed l.grammar.rules l.users l.number
