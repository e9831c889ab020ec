use Rattle.abnf_parts.specs.Nodes.{trees_at}
use Rattle.abnf_names.specs.own.Users.{AreUsingRules}
use Rattle.abnf_names.proofs.reach.users_of.Given as goal

abbrev pub invariant-loop-rule : goal.invariant-loop-rule
invariant-loop-rule l = AreUsingRules (trees_at l.nodes l.roots) l.rule l.users.items
