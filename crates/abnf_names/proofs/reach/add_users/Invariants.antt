use Rattle.std.proofs.Common.{◌≡◌, map, take}
use Rattle.std.specs.Prelude.{fold}
use Rattle.abnf_names.specs.own.Users.{place_of_node, with_user}
use Rattle.abnf_names.proofs.reach.add_users.Given as goal

abbrev pub invariant-loop-node : goal.invariant-loop-node
invariant-loop-node l = l.users.items ≡ fold (with_user l.rule) l.initial.users.items (map (place_of_node l.last) (take l.node-index l.nodes))
