use Rattle.std.proofs.Common.{◌<◌, ◌∙◌, ap, sym, subst, map, take}
use Rattle.abnf_names.specs.own.Users.{place_of_node, with_user}
use Rattle.abnf_names.proofs.UsersLaws.{place_in, users_kept, users_next}
use Rattle.abnf_names.proofs.reach.add_users.Goals as goal

pub add_user-requires : goal.add_user-requires
add_user-requires c = λ place is.
    subst (λ n. place < n) (sym (users_kept c.args.rule (map (place_of_node c.args.last) (take c.loop-node.node-index c.args.nodes.now)) c.args.users.now.items c.loop-node.users.items c.loop-node.invariant))
    (c.requires place (place_in c.args.last c.args.nodes.now c.loop-node.node-index c.node-item.result place c.loop-node-test.true c.node-item.is (sym c.place_of.ensures ∙ is)))

pub loop-node-preserved : goal.loop-node-preserved
loop-node-preserved c =
    users_next c.args.rule c.args.last c.args.nodes.now c.loop-node.node-index c.node-item.result c.args.users.now.items c.loop-node.users.items c.add_user.new.users.items
    c.loop-node-test.true c.node-item.is c.loop-node.invariant (c.in_ok-add_user.ensures ∙ ap (with_user c.args.rule c.loop-node.users.items) c.place_of.ensures)
