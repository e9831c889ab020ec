use Rattle.std.proofs.Common.{◌≡◌, ◌<◌, ◌∙◌, Some, List, ap, sym, subst, length, map, arith}
use Rattle.std.specs.Prelude.{fold, Contains}
use Rattle.abnf_parts.specs.declared.node.Node.{Node}
use Rattle.abnf_parts.specs.Nodes.{trees_at}
use Rattle.abnf_names.specs.own.Users.{place_of_node, nodes_of, with_user, AreUsingRules}
use Rattle.abnf_names.proofs.UsersLaws.{users_none, places_within, users_more}
use Rattle.abnf_names.proofs.reach.users_of.Goals as goal

pub loop-rule-init : goal.loop-rule-init
loop-rule-init c =
    users_none (trees_at c.args.nodes.now c.args.roots.now) c.in_ok-users.users.items
    (let count : length c.args.roots.now ≡ length (trees_at c.args.nodes.now c.args.roots.now) = c.requires.1.one_each in omega (arith, count, c.in_ok-users.ensures.len)) c.in_ok-users.ensures.none

pub add_users-requires : goal.add_users-requires
add_users-requires c = λ place h.
    let trees = trees_at c.args.nodes.now c.args.roots.now in
    let count : length c.args.roots.now ≡ length trees = c.requires.1.one_each in
    subst (λ n. place < n) (sym c.loop-rule.invariant.one_each)
    (places_within trees c.args.nodes.now c.requires.0 c.loop-rule.rule (subst (λ n. c.loop-rule.rule < n) count c.loop-rule-test.true) place
    (subst (λ n. Contains (map (place_of_node n) (nodes_of c.args.nodes.now trees c.loop-rule.rule)) (Some place)) count
    (subst (λ (ns : List Node). Contains (map (place_of_node (length c.args.roots.now)) ns) (Some place)) c.nodes_of.ensures h)))

pub loop-rule-preserved : goal.loop-rule-preserved
loop-rule-preserved c =
    let trees = trees_at c.args.nodes.now c.args.roots.now in
    let count : length c.args.roots.now ≡ length trees = c.requires.1.one_each in
    users_more trees c.args.nodes.now c.requires.0 c.loop-rule.rule (subst (λ n. c.loop-rule.rule < n) count c.loop-rule-test.true) c.loop-rule.users.items c.add_users.new.users.items
    c.loop-rule.invariant
    (c.in_ok-add_users.ensures
    ∙ (ap (λ (ns : List Node). fold (with_user c.loop-rule.rule) c.loop-rule.users.items (map (place_of_node (length c.args.roots.now)) ns)) c.nodes_of.ensures
    ∙ ap (λ n. fold (with_user c.loop-rule.rule) c.loop-rule.users.items (map (place_of_node n) (nodes_of c.args.nodes.now trees c.loop-rule.rule))) count))

pub returns : goal.returns
returns c =
    subst (λ n. AreUsingRules (trees_at c.args.nodes.now c.args.roots.now) n c.loop-rule.users.items) (let all : c.loop-rule.rule ≡ length c.args.roots.now = omega arith in all) c.loop-rule.invariant
