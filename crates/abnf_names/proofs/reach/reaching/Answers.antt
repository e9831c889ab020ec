use Rattle.std.proofs.Common.{◌≡◌, ◌<◌, ◌-◌, ◌∙◌, suc, List, ℕ, ap, sym, subst, length, arith}
use Rattle.std.proofs.lemmas.List.{length-take-le}
use Rattle.std.specs.Option.{option_to_list}
use Rattle.abnf_parts.specs.Nodes.{trees_at}
use Rattle.abnf_names.specs.own.Search.{AreUsersWithin, AreReachMarks}
use Rattle.abnf_names.specs.own.Users.{AreUsingRules}
use Rattle.abnf_names.proofs.Clear.{none_reach}
use Rattle.abnf_names.proofs.UsersLaws.{users_within, reaching}
use Rattle.abnf_names.proofs.reach.reaching.Goals as goal

pub returns-then-are_clear : goal.returns-then-are_clear
returns-then-are_clear c = none_reach (λ marks. marks.items) c.args.nodes.now c.args.roots.now c.requires (sym c.are_clear.ensures ∙ c.if-are_clear.true) c.no_marks.result c.no_marks.ensures

pub marks_of-requires : goal.marks_of-requires
marks_of-requires c =
    let trees = trees_at c.args.nodes.now c.args.roots.now in
    let some : 0 < length c.in_ok-users.users.items = omega (arith, c.in_ok-users.ensures.one_each) in
    record {
      some = subst (λ (us : List (List ℕ)). 0 < length us) (sym c.as_slice.ensures.value) some;
      within = subst AreUsersWithin (sym c.as_slice.ensures.value) (users_within trees (length c.args.roots.now) c.in_ok-users.users.items c.in_ok-users.ensures);
    }

pub returns : goal.returns
returns c =
    let trees = trees_at c.args.nodes.now c.args.roots.now in
    let users = c.in_ok-users.users.items in
    let count : length c.args.roots.now ≡ length trees = c.requires.1.one_each in
    let on : AreReachMarks users c.in_ok-marks.marks.items = subst (λ (us : List (List ℕ)). AreReachMarks us c.in_ok-marks.marks.items) c.as_slice.ensures.value c.in_ok-marks.ensures in
    reaching trees c.args.nodes.now c.requires.0 users (subst (λ n. AreUsingRules trees n users) count c.in_ok-users.ensures)
    c.in_ok-marks.marks.items c.pop.new.self.items (option_to_list c.pop.result) on c.pop.ensures.items
    (let len : length c.in_ok-marks.marks.items ≡ suc (length trees) = on.one_each ∙ c.in_ok-users.ensures.one_each in
    ap length c.pop.ensures.rest ∙ (length-take-le (c.in_ok-marks.marks.len - 1) c.in_ok-marks.marks.items (omega (arith, c.in_ok-marks.marks.ok.0)) ∙ (omega (arith, c.in_ok-marks.marks.ok.0, len))))
