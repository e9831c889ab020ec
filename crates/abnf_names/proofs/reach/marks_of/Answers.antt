use Rattle.std.proofs.Common.{◌≡◌, ◌<◌, ◌+◌, ◌∙◌, [], ℕ, List, length, subst, sym, ap}
use Rattle.std.specs.Prelude.{fold, Contains}
use Rattle.std.proofs.lemmas.List.{get_or_read}
use Rattle.abnf_names.specs.own.Search.{users_at, with_place}
use Rattle.abnf_names.proofs.SearchLaws.{IsSearched, searched_more, searched_all}
use Rattle.abnf_names.proofs.reach.marks_of.Goals as goal

pub add_all-requires : goal.add_all-requires
add_all-requires c = λ place h.
    let users = c.args.users.now in
    let within : c.in-Some.place < length users = subst (λ n. c.in-Some.place < n) c.loop-place.invariant.count c.in-Some.ensures.place in
    let is : c.as_slice.result.now ≡ users_at users c.in-Some.place =
    c.as_slice.ensures ∙ get_or_read users c.in-Some.place c.index-users-place.result within c.index-users-place.is [] in
    subst (λ n. place < n) (sym c.loop-place.invariant.count) (c.requires.within c.in-Some.place place (subst (λ (xs : List ℕ). Contains xs place) is h))

pub loop-place-preserved : goal.loop-place-preserved
loop-place-preserved c =
    let users = c.args.users.now in
    let within : c.in-Some.place < length users = subst (λ n. c.in-Some.place < n) c.loop-place.invariant.count c.in-Some.ensures.place in
    let is : c.as_slice.result.now ≡ users_at users c.in-Some.place =
    c.as_slice.ensures ∙ get_or_read users c.in-Some.place c.index-users-place.result within c.index-users-place.is [] in
    let found : c.add_all.new.found ≡ (c.loop-place.found.0, fold with_place c.loop-place.found.1 (users_at users c.in-Some.place)) =
    c.in_ok-add_all.ensures ∙ ap (λ (xs : List ℕ). (c.loop-place.found.0, fold with_place c.loop-place.found.1 xs)) is in
    record {
      count = ap (λ (f : ℕ × List ℕ). f.0) found ∙ c.loop-place.invariant.count;
      searched = subst (λ (f : ℕ × List ℕ). IsSearched users f.1 (c.loop-place.first + 1)) (sym found)
          (searched_more users c.loop-place.found.1 c.loop-place.first c.in-Some.place c.loop-place.invariant.searched (sym c.in-Some.ensures.value));
    }

pub returns : goal.returns
returns c =
    searched_all c.args.users.now c.loop-place.found.1 c.loop-place.first c.into_marks.result.items c.loop-place.invariant.searched
    (sym c.in_default.ensures.value)
    (c.into_marks.ensures.len ∙ c.loop-place.invariant.count) c.into_marks.ensures.each
