use Rattle.std.proofs.Common.{◌≡◌, ◌-◌, ◌≤◌, ℕ, List, ap, arith, length, refl, subst, take}
use Rattle.abnf_token.specs.Classes.{Text}
use Rattle.abnf_syntax.specs.Blocks.{line_texts, HasNoContent, IsTop}
use Rattle.abnf_syntax.proofs.SameLines.{same_backs, same_fronts, within}
use Rattle.abnf_syntax.proofs.TopLaws.{found_is_top, front_is_bare, none_up_to, none_yet, top_moves, top_stays}
use Rattle.abnf_syntax.proofs.sheet.Sheet.top_in.Goals as goal

pub returns-in-Some : goal.returns-in-Some
returns-in-Some c =
    let others : List Text = line_texts c.args.other.now in
    found_is_top others 0 c.min.result c.in-Some.top (omega (arith, c.min.ensures, c.count_of-count.ensures)) (none_yet others 0) c.in-Some.ensures

pub returns-then-self-front : goal.returns-then-self-front
returns-then-self-front c =
    let text = c.self.inside.snapshot.now in
    let other = c.args.other.now in
    let front = c.same_front-front.result in
    top_stays (line_texts text) (line_texts other) c.self.inside.top.line c.self.inside.top.indent front c.self.invariant.1 c.if-self-front.true
    (within text (line_texts text) front refl c.same_front-front.ensures.within.0) (within other (line_texts other) front refl c.same_front-front.ensures.within.1)
    (same_fronts text other (line_texts text) (line_texts other) front refl refl c.same_front-front.ensures.same)

bare : (text other : List ℕ) (line base front : ℕ) → IsTop (line_texts text) line base → front ≤ line → take front (line_texts text) ≡ take front (line_texts other)
    → HasNoContent (line_texts other) 0 front
bare text other line base front top up e = front_is_bare (line_texts text) (line_texts other) line base front top up e

pub returns-in-Some-first_content : goal.returns-in-Some-first_content
returns-in-Some-first_content c =
    let text = c.self.inside.snapshot.now in
    let other = c.args.other.now in
    let front = c.same_front-front.result in
    found_is_top (line_texts other) front (c.count_of-count.result - c.same_back-back.result) c.in-Some-first_content.top (omega (arith, c.count_of-count.ensures))
    (bare text other c.self.inside.top.line c.self.inside.top.indent front c.self.invariant.1 (omega (arith, c.if-self-front.false))
    (same_fronts text other (line_texts text) (line_texts other) front refl refl c.same_front-front.ensures.same))
    c.in-Some-first_content.ensures

pub top_from-requires-clause-before : goal.top_from-requires-clause-before
top_from-requires-clause-before c =
    let text = c.self.inside.snapshot.now in
    let other = c.args.other.now in
    let front = c.same_front-front.result in
    none_up_to (line_texts other) 0 front (c.count_of-count.result - c.same_back-back.result)
    (bare text other c.self.inside.top.line c.self.inside.top.indent front c.self.invariant.1 (omega (arith, c.if-self-front.false))
    (same_fronts text other (line_texts text) (line_texts other) front refl refl c.same_front-front.ensures.same))
    c.in_default-first_content.ensures

pub returns : goal.returns
returns c =
    let text = c.self.inside.snapshot.now in
    let other = c.args.other.now in
    let front = c.same_front-front.result in
    let back = c.same_back-back.result in
    let none : HasNoContent (line_texts other) 0 (c.count_of-count.result - back) =
    none_up_to (line_texts other) 0 front (c.count_of-count.result - back)
    (bare text other c.self.inside.top.line c.self.inside.top.indent front c.self.invariant.1 (omega (arith, c.if-self-front.false))
    (same_fronts text other (line_texts text) (line_texts other) front refl refl c.same_front-front.ensures.same))
    c.in_default-first_content.ensures
    in
    let ours_within : back ≤ length (line_texts text) = within text (line_texts text) back refl c.same_back-back.ensures.within.0 in
    let theirs_within : back ≤ length (line_texts other) = within other (line_texts other) back refl c.same_back-back.ensures.within.1 in
    top_moves (line_texts text) (line_texts other) c.self.inside.top.line c.self.inside.top.indent (length (line_texts text) - back) (length (line_texts other) - back) _
    c.self.invariant.1 (subst (HasNoContent (line_texts other) 0) (ap (λ n. n - back) c.count_of-count.ensures) none)
    (omega (arith, c.if-self-back.false, c.self.invariant.0)) (omega (arith, c.self.invariant.0, c.count_of-count.ensures)) (omega (arith, ours_within, theirs_within))
    (same_backs text other (line_texts text) (line_texts other) back refl refl c.same_back-back.ensures.same)
