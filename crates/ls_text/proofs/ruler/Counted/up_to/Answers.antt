use Rattle.std.proofs.Common.{◌≡◌, ℕ, ◌+◌, ◌≤◌, List, length, take, drop, sym, ap, subst, ◌∙◌, arith}
use Rattle.std.specs.Prelude.{sum_by}
use Rattle.std.specs.Str.{chars, IsCharBoundary, IsUtf8, encode_utf8_all}
use Rattle.std.proofs.lemmas.List.{length-take-le, take_all}
use Rattle.std.proofs.lemmas.Str.{IsUtf8-drop}
use Rattle.ls_text.specs.Lines.{units}
use Rattle.ls_text.specs.declared.ruler.Counted.{Counted}
use Rattle.ls_text.proofs.UnitLaws.{units_le}
use Rattle.ls_text.proofs.RulerLaws.{back_chars, count_le, counted_on, front_boundary, front_chars, small_sum, units_on}
use Rattle.ls_text.proofs.ruler.Counted.up_to.Goals as goal

boundary : (bs : List ℕ) → IsUtf8 bs → (n b : ℕ) → b ≡ length (encode_utf8_all (take n (chars bs))) → IsCharBoundary bs b
boundary bs u n b is = subst (IsCharBoundary bs) (sym is) (front_boundary bs u n)

-- the characters of the front
front_is : (bs more : List ℕ) → IsUtf8 bs → (n b : ℕ) → b ≡ length (encode_utf8_all (take n (chars bs))) → more ≡ take b bs → chars more ≡ take n (chars bs)
front_is bs more u n b is front = ap chars (front ∙ ap (λ k. take k bs) is) ∙ front_chars bs u n

-- its units
units_are : (width : ℕ → ℕ) (cs more : List ℕ) (n sum : ℕ) → n ≤ length cs → more ≡ take n cs → sum ≡ sum_by width (take n more) → sum ≡ sum_by width (take n cs)
units_are width cs more n sum le is e = e ∙ ap (sum_by width) (take_all n more (omega (arith, ap length is, length-take-le n cs le)) ∙ is)

pub split_at-requires : goal.split_at-requires
split_at-requires c = boundary _ c.requires.counted.1.utf8 _ _ c.chars_fitting-fit.ensures.bytes

pub overflow_add-result : goal.overflow_add-result
overflow_add-result c =
    let is = c.requires.counted.1 in
    omega (arith, is.bytes, c.chars_fitting-fit.ensures.bytes, small_sum _ _ _ is c.args.bytes c.requires.behind _ c.chars_fitting-fit.ensures.count)

pub units_before-requires-clause-characters : goal.units_before-requires-clause-characters
units_before-requires-clause-characters c =
    let is = c.requires.counted.1 in
    let front = front_is _ _ is.utf8 _ _ c.chars_fitting-fit.ensures.bytes c.split_at.ensures.front in
    omega (arith, ap length front, length-take-le c.chars_fitting-fit.result.count (chars c.args.self.rest.now) (count_le _ _ _ is c.args.bytes c.requires.behind _ c.chars_fitting-fit.ensures.count))

pub units_before-requires-clause-small : goal.units_before-requires-clause-small
units_before-requires-clause-small c =
    let is = c.requires.counted.1 in
    omega (arith, c.split_at.ensures.front_len, c.chars_fitting-fit.ensures.bytes, small_sum _ _ _ is c.args.bytes c.requires.behind _ c.chars_fitting-fit.ensures.count)

pub overflow_add-result-2 : goal.overflow_add-result-2
overflow_add-result-2 c =
    let is = c.requires.counted.1 in
    let le = count_le _ _ _ is c.args.bytes c.requires.behind _ c.chars_fitting-fit.ensures.count in
    let front = front_is _ _ is.utf8 _ _ c.chars_fitting-fit.ensures.bytes c.split_at.ensures.front in
    let sum = units_are (units c.args.encoding) (chars c.args.self.rest.now) _ _ _ le front c.units_before.ensures in
    omega (arith, sum, is.units, units_le c.args.encoding is.front, units_le c.args.encoding (take c.chars_fitting-fit.result.count (chars c.args.self.rest.now)), small_sum _ _ _ is c.args.bytes c.requires.behind _ c.chars_fitting-fit.ensures.count)

pub returns : goal.returns
returns c line is =
    let utf8 = c.requires.counted.1.utf8 in
    let count = c.chars_fitting-fit.ensures.count in
    let bytes = c.chars_fitting-fit.ensures.bytes in
    let le = count_le (units c.args.encoding) line c.args.self is c.args.bytes c.requires.behind _ count in
    let front = front_is _ _ utf8 _ _ bytes c.split_at.ensures.front in
    let back = ap chars (c.split_at.ensures.back ∙ ap (λ k. drop k c.args.self.rest.now) bytes) ∙ back_chars _ utf8 c.chars_fitting-fit.result.count in
    let sum = ap (λ k. c.args.self.units + k) (units_are (units c.args.encoding) (chars c.args.self.rest.now) _ _ _ le front c.units_before.ensures) in
    let rest_utf8 = subst IsUtf8 (sym c.split_at.ensures.back) (IsUtf8-drop c.args.self.rest.now c.chars_fitting-fit.result.bytes utf8 (boundary _ utf8 _ _ bytes)) in
    let on : Counted = record { rest = c.split_at.result.1; bytes = c.args.self.bytes + c.chars_fitting-fit.result.bytes; units = c.args.self.units + c.units_before.result } in (
      counted_on (units c.args.encoding) line c.args.self is c.args.bytes c.requires.behind _ count on back (ap (λ k. c.args.self.bytes + k) bytes) sum rest_utf8,
      units_on (units c.args.encoding) line c.args.self is c.args.bytes c.requires.behind _ count on back (ap (λ k. c.args.self.bytes + k) bytes) sum rest_utf8,
    )
