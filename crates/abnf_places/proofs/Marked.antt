-- The marks of a line say of its tokens what these say.
use Rattle.std.proofs.Common.{◌≡◌, ℕ, ◌+◌, ◌-◌, ◌<◌, ◌≤◌, inl, inr, subst, false, List, [], ◌∷◌, length, map, take, drop, refl, sym, ap, ◌∙◌, arith, if◌then◌else◌}
use Rattle.std.specs.Prelude.{◌&&◌, ◌||◌, ◌⊎◌, slice_index_or}
use Rattle.std.proofs.lemmas.Bool.{cases_lt}
use Rattle.std.specs.List.{list_any}
use Rattle.std.specs.Str.{bytes_eq}
use Rattle.abnf_token.specs.Classes.{Text}
use Rattle.abnf_token.specs.Folded.{lowercase}
use Rattle.abnf_token.specs.Marks.{AreMarks, mark_of}
use Rattle.abnf_token.specs.Tokens.{AreSlices, TokensOf}
use Rattle.abnf_token.specs.declared.mark.TokenMark.{TokenMark}
use Rattle.abnf_token.specs.declared.token.Token.{Token}
use Rattle.abnf_token.proofs.Laws.{slices}
use Rattle.abnf_syntax.specs.Kinds.{is_item, is_name_kind}
use Rattle.abnf_syntax.proofs.EndLaws.{marks_are}
use Rattle.abnf_parts.specs.Names.{Name}
use Rattle.abnf_places.specs.own.Stated.{IsNowhere, is_token_called, is_called_at, begins_with_name, is_first_at}

module _ (name : Name) (line : Text) where
  called : (t : Token) → t.text.now ≡ take (length t.text.now) (drop t.start line) → is_token_called name t ≡ is_called_at name line (mark_of t)
  called t e =
      let long : (t.start + length t.text.now) - t.start ≡ length t.text.now = omega arith in
      let text : t.text.now ≡ take ((t.start + length t.text.now) - t.start) (drop t.start line) = e ∙ sym (ap (λ n. take n (drop t.start line)) long) in
      ap (λ (x : Text). is_name_kind t.kind && bytes_eq name (lowercase x)) text

  any_called : (ts : List Token) → AreSlices line ts → list_any (is_token_called name) ts ≡ list_any (is_called_at name line) (map mark_of ts)
  any_called [] p = refl
  any_called (t ∷ ts) p = (λ i. called t p.0 i || any_called ts p.1 i)

  first_called : (ts : List Token) → AreSlices line ts → begins_with_name name ts ≡ is_first_at name line (map mark_of ts)
  first_called [] p = refl
  first_called (t ∷ ts) p = (λ i. if is_item t.kind then called t p.0 i else first_called ts p.1 i)

  -- no token of a line is this name, where no mark says so
  pub none_called : (marks : List TokenMark) (at : ℕ) → AreMarks line marks → list_any (is_called_at name line) marks ≡ false → (ts : List Token) → TokensOf at 0 line ts → list_any (is_token_called name) ts ≡ false
  none_called marks at are none ts of = any_called ts (slices line at ts of) ∙ (ap (list_any (is_called_at name line)) (marks_are line marks at ts are of) ∙ none)

  -- nor is the first item
  pub other_first : (marks : List TokenMark) (at : ℕ) → AreMarks line marks → is_first_at name line marks ≡ false → (ts : List Token) → TokensOf at 0 line ts → begins_with_name name ts ≡ false
  other_first marks at are other ts of = first_called ts (slices line at ts of) ∙ (ap (is_first_at name line) (marks_are line marks at ts are of) ∙ other)

-- one line more in which the name isn't written
pub nowhere_more : (ls : List Text) (name : Name) (from at : ℕ) → IsNowhere ls name from at → ((tokens : List Token) → TokensOf at 0 (slice_index_or ls at []) tokens → list_any (is_token_called name) tokens ≡ false) → IsNowhere ls name from (at + 1)
nowhere_more ls name from at none here k reached before = by (cases_lt k at)
  where
    by : (k < at) ⊎ (at ≤ k) → (tokens : List Token) → TokensOf k 0 (slice_index_or ls k []) tokens → list_any (is_token_called name) tokens ≡ false
    by (inl less) = none k reached less
    by (inr more) =
        let same : at ≡ k = omega (arith, more, before) in
        subst (λ n. (tokens : List Token) → TokensOf n 0 (slice_index_or ls n []) tokens → list_any (is_token_called name) tokens ≡ false) same here
