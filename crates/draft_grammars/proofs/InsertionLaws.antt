-- Laws of line ends that are written anew.
use Rattle.std.proofs.Common.{◌≡◌, ℕ, List, [], ◌∷◌, ◌++◌, Bool, true, false, refl, sym, ap, ◌∙◌, encode_utf8_all}
use Rattle.std.specs.Prelude.{◌==◌, if◌then◌else◌}
use Rattle.std.proofs.lemmas.Str.{encodes-append}
use Rattle.draft_grammars.specs.Insertions.{with_crlf}

with_crlf_append : (xs ys : List ℕ) → with_crlf (xs ++ ys) ≡ with_crlf xs ++ with_crlf ys
with_crlf_append [] ys = refl
with_crlf_append (c ∷ xs) ys = by (c == 10) (with_crlf_append xs ys)
  where
    by : (b : Bool) → with_crlf (xs ++ ys) ≡ with_crlf xs ++ with_crlf ys → (if b then 13 ∷ 10 ∷ with_crlf (xs ++ ys) else c ∷ with_crlf (xs ++ ys)) ≡ (if b then 13 ∷ 10 ∷ with_crlf xs else c ∷ with_crlf xs) ++ with_crlf ys
    by true e = ap (λ t. 13 ∷ 10 ∷ t) e
    by false e = ap (λ t. c ∷ t) e

-- one character more has been written
pub crlf_pushed : (old new front : List ℕ) (c : ℕ) → new ≡ old ++ encode_utf8_all (with_crlf (c ∷ [])) → old ≡ encode_utf8_all (with_crlf front) → new ≡ encode_utf8_all (with_crlf (front ++ c ∷ []))
crlf_pushed old new front c e h =
    e ∙ ap (λ b. b ++ encode_utf8_all (with_crlf (c ∷ []))) h
    ∙ sym (encodes-append (with_crlf front) (with_crlf (c ∷ [])))
    ∙ ap encode_utf8_all (sym (with_crlf_append front (c ∷ [])))
