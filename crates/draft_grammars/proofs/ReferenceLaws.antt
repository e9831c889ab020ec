-- References at a byte of a line.
use Rattle.std.proofs.Common.{◌≡◌, ℕ, suc, ◌+◌, ◌<◌, ◌≤◌, List, ◌∷◌, length, drop, get_or, refl, sym, ap, ◌∙◌, arith}
use Rattle.std.specs.Prelude.{Option, Some, None}
use Rattle.std.specs.Option.{option_map}
use Rattle.std.specs.Str.{IsCharBoundary, IsUtf8, chars}
use Rattle.std.proofs.lemmas.List.{drop_more}
use Rattle.std.proofs.lemmas.Str.{IsCharBoundary-after_ascii, IsUtf8-drop}
use Rattle.origins.proofs.RunLaws.{chars_le}
use Rattle.xml_blocks.specs.Xml.{reference}
use Rattle.draft_grammars.specs.Places.{reference_at}
use Rattle.draft_grammars.proofs.GatherLaws.{reference_le}

-- behind an `&`
module _ (line : List ℕ) (at : ℕ) (lt : at < length line) (begins : get_or line at 0 ≡ 38) where
  pub may_split : IsUtf8 line → IsCharBoundary line (at + 1)
  may_split utf8 = IsCharBoundary-after_ascii line at utf8 lt (omega (arith, begins))

  pub behind_le : IsUtf8 line → length (chars (drop (at + 1) line)) ≤ length (drop (at + 1) line)
  behind_le utf8 = chars_le (drop (at + 1) line) (IsUtf8-drop line (at + 1) utf8 (may_split utf8))

  begun : reference_at (drop at line) ≡ option_map (λ (r : ℕ × ℕ). suc r.1) (reference (chars (drop (at + 1) line)))
  begun = ap reference_at (drop_more line at 0 lt ∙ ap (λ c. c ∷ drop (at + 1) line) begins)

  pub found : (n : ℕ) → Some n ≡ option_map (λ (r : ℕ × ℕ). r.1) (reference (chars (drop (at + 1) line))) → Some (n + 1) ≡ reference_at (drop at line)
  found n e = by (reference (chars (drop (at + 1) line))) e ∙ sym begun
    where
      by : (o : Option (ℕ × ℕ)) → Some n ≡ option_map (λ (r : ℕ × ℕ). r.1) o → Some (n + 1) ≡ option_map (λ (r : ℕ × ℕ). suc r.1) o
      by None e = absurd (cc (e))
      by (Some r) e = let same : n ≡ r.1 = cc (e) in ap Some (omega (arith, same))

  pub none : None ≡ option_map (λ (r : ℕ × ℕ). r.1) (reference (chars (drop (at + 1) line))) → None ≡ reference_at (drop at line)
  none e = by (reference (chars (drop (at + 1) line))) e ∙ sym begun
    where
      by : (o : Option (ℕ × ℕ)) → None ≡ option_map (λ (r : ℕ × ℕ). r.1) o → None ≡ option_map (λ (r : ℕ × ℕ). suc r.1) o
      by None e = refl
      by (Some r) e = absurd (cc (e))

-- a reference is no longer than the text
pub found_le : (t : List ℕ) (n : ℕ) → Some n ≡ option_map (λ (r : ℕ × ℕ). r.1) (reference t) → n ≤ length t
found_le t n e = by (reference t) refl e
  where
    by : (o : Option (ℕ × ℕ)) → reference t ≡ o → Some n ≡ option_map (λ (r : ℕ × ℕ). r.1) o → n ≤ length t
    by None is e = absurd (cc (e))
    by (Some r) is e = let same : n ≡ r.1 = cc (e) in omega (arith, same, reference_le t r is)
