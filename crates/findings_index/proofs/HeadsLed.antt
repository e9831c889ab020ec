-- Where the name of each head holds by marks, nothing needs to be marked as leading to something opaque.
use Rattle.std.proofs.Common.{◌≡◌, ◌∙◌, Bool, true, false, not, Some, Result, Ok, Err, List, sym, ap}
use Rattle.std.specs.Prelude.{IfOk}
use Rattle.std.specs.List.{list_any}
use Rattle.std.specs.Option.{option_map_or}
use Rattle.std.proofs.lemmas.Option.{slice_get-get_or}
use Rattle.abnf_parts.specs.Core.{is_core_name}
use Rattle.abnf_parts.specs.Names.{Name}
use Rattle.abnf_lint.specs.Marks.{mark_at}
use Rattle.findings_index.specs.declared.digest.BlockDigest.{BlockDigest}
use Rattle.findings_index.specs.declared.heads.HeadRole.{HeadRole}
use Rattle.findings_index.specs.declared.word.Word.{Word}
use Rattle.findings_index.specs.own.Ways.{AreHeadsLedFor, AreLeadingMarksFor, is_unmarked}
use Rattle.findings_index.specs.Stored.{IsStored}
use Rattle.findings_index.proofs.Elements.{any_there, get_contains}
use Rattle.findings_index.proofs.Kept.{head_kept, zip_back}
use Rattle.findings_index.proofs.ToldMarks.{all_led}

module _ (table : List Name) (words : List Word) (blocks : List BlockDigest) (roles : List HeadRole) (held led : List Bool) where
  pub heads_hold : list_any (λ (block : BlockDigest). is_unmarked held block.head) blocks ≡ false → AreHeadsLedFor table words blocks roles held led
  heads_hold all digests stored are digest head among is none =
      let at = slice_get-get_or digests among.0 digest among.1 ∙ ap Some among.2 in
      let b = zip_back (IsStored table words) blocks digests among.0 digest stored at in
      let h = head_kept table b.0.head digest.head head b.2.head is in
      let unmarked : is_unmarked held b.0.head ≡ true =
      ap (is_unmarked held) h.1 ∙ ap not (sym (ap (λ o. option_map_or (mark_at held) o (is_core_name head.0)) h.2) ∙ none) in
      let one : list_any (λ (block : BlockDigest). is_unmarked held block.head) blocks ≡ true =
      any_there (λ (block : BlockDigest). is_unmarked held block.head) blocks b.0 (get_contains blocks among.0 b.0 b.1) unmarked in
      let f : false ≡ true = sym all ∙ one in
      absurd (cc (f))

  pub heads_led : AreLeadingMarksFor table words blocks roles led → AreHeadsLedFor table words blocks roles held led
  heads_led are_led digests stored are = all_led digests _ _ (are_led digests stored are)

-- what is found is so, if anything is
pub found_more : {V E : Type 0} (P Q : V → Type 0) → ((v : V) → P v → Q v) → (found : Result V E) → IfOk found P → IfOk found Q
found_more P Q more (Ok v) h = more v h
found_more P Q more (Err e) h = tt
