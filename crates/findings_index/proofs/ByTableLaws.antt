-- What is told by flags and marks beside a table.
use Rattle.std.proofs.Common.{◌≡◌, ◌∙◌, ℕ, suc, Bool, false, Option, Some, List, [], ◌∷◌, ◌++◌, length, take, refl, sym, ap, subst, append_assoc, append-nil, arith}
use Rattle.std.specs.Prelude.{Contains, not, ◌&&◌, slice_get}
use Rattle.std.specs.List.{list_any}
use Rattle.std.specs.Option.{option_map_or}
use Rattle.std.specs.Str.{bytes_eq}
use Rattle.abnf_parts.specs.Core.{is_core_name}
use Rattle.abnf_parts.specs.Names.{Name}
use Rattle.abnf_digests.specs.Digests.{Digest, defined_by}
use Rattle.abnf_digests.specs.Roles.{Role}
use Rattle.findings_index.specs.declared.found_in.BlockTold.{BlockTold}
use Rattle.findings_index.specs.ByTable.{AreDefinedMarks, AreFlagged, IsFlagged, all_told, strange_by, told_of_flags}
use Rattle.findings_index.specs.Found.{AllAreTold}
use Rattle.findings_index.specs.Marked.{AreHoldingMarks}
use Rattle.findings_index.specs.ToldOfBlock.{IsToldOf, is_strange}
use Rattle.findings_index.specs.own.Ways.{AreHeadsLed}
use Rattle.findings_index.proofs.Elements.{first_in, later_in}
use Rattle.findings_index.proofs.ToldMarks.{told_is}

module _ (digests : List Digest) (held led : Name → Bool) (table : List Name) (defined : List Bool) (are_held : AreHoldingMarks digests held) (are_led : AreHeadsLed digests held led)
    (are_defined : AreDefinedMarks digests table defined) where
  -- where the marks say which names are defined, they say which are strange
  strange_as : (name : Name) → strange_by table defined name ≡ is_strange (λ own. list_any (bytes_eq own) (defined_by digests)) name
  strange_as name = ap (λ mark. not (is_core_name name) && not mark) (are_defined name)

  told_of_is : (before : List Digest) (digest : Digest) (told : BlockTold) → Contains digests digest → IsFlagged before held led digest told → IsToldOf digests before digest (told_of_flags told (strange_by table defined))
  told_of_is before digest told among flagged =
      let by_marks = told_is digests before digest held led are_held (λ head e. are_led digest head among e) in
      record {
        role = flagged.role;
        idle = λ head e first.
            let same = ap (λ (o : Option (Name × Bool)). option_map_or (λ head. not (held head.0) && not (led head.0)) o false) e ∙ sym (flagged.idle head e first) in
            let is_first = ap (λ (role : Role). role.is_first) (by_marks.role head e ∙ sym (flagged.role head e)) ∙ first in
            let by = by_marks.idle head e is_first in
            (λ h. by.0 (same ∙ h), λ h. sym same ∙ by.1 h);
        strange = λ name used. let by = by_marks.strange name used in (λ h. by.0 (sym (strange_as name) ∙ h), λ h. strange_as name ∙ by.1 h);
      }

  all_told_are : (before rest : List Digest) (tolds : List BlockTold) → ((digest : Digest) → Contains rest digest → Contains digests digest) → length tolds ≡ length rest
      → ((k : ℕ) (digest : Digest) (told : BlockTold) → slice_get rest k ≡ Some digest → slice_get tolds k ≡ Some told → IsFlagged (before ++ take k rest) held led digest told)
      → AllAreTold digests before rest (all_told (strange_by table defined) tolds)
  all_told_are before [] [] among long each = tt
  all_told_are before [] (told ∷ tolds) among long each = absurd (omega (arith, long))
  all_told_are before (digest ∷ rest) [] among long each = absurd (omega (arith, long))
  all_told_are before (digest ∷ rest) (told ∷ tolds) among long each = (
    told_of_is before digest told (among digest (first_in digest rest)) (subst (λ bs. IsFlagged bs held led digest told) (append-nil before) (each 0 digest told refl refl)),
    all_told_are (before ++ digest ∷ []) rest tolds (λ d c. among d (later_in digest rest d c)) (omega (arith, long))
        (λ k d t in_rest in_tolds. subst (λ bs. IsFlagged bs held led d t) (sym (append_assoc before (digest ∷ []) (take k rest))) (each (suc k) d t in_rest in_tolds)),
  )

  pub flags_tell : (tolds : List BlockTold) → AreFlagged digests held led tolds → AllAreTold digests [] digests (all_told (strange_by table defined) tolds)
  flags_tell tolds flagged = all_told_are [] digests tolds (λ d c. c) flagged.one_each flagged.each
