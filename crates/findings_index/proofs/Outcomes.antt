-- What digests tell of each other, by marks and flags that are handed out.
use Rattle.std.proofs.Common.{◌≡◌, ◌∙◌, ℕ, ◌≤◌, Bool, true, false, Some, List, [], length, refl, sym, ap, subst, arith}
use Rattle.std.specs.Prelude.{not, ◌&&◌}
use Rattle.std.specs.Option.{option_map_or}
use Rattle.std.proofs.lemmas.Option.{slice_get_within}
use Rattle.abnf_parts.specs.Core.{is_core_name}
use Rattle.abnf_parts.specs.Names.{Name, rule_number}
use Rattle.abnf_lint.specs.Marks.{mark_at}
use Rattle.abnf_digests.specs.Digests.{Digest}
use Rattle.findings_index.specs.declared.digest.BlockDigest.{BlockDigest}
use Rattle.findings_index.specs.declared.found_in.BlockTold.{BlockTold}
use Rattle.findings_index.specs.declared.heads.HeadRole.{HeadRole}
use Rattle.findings_index.specs.declared.word.Word.{Word}
use Rattle.findings_index.specs.ByTable.{AreDefinedMarks, AreFlagged, all_told, name_mark, strange_by}
use Rattle.findings_index.specs.Found.{AllAreTold}
use Rattle.findings_index.specs.own.Flags.{is_strange_number}
use Rattle.findings_index.specs.own.HeadRoles.{AreRoles}
use Rattle.findings_index.specs.Marked.{AreHoldingMarks}
use Rattle.findings_index.specs.Stored.{AreStored}
use Rattle.findings_index.specs.own.Ways.{AreCoreMarks, AreHeadMarks, AreHeadsLed, AreHeadsLedFor, AreHoldingMarksFor, held_at}
use Rattle.findings_index.proofs.ByTableLaws.{flags_tell}
use Rattle.findings_index.proofs.CoreMarks.{AreMarksUpTo}
use Rattle.findings_index.proofs.Kept.{stands_at}

-- ---- marks of the names that stand for nothing

only_core : (defined core : Bool) → (not defined && not (core && not defined)) ≡ (not core && not defined)
only_core true true = refl
only_core true false = refl
only_core false true = refl
only_core false false = refl

-- a name that no block defines is that of a core rule where it is marked as one
pub all_strange : (defined core : List Bool) (passed : ℕ) (marks : List Bool) → AreMarksUpTo (is_strange_number defined core) passed marks → length defined ≤ passed
    → (table : List Name) (blocks : List BlockDigest) → AreHeadMarks table blocks defined → AreCoreMarks table blocks core
    → (n : ℕ) (name : Name) → rule_number table name ≡ Some n → mark_at marks n ≡ strange_by table defined name
all_strange defined core passed marks upto all table blocks heads cores n name at =
    let there = stands_at table name n at in
    let within = slice_get_within table n name there in
    let is : mark_at core n ≡ (is_core_name name && not (mark_at defined n)) =
    cores.each n name there ∙ ap (λ b. is_core_name name && not b) (sym (heads.each n within)) in
    upto.each n (omega (arith, within, all, heads.one_each))
    ∙ (ap (λ b. not (mark_at defined n) && not b) is
    ∙ (only_core (mark_at defined n) (is_core_name name)
    ∙ ap (λ o. not (is_core_name name) && not (option_map_or (mark_at defined) o false)) (sym at)))

-- ---- what is told of each block

-- Digests are kept, and the roles of their heads. What is kept is lent several times.
module _ (table : List Name) (words lent_words : List Word) (blocks lent_blocks : List BlockDigest) (same_words : lent_words ≡ words) (same_blocks : lent_blocks ≡ blocks)
    (roles : List HeadRole) (are_roles : (words : List Word) (digests : List Digest) → AreStored table words lent_blocks digests → AreRoles digests roles)
    (digests : List Digest) (kept : AreStored table words blocks digests) where
  stored : AreStored table lent_words lent_blocks digests
  stored = subst (λ (kept : List Word × List BlockDigest). AreStored table kept.0 kept.1 digests) (λ i. (sym same_words i, sym same_blocks i)) kept

  roles_of : (lent : List HeadRole) → lent ≡ roles → AreRoles digests lent
  roles_of lent e = subst (AreRoles digests) (sym e) (are_roles lent_words digests stored)

  module _ {V : Type 0} (items : V → List Bool) (held led : V)
      (held_roles led_roles flag_roles : List HeadRole) (held_same : held_roles ≡ roles) (led_same : led_roles ≡ roles) (flag_same : flag_roles ≡ roles)
      (core : List Bool) (are_core : AreCoreMarks table lent_blocks core)
      (are_held : (table : List Name) → AreCoreMarks table lent_blocks core → AreHoldingMarksFor table lent_words lent_blocks held_roles (items held))
      (held_lent : List Bool) (same_lent : held_lent ≡ items held) (are_led : AreHeadsLedFor table lent_words lent_blocks led_roles held_lent (items led))
      (holding leading defined : List Bool) (same_holding : holding ≡ items held) (same_leading : leading ≡ items led)
      (are_defined : (words : List Word) (digests : List Digest) → AreStored table words lent_blocks digests → AreDefinedMarks digests table defined)
      (flags : List BlockTold)
      (are_flagged : (table : List Name) (words : List Word) (digests : List Digest) → AreStored table words lent_blocks digests → AreRoles digests flag_roles
      → AreFlagged digests (held_at table holding) (name_mark table leading) flags) where
    pub each_told : AllAreTold digests [] digests (all_told (strange_by table defined) flags)
    each_told =
        flags_tell digests (held_at table holding) (name_mark table leading) table defined
        (subst (λ m. AreHoldingMarks digests (held_at table m)) (sym same_holding)
        (are_held table are_core digests stored (roles_of held_roles held_same)))
        (subst (λ (m : List Bool × List Bool). AreHeadsLed digests (held_at table m.0) (name_mark table m.1)) (λ i. ((same_lent ∙ sym same_holding) i, sym same_leading i))
        (are_led digests stored (roles_of led_roles led_same)))
        (are_defined lent_words digests stored) flags
        (are_flagged table lent_words digests stored (roles_of flag_roles flag_same))
