-- A row of the table holds of a block exactly where it does by what is told of the block.
use Rattle.std.proofs.Common.{◌≡◌, ℕ, Bool, true, false, not, List, ◌∷◌, ◌++◌, map, Option, Some, None, option_map, refl, sym, ap, subst, ◌∙◌}
use Rattle.std.specs.Prelude.{◌↔◌, ◌&&◌, filter, Contains}
use Rattle.std.specs.Option.{is_some}
use Rattle.std.proofs.lemmas.Bool.{and_from, and_parts, not-true}
use Rattle.std.proofs.lemmas.List.Elements.{Contains-append_left, Contains-append_right}
use Rattle.ls_text.specs.declared.position.Place.{Place}
use Rattle.abnf_token.specs.Folded.{lowercase}
use Rattle.abnf_syntax.specs.declared.block.Head.{Head}
use Rattle.abnf_syntax.specs.Heads.{head_of}
use Rattle.abnf_parts.specs.Names.{Name, rule_number}
use Rattle.abnf_parts.specs.Core.{core_name}
use Rattle.abnf_names.specs.Said.{Block, AreSaid, name_of}
use Rattle.abnf_names.specs.Places.{Named, places_in}
use Rattle.abnf_names.specs.Rules.{adds, defined, needed, names_of, rules_of}
use Rattle.abnf_names.specs.Shown.{fault_shown}
use Rattle.abnf_lint.specs.declared.finding.Code.{Code}
use Rattle.abnf_lint.specs.Rows.{AnyBases, AnyDefines, IsIdle, RowHolds}
use Rattle.abnf_lint.specs.Unproductive.{IsUnproductive}
use Rattle.abnf_lint.proofs.Heads.{bases_is, defines_is, has_from, from_has}
use Rattle.abnf_lint.proofs.Member.{first_in, filter_in}
use Rattle.abnf_lint.proofs.RowsTold as rows
use Rattle.abnf_lint.proofs.RowsTold.{IsTold}
use Rattle.abnf_digests.specs.Digests.{head_digest, digest_of, adds_by, defined_by, used_names}
use Rattle.abnf_digests.specs.Roles.{Role, is_among, names_with_base, role, based_by}
use Rattle.abnf_digests.proofs.Heads.{adds_is, defined_is, filter_is}
use Rattle.abnf_digests.proofs.NoRows.{map_in}
use Rattle.findings_index.specs.ToldOfBlock.{IsIdleBy, ToldOfBlock, IsToldOf, RowTold, head_told}
use Rattle.findings_index.proofs.ToldMarks.{has_not, not_has}
use Rattle.findings_index.proofs.Undefined.{for_nothing}

-- what names tell of what is unproductive
abbrev pub NamesTell : Type 0
NamesTell = (text : List ℕ) (blocks : List Block) (name : Name) (r : ℕ) → AreSaid text blocks → rule_number (names_of blocks) name ≡ Some r →
    IsUnproductive (rules_of blocks) r ↔ IsIdleBy (map digest_of blocks) name

-- ---- tests

number_of : (o : Option ℕ) → is_some o ≡ true → (r : ℕ) × (o ≡ Some r)
number_of None e = absurd (cc e)
number_of (Some r) e = (r, refl)

abbrev is_use : Named → Bool
is_use place = not place.defines

abbrev used_name : Named → Name
used_name place = lowercase place.text

based_is : (blocks : List Block) → based_by (map digest_of blocks) ≡ names_with_base blocks
based_is blocks =
    ap defined_by (filter_is (λ digest. not (adds_by digest)) (λ block. not (adds block)) (λ block. ap not (adds_is block)) blocks)
    ∙ defined_is (filter (λ block. not (adds block)) blocks)

module _ (tell : NamesTell) (text : List ℕ) (blocks before : List Block) (block : Block) (after : List Block) (of_text : AreSaid text blocks)
    (split : blocks ≡ before ++ block ∷ after)
    (told : ToldOfBlock) (is : IsToldOf (map digest_of blocks) (map digest_of before) (digest_of block) told) where
  among : Contains blocks block
  among = subst (λ (bs : List Block). Contains bs block) (sym split) (Contains-append_right before (block ∷ after) block (first_in block after))

  -- ---- of the head

  module _ (head : Head) (heads : head_of block.items ≡ Some head) where
    abbrev own : Name
    own = name_of head

    role_is : told.role ≡ role (defined before) (names_with_base before) own head.adds
    role_is =
        is.role (head_digest head) (ap (option_map head_digest) heads)
        ∙ (λ i. role (defined_is before i) (based_is before i) own head.adds)

    twice_is : (told.role.is_duplicate ≡ true) ↔ ((head.adds ≡ false) × AnyBases before own)
    twice_is =
        let e : told.role.is_duplicate ≡ (not head.adds && is_among (names_with_base before) own) = ap (λ (r : Role). r.is_duplicate) role_is in (
          λ h. let k = and_parts (not head.adds) (is_among (names_with_base before) own) (sym e ∙ h) in (not-true head.adds k.0, (bases_is before own).0 k.1),
          λ h. e ∙ and_from (not head.adds) (is_among (names_with_base before) own) (ap not h.0) ((bases_is before own).1 h.1),
        )

    alone_is : (told.role.has_no_base ≡ true) ↔ ((head.adds ≡ true) × (AnyBases before own → ⊥))
    alone_is =
        let e : told.role.has_no_base ≡ (head.adds && not (is_among (names_with_base before) own)) = ap (λ (r : Role). r.has_no_base) role_is in (
          λ h. let k = and_parts head.adds (not (is_among (names_with_base before) own)) (sym e ∙ h) in
              (k.0, λ any. has_not (is_among (names_with_base before) own) k.1 ((bases_is before own).1 any)),
          λ h. e ∙ and_from head.adds (not (is_among (names_with_base before) own)) h.0 (not_has (is_among (names_with_base before) own) (λ has. h.1 ((bases_is before own).0 has))),
        )

    first_is : (told.role.is_first ≡ true) ↔ (AnyDefines before own → ⊥)
    first_is =
        let e : told.role.is_first ≡ not (is_among (defined before) own) = ap (λ (r : Role). r.is_first) role_is in (
          λ h. λ any. has_not (is_among (defined before) own) (sym e ∙ h) ((defines_is before own).1 any),
          λ h. e ∙ not_has (is_among (defined before) own) (λ has. h ((defines_is before own).0 has)),
        )

    numbered : (r : ℕ) × (rule_number (names_of blocks) own ≡ Some r)
    numbered =
        let there : Contains (defined blocks) own = from_has (defined blocks) own ((defines_is blocks own).1 (block, among, ap (option_map name_of) heads)) in
        number_of (rule_number (names_of blocks) own) (has_from (names_of blocks) own (Contains-append_left (defined blocks) (map core_name (needed blocks)) own there))

    idle_is : IsIdle blocks own ↔ IsIdleBy (map digest_of blocks) own
    idle_is = (λ h. (tell text blocks own h.0 of_text h.1).0 h.2, λ h. (numbered.0, numbered.1, (tell text blocks own numbered.0 of_text numbered.1).1 h))

    idle_told : told.role.is_first ≡ true → (told.idle ≡ true) ↔ IsIdleBy (map digest_of blocks) own
    idle_told first = is.idle (head_digest head) (ap (option_map head_digest) heads) first

    nothing_is : ((told.role.is_first && told.idle) ≡ true) ↔ ((AnyDefines before own → ⊥) × IsIdle blocks own)
    nothing_is = (
      λ h. let t = and_parts told.role.is_first told.idle h in (first_is.0 t.0, idle_is.1 ((idle_told t.0).0 t.1)),
      λ h.
          let first : told.role.is_first ≡ true = first_is.1 h.0 in
          and_from told.role.is_first told.idle first ((idle_told first).1 (idle_is.0 h.1)),
    )

  -- ---- of a name that is used

  strange_is : (place : Place) (name : List ℕ) → Contains (places_in block.items) (record { text = name; place = place; defines = false }) →
      (told.strange (lowercase name) ≡ true) ↔ (rule_number (names_of blocks) (lowercase name) ≡ None)
  strange_is place name at =
      let named : Named = record { text = name; place = place; defines = false } in
      let used : Contains (used_names (places_in block.items)) (lowercase name) =
      map_in used_name (filter is_use (places_in block.items)) named (filter_in is_use (places_in block.items) named at refl) in
      let one = is.strange (lowercase name) used in
      let other = for_nothing blocks block named among at in
      (λ h. other.1 (one.0 h), λ h. one.1 (other.0 h))

  -- ---- rows

  told_rightly : IsTold blocks before block (λ head. head_told told) told.strange
  told_rightly = record {
    twice = twice_is;
    alone = alone_is;
    nothing = nothing_is;
    undefined = strange_is;
  }

  pub rows_told : (place : Place) (name : List ℕ) (code : Code) → RowHolds blocks before block place name code ↔ RowTold told block.items (fault_shown block.said) place name code
  rows_told = rows.rows_told blocks before block (λ head. head_told told) told.strange told_rightly
