-- A row of the table holds of a block exactly where it does by what is known of the block, if that is right.
use Rattle.std.proofs.Common.{◌≡◌, ◌∙◌, ℕ, ◌<◌, Bool, true, false, List, Option, Some, None, Result, Ok, Err, length, refl, ap}
use Rattle.std.specs.Prelude.{◌↔◌, Contains, IsTrue, not, slice_index_or}
use Rattle.std.specs.Option.{is_some, option_map_or}
use Rattle.std.proofs.lemmas.Bool.{and_from, and_parts, not-true}
use Rattle.ls_text.specs.declared.position.Place.{Place}
use Rattle.abnf_token.specs.Folded.{lowercase}
use Rattle.abnf_syntax.specs.declared.block.Head.{Head}
use Rattle.abnf_syntax.specs.declared.fault.SyntaxFault.{SyntaxFault}
use Rattle.abnf_syntax.specs.declared.fault.SyntaxFault.TheVariants as f
use Rattle.abnf_syntax.specs.declared.tree.Rule.{Rule}
use Rattle.abnf_syntax.specs.Heads.{head_of}
use Rattle.abnf_parts.specs.Names.{Name, rule_number}
use Rattle.abnf_names.specs.Said.{Block, BlockSays, name_of}
use Rattle.abnf_names.specs.Places.{places_in}
use Rattle.abnf_names.specs.Rules.{defined, names_of, rules_of}
use Rattle.abnf_names.specs.Shown.{fault_shown, HasFault}
use Rattle.abnf_lint.specs.declared.finding.Code.{Code}
use Rattle.abnf_lint.specs.declared.finding.Code.TheVariants as c
use Rattle.abnf_lint.specs.declared.finding.Finding.{Finding}
use Rattle.abnf_lint.specs.declared.told.HeadTold.{HeadTold}
use Rattle.abnf_lint.specs.Found.{block_found, is_none_of}
use Rattle.abnf_lint.specs.Rows.{AnyBases, AnyDefines, HasHead, IsIdle, RowHolds}
use Rattle.abnf_lint.specs.Told.{HeadStands, RowTold}
use Rattle.abnf_lint.specs.Unproductive.{AreUnproductive}
use Rattle.abnf_lint.specs.own.Findings.{based, has_name, known_of_head, is_marked}
use Rattle.abnf_lint.proofs.FoundBlock.{found_are}
use Rattle.abnf_lint.proofs.Heads.{bases_is, defines_is}

-- What is known of the block's head and of the names that it uses is right, where these are all blocks of the text and those before it.
pub record IsTold (blocks before : List Block) (block : Block) (tell : Head → HeadTold) (strange : Name → Bool) : Type 0 where
  pub twice : (head : Head) → head_of block.items ≡ Some head → ((tell head).is_duplicate ≡ true) ↔ ((head.adds ≡ false) × AnyBases before (name_of head))
  pub alone : (head : Head) → head_of block.items ≡ Some head → ((tell head).has_no_base ≡ true) ↔ ((head.adds ≡ true) × (AnyBases before (name_of head) → ⊥))
  pub nothing : (head : Head) → head_of block.items ≡ Some head →
      ((tell head).is_unproductive ≡ true) ↔ ((AnyDefines before (name_of head) → ⊥) × IsIdle blocks (name_of head))
  pub undefined : (place : Place) (name : List ℕ) → Contains (places_in block.items) (record { text = name; place = place; defines = false }) →
      (strange (lowercase name) ≡ true) ↔ (rule_number (names_of blocks) (lowercase name) ≡ None)

-- ---- faults

shown_by : (said : Result Rule SyntaxFault) (fault : SyntaxFault) → fault_shown said ≡ Some fault → said ≡ Err fault
shown_by (Ok rule) fault e = absurd (cc (e))
shown_by (Err other) fault e = let is : other ≡ fault = cc (e) in ap Err is

sound_by : (said : Result Rule SyntaxFault) → fault_shown said ≡ None → (rule : Rule) × (said ≡ Ok rule)
sound_by (Ok rule) e = (rule, refl)
sound_by (Err fault) e = absurd (cc (e))

-- ---- rows

module _ (blocks before : List Block) (block : Block) (tell : Head → HeadTold) (strange : Name → Bool) (is : IsTold blocks before block tell strange) where
  abbrev Row : Place → List ℕ → Code → Type 0
  Row = RowHolds blocks before block

  abbrev ToldRow : Place → List ℕ → Code → Type 0
  ToldRow = RowTold tell strange block.items (fault_shown block.said)

  abbrev head_to : (place : Place) (name : List ℕ) (head : Head) → HasHead block place name head → HeadStands block.items place name
  head_to place name head h = record { head = head; heads = h.heads; at = h.at; spelled = h.spelled }

  abbrev head_from : (place : Place) (name : List ℕ) (h : HeadStands block.items place name) → HasHead block place name h.head
  head_from place name h = record { heads = h.heads; at = h.at; spelled = h.spelled }

  row_to : (place : Place) (name : List ℕ) (code : Code) → Row place name code → ToldRow place name code
  row_to place name (c.Syntax fault) row = (ap fault_shown row.0, row.1, row.2)
  row_to place name c.NumberTooLarge row = (ap fault_shown row.0, row.1)
  row_to place name c.TooDeep row = (ap fault_shown row.0, row.1)
  row_to place name c.Undefined row = (ap fault_shown row.0.1, row.1, (is.undefined place name row.1).1 row.2)
  row_to place name c.Duplicate row = (head_to place name row.0 row.1, (is.twice row.0 row.1.heads).1 (row.2, row.3))
  row_to place name c.NoBase row = (head_to place name row.0 row.1, (is.alone row.0 row.1.heads).1 (row.2, row.3))
  row_to place name c.EmptyRepeat row = (ap fault_shown row.0.1, record { item = row.1.item; among = row.1.among; at = row.1.at; is = row.1.is }, row.2)
  row_to place name c.EmptyRange row = (ap fault_shown row.0.1, record { item = row.1.item; among = row.1.among; at = row.1.at; is = row.1.is }, row.2)
  row_to place name c.Unproductive row = (head_to place name row.0 row.1, (is.nothing row.0 row.1.heads).1 (row.2, row.3))

  row_from : (place : Place) (name : List ℕ) (code : Code) → ToldRow place name code → Row place name code
  row_from place name (c.Syntax fault) row = (shown_by block.said fault row.0, row.1, row.2)
  row_from place name c.NumberTooLarge row = (shown_by block.said (f.NumberTooLarge place) row.0, row.1)
  row_from place name c.TooDeep row = (shown_by block.said (f.TooDeep place) row.0, row.1)
  row_from place name c.Undefined row = (sound_by block.said row.0, row.1, (is.undefined place name row.1).0 row.2)
  row_from place name c.Duplicate row = let t = (is.twice row.0.head row.0.heads).0 row.1 in (row.0.head, head_from place name row.0, t.0, t.1)
  row_from place name c.NoBase row = let t = (is.alone row.0.head row.0.heads).0 row.1 in (row.0.head, head_from place name row.0, t.0, t.1)
  row_from place name c.EmptyRepeat row = (sound_by block.said row.0, record { item = row.1.item; among = row.1.among; at = row.1.at; is = row.1.is }, row.2)
  row_from place name c.EmptyRange row = (sound_by block.said row.0, record { item = row.1.item; among = row.1.among; at = row.1.at; is = row.1.is }, row.2)
  row_from place name c.Unproductive row = let t = (is.nothing row.0.head row.0.heads).0 row.1 in (row.0.head, head_from place name row.0, t.0, t.1)

  pub rows_told : (place : Place) (name : List ℕ) (code : Code) → RowHolds blocks before block place name code ↔ RowTold tell strange block.items (fault_shown block.said) place name code
  rows_told place name code = (row_to place name code, row_from place name code)

-- ---- what the pass over the blocks knows is right

not_has : (b : Bool) → (b ≡ true → ⊥) → not b ≡ true
not_has true f = absurd (f refl)
not_has false f = refl

has_not : (b : Bool) → not b ≡ true → b ≡ true → ⊥
has_not true n e = cc (n)
has_not false n e = cc (e)

some_or : (o : Option ℕ) → not (is_some o) ≡ true → o ≡ None
some_or None e = refl
some_or (Some k) e = absurd (cc e)

module _ (blocks before : List Block) (block : Block) (marks : List Bool) (are : AreUnproductive (rules_of blocks) marks) (says : BlockSays block.items block.said)
    (in_range : (n : Name) (r : ℕ) → rule_number (names_of blocks) n ≡ Some r → r < length (rules_of blocks)) where
  abbrev names : List Name
  names = names_of blocks

  abbrev tell : Head → HeadTold
  tell = known_of_head marks names (defined before) (based before)

  marked_by : (o : Option ℕ) → option_map_or (λ r. slice_index_or marks r false) o false ≡ true → (r : ℕ) × (o ≡ Some r) × IsTrue (slice_index_or marks r false)
  marked_by None e = absurd (cc e)
  marked_by (Some r) e = (r, refl, e)

  idle_of : (n : Name) → is_marked marks names n ≡ true → IsIdle blocks n
  idle_of n e = let m = marked_by (rule_number names n) e in (m.0, m.1, (are.each m.0 (in_range n m.0 m.1)).0 m.2)

  of_idle : (n : Name) → IsIdle blocks n → is_marked marks names n ≡ true
  of_idle n h = ap (λ o. option_map_or (λ r. slice_index_or marks r false) o false) h.1 ∙ (are.each h.0 (in_range n h.0 h.1)).1 h.2

  told_rightly : IsTold blocks before block tell (is_none_of names)
  told_rightly = record {
    twice = λ head e.
        let has = has_name (based before) (name_of head) in (
          λ h. let t = and_parts (not head.adds) has h in (not-true head.adds t.0, (bases_is before (name_of head)).0 t.1),
          λ h. and_from (not head.adds) has (ap not h.0) ((bases_is before (name_of head)).1 h.1),
        );
    alone = λ head e.
        let has = has_name (based before) (name_of head) in (
          λ h. let t = and_parts head.adds (not has) h in (t.0, λ any. has_not has t.1 ((bases_is before (name_of head)).1 any)),
          λ h. and_from head.adds (not has) h.0 (not_has has (λ e. h.1 ((bases_is before (name_of head)).0 e))),
        );
    nothing = λ head e.
        let has = has_name (defined before) (name_of head) in
        let marked = is_marked marks names (name_of head) in (
          λ h. let t = and_parts (not has) marked h in (λ any. has_not has t.0 ((defines_is before (name_of head)).1 any), idle_of (name_of head) t.1),
          λ h. and_from (not has) marked (not_has has (λ e. h.0 ((defines_is before (name_of head)).0 e))) (of_idle (name_of head) h.1),
        );
    undefined = λ place name at. (some_or (rule_number names (lowercase name)), λ e. ap (λ o. not (is_some o)) e);
  }

  pub found_holds : (g : Finding) → Contains (block_found tell (is_none_of names) block.items (fault_shown block.said)) g ↔ RowHolds blocks before block g.place g.name g.code
  found_holds g =
      let has : HasFault block.items (fault_shown block.said) = record { said = block.said; says = says; shown = refl } in
      let rows = rows_told blocks before block tell (is_none_of names) told_rightly g.place g.name g.code in
      let found = found_are tell (is_none_of names) block.items (fault_shown block.said) has g in
      (λ h. rows.1 (found.0 h), λ h. found.1 (rows.0 h))
