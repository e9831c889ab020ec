-- Nothing is found in a block at whose head nothing is found, that has no findings of its own, and that uses no name that stands for nothing.
use Rattle.std.proofs.Common.{◌≡◌, ℕ, ◌≤◌, Bool, true, false, not, ◌&&◌, List, [], ◌∷◌, ◌++◌, length, Option, Some, None, refl, sym, ap, subst, ◌∙◌}
use Rattle.std.specs.Prelude.{Contains, flat_map, if◌then◌else◌, slice_index_or, slice_range, unwrap_or}
use Rattle.std.specs.List.{list_any}
use Rattle.std.specs.Option.{is_some, option_map_or}
use Rattle.std.proofs.lemmas.Bool.{and_parts, not-true}
use Rattle.std.proofs.lemmas.List.Elements.{Contains-append_left, Contains-append_right}
use Rattle.std.proofs.lemmas.Option.{get_or_from_slice_get}
use Rattle.ls_text.specs.declared.position.Place.{Place}
use Rattle.abnf_token.specs.declared.token.Kind.{Kind}
use Rattle.abnf_token.specs.declared.token.Kind.TheVariants as k
use Rattle.abnf_token.specs.Folded.{lowercase}
use Rattle.abnf_syntax.specs.declared.block.Head.{Head}
use Rattle.abnf_syntax.specs.declared.fault.SyntaxFault.{SyntaxFault}
use Rattle.abnf_syntax.specs.declared.item.Item.{Item}
use Rattle.abnf_syntax.specs.Faults.{place_of}
use Rattle.abnf_syntax.specs.Grammar.{kind_of}
use Rattle.abnf_syntax.specs.Heads.{head_of}
use Rattle.abnf_syntax.specs.Kinds.{is_name_kind}
use Rattle.abnf_parts.specs.Names.{Name}
use Rattle.abnf_parts.proofs.NameLaws.{never}
use Rattle.abnf_names.specs.Said.{Block, BlockSays}
use Rattle.abnf_names.specs.Shown.{fault_shown}
use Rattle.abnf_names.specs.Places.{is_touched, named, places_in, use_after, uses_after}
use Rattle.abnf_lint.specs.declared.finding.Code.TheVariants as c
use Rattle.abnf_lint.specs.Marks.{mark_at}
use Rattle.abnf_lint.specs.Empty.{is_empty_number}
use Rattle.abnf_lint.specs.Found.{body_found, fault_found, finding_if, items_found, number_found, use_found}
use Rattle.abnf_digests.specs.Digests.{digest_of, used_names}
use Rattle.abnf_digests.specs.Quiet.{has_own_findings}
use Rattle.findings_index.specs.declared.digest.BlockDigest.{BlockDigest}
use Rattle.findings_index.specs.declared.found_in.BlockTold.{BlockTold}
use Rattle.findings_index.specs.declared.outcome.NameIndex.{NameIndex}
use Rattle.findings_index.specs.declared.word.Word.{Word}
use Rattle.findings_index.specs.declared.word.Word.TheVariants as w
use Rattle.findings_index.specs.own.Flags.{is_marked_name}
use Rattle.findings_index.specs.Found.{found_at_head, found_by}
use Rattle.findings_index.specs.KeptBlocks.{IsKept}
use Rattle.findings_index.specs.Outcomes.{IsOutcome, IsQuietAt, strange_in, told_in}
use Rattle.findings_index.specs.Stored.{IsStored, Stored}
use Rattle.findings_index.specs.ToldOfBlock.{ToldOfBlock}
use Rattle.findings_index.specs.Words.{names_in, number_in_table, words_of}
use Rattle.findings_index.proofs.Elements.{any_there, first_in, flat, flat_back}
use Rattle.findings_index.proofs.NamesOfItems.{uses_said}
use Rattle.findings_index.proofs.ToldOfBlock.{used_both}
use Rattle.findings_index.proofs.Undefined.{left_false, right_false}
use Rattle.findings_index.proofs.UseLaws as uses

abbrev is_empty : Item → Bool
is_empty item = is_empty_number (kind_of item) item.token.text.now

-- ---- at the head

none_at : (told : ToldOfBlock) (head : Option Head) → told.role.is_duplicate ≡ false → told.role.has_no_base ≡ false → (told.role.is_first && told.idle) ≡ false
    → option_map_or (found_at_head told) head [] ≡ []
none_at told None d b u = refl
none_at told (Some head) d b u = λ i.
    finding_if (d i) c.Duplicate (place_of head.name) head.name.text.now
    ++ finding_if (b i) c.NoBase (place_of head.name) head.name.text.now
    ++ finding_if (u i) c.Unproductive (place_of head.name) head.name.text.now

-- ---- at the items

module _ (strange : Name → Bool) where
  abbrev NoneStrange : List Name → Type 0
  NoneStrange names = (name : Name) → Contains names name → strange name ≡ false

  none_used : (touched is : Bool) (x : Item)
      → NoneStrange (used_names (if touched then [] else (if is then record { text = x.token.text.now; place = place_of x.token; defines = false } ∷ [] else [])))
      → flat_map (use_found strange) (if touched then [] else (if is then record { text = x.token.text.now; place = place_of x.token; defines = false } ∷ [] else [])) ≡ []
  none_used true is x h = refl
  none_used false false x h = refl
  none_used false true x h =
      ap (λ b. finding_if b c.Undefined (place_of x.token) x.token.text.now ++ []) (h (lowercase x.token.text.now) (first_in (lowercase x.token.text.now) []))

  none_empty : (kind : Kind) (place : Place) (text : List ℕ) → is_empty_number kind text ≡ false → number_found kind place text ≡ []
  none_empty k.Repeat place text e = ap (λ b. finding_if b c.EmptyRepeat place []) e
  none_empty k.Number place text e = ap (λ b. finding_if b c.EmptyRange place []) e
  none_empty kind place text e = refl

  none_behind : (before : Kind) (items : List Item) → NoneStrange (used_names (uses_after before items)) → list_any is_empty items ≡ false
      → items_found strange before items ≡ []
  none_behind before [] h e = refl
  none_behind before (x ∷ xs) h e =
      let here = used_names (use_after before x) in
      let later = used_names (uses_after (kind_of x) xs) in
      let all : NoneStrange (here ++ later) = subst NoneStrange (used_both (use_after before x) (uses_after (kind_of x) xs)) h in
      λ i.
      (none_used (is_touched before x) (is_name_kind (kind_of x)) x (λ name d. all name (Contains-append_left here later name d)) i
      ++ none_empty (kind_of x) (place_of x.token) x.token.text.now (left_false (is_empty x) (list_any is_empty xs) e) i)
      ++ none_behind (kind_of x) xs (λ name d. all name (Contains-append_right here later name d)) (right_false (is_empty x) (list_any is_empty xs) e) i

  none_in_body : (items : List Item) → NoneStrange (used_names (places_in items)) → list_any is_empty items ≡ false → body_found strange items ≡ []
  none_in_body [] h e = refl
  none_in_body (x ∷ xs) h e =
      let first = named (is_some (head_of (x ∷ xs))) x in
      let all : NoneStrange (used_names first ++ used_names (uses_after (kind_of x) xs)) = subst NoneStrange (used_both first (uses_after (kind_of x) xs)) h in
      none_behind (kind_of x) xs (λ name d. all name (Contains-append_right (used_names first) (used_names (uses_after (kind_of x) xs)) name d))
      (right_false (is_empty x) (list_any is_empty xs) e)

-- ---- in a block

none_is : (fault : Option SyntaxFault) → is_some fault ≡ false → fault ≡ None
none_is None e = refl
none_is (Some fault) e = absurd (cc (e))

none_found : (told : ToldOfBlock) (block : Block) → told.role.is_duplicate ≡ false → told.role.has_no_base ≡ false → (told.role.is_first && told.idle) ≡ false
    → fault_shown block.said ≡ None → list_any is_empty block.items ≡ false → NoneStrange told.strange (digest_of block).uses
    → found_by told block.items (fault_shown block.said) ≡ []
none_found told block d b u none empty free = λ i.
    none_at told (head_of block.items) d b u i
    ++ (ap (λ fault. option_map_or fault_found fault (body_found told.strange block.items)) none ∙ none_in_body told.strange block.items free empty) i

-- ---- by a digest

not_any : {X : Type 0} (test : X → Bool) (xs : List X) (x : X) → list_any test xs ≡ false → Contains xs x → test x ≡ false
not_any test xs x none c = by (test x) refl
  where
    by : (b : Bool) → test x ≡ b → test x ≡ false
    by true e = never (list_any test xs) (any_there test xs x c e) none
    by false e = e

module _ (s : Stored) (outcome : NameIndex) (is : IsOutcome s outcome) (kept : BlockDigest) where
  free_of : (block : Block) → IsStored s.table s.words kept (digest_of block)
      → list_any (is_marked_name (mark_at outcome.strange.items)) (slice_range s.words kept.start kept.end) ≡ false
      → NoneStrange (strange_in s outcome) (flat_map names_in (digest_of block).said)
  free_of block stored none name among =
      let number = stored.known name among in
      let part = flat_back names_in (digest_of block).said name among in
      let rule = (uses.used_names part.0 name).0 part.2 in
      let is_number : number_in_table s.table name ≡ number.0 = ap (λ it. unwrap_or it (length s.table)) number.1 in
      let word = (uses.name_words (number_in_table s.table) part.0 number.0).1 (name, rule.0, rule.1, is_number) in
      let there : Contains (slice_range s.words kept.start kept.end) (w.Name number.0) =
      subst (λ words. Contains words (w.Name number.0)) (sym stored.words) (flat (words_of (number_in_table s.table)) (digest_of block).said part.0 (w.Name number.0) part.1 word) in
      sym (is.strange number.0 name number.1)
      ∙ not_any (is_marked_name (mark_at outcome.strange.items)) (slice_range s.words kept.start kept.end) (w.Name number.0) none there

  none_is_found : (told : BlockTold) → kept.has_own ≡ false → (not told.is_duplicate && (not told.has_no_base && not (told.is_first && told.is_idle))) ≡ true
      → (kept.start ≤ kept.end → kept.end ≤ length s.words → list_any (is_marked_name (mark_at outcome.strange.items)) (slice_range s.words kept.start kept.end) ≡ false)
      → (bounds : ℕ × ℕ) (block : Block) → IsKept s.table s.words kept bounds block → BlockSays block.items block.said
      → found_by (told_in s outcome told) block.items (fault_shown block.said) ≡ []
  none_is_found told not_own silent none bounds block h says =
      let role = and_parts (not told.is_duplicate) (not told.has_no_base && not (told.is_first && told.is_idle)) silent in
      let base = and_parts (not told.has_no_base) (not (told.is_first && told.is_idle)) role.1 in
      let own : has_own_findings block ≡ false = sym h.own ∙ not_own in
      let no_fault = none_is (fault_shown block.said) (left_false (is_some (fault_shown block.said)) (list_any is_empty block.items) own) in
      none_found (told_in s outcome told) block (not-true told.is_duplicate role.0) (not-true told.has_no_base base.0) (not-true (told.is_first && told.is_idle) base.1)
      no_fault (right_false (is_some (fault_shown block.said)) (list_any is_empty block.items) own)
      (λ name used. free_of block h.digest (none h.digest.order h.digest.within) name (uses_said block says no_fault name used))

-- ---- at a place, where what is kept is lent

module _ (s : Stored) (outcome : NameIndex) (is : IsOutcome s outcome) (at : ℕ) (block : BlockDigest) (told : BlockTold) (blocks : List BlockDigest) (tolds : List BlockTold)
    (same_blocks : blocks ≡ s.kept) (same_tolds : tolds ≡ outcome.tolds.items) (block_is : block ≡ slice_index_or blocks at block) (told_is : told ≡ slice_index_or tolds at told)
    (words : List Word) (strange : List Bool) (same_words : words ≡ s.words) (same_strange : strange ≡ outcome.strange.items) where
  abbrev IsFree : BlockDigest → List Word → List Bool → Bool → Type 0
  IsFree kept all marks uses = kept.start ≤ kept.end → kept.end ≤ length all → uses ≡ list_any (is_marked_name (mark_at marks)) (slice_range all kept.start kept.end)

  pub is_quiet : block.has_own ≡ false → (silent : Bool) → silent ≡ (not told.is_duplicate && (not told.has_no_base && not (told.is_first && told.is_idle))) → silent ≡ true
      → (uses : Bool) → IsFree block words strange uses → not uses ≡ true → IsQuietAt s outcome at
  is_quiet not_own silent is_silent so uses free none kept flags bounds said at_kept at_flags is_kept says =
      let one : block ≡ kept = block_is ∙ (ap (λ l. slice_index_or l at block) same_blocks ∙ get_or_from_slice_get s.kept at kept block at_kept) in
      let two : told ≡ flags = told_is ∙ (ap (λ l. slice_index_or l at told) same_tolds ∙ get_or_from_slice_get outcome.tolds.items at flags told at_flags) in
      let here : IsFree kept s.words outcome.strange.items uses =
      subst (λ (l : BlockDigest × List Word × List Bool). IsFree l.0 l.1 l.2 uses) (λ i. (one i, same_words i, same_strange i)) free in
      none_is_found s outcome is kept flags (ap (λ (k : BlockDigest). k.has_own) (sym one) ∙ not_own)
      (ap (λ (t : BlockTold). not t.is_duplicate && (not t.has_no_base && not (t.is_first && t.is_idle))) (sym two) ∙ (sym is_silent ∙ so))
      (λ order within. sym (here order within) ∙ not-true uses none) bounds said is_kept says
