-- What is found in the blocks of a text, block by block.
use Rattle.std.proofs.Common.{◌≡◌, ◌∙◌, ◌+◌, ◌<◌, ◌≤◌, ℕ, zero, suc, Bool, List, [], ◌∷◌, ◌++◌, Option, Some, None, add-one, get_or, length, map, option_map, take, refl, sym, ap, subst, append-nil, append_assoc, arith}
use Rattle.std.specs.Prelude.{slice_get}
use Rattle.std.specs.Option.{option_map_or}
use Rattle.std.proofs.lemmas.List.{length-map, take_all}
use Rattle.std.proofs.lemmas.Option.{slice_get-get_or}
use Rattle.abnf_token.specs.Classes.{Text}
use Rattle.abnf_token.specs.declared.token.Kind.{Kind}
use Rattle.abnf_syntax.specs.declared.block.Block as source
use Rattle.abnf_syntax.specs.declared.block.Head.{Head}
use Rattle.abnf_syntax.specs.declared.item.Item.{Item}
use Rattle.abnf_syntax.specs.declared.fault.SyntaxFault.{SyntaxFault}
use Rattle.abnf_syntax.specs.Blocks.{AreBlocks, IsBlock, line_texts}
use Rattle.abnf_syntax.specs.Grammar.{kind_of}
use Rattle.abnf_syntax.specs.Heads.{head_of}
use Rattle.abnf_syntax.specs.Items.{AreItems}
use Rattle.abnf_syntax.proofs.Bare.{bare, bare_head, head_bare, same_items}
use Rattle.abnf_parts.specs.Names.{Name}
use Rattle.abnf_names.specs.declared.section.Section.{Section}
use Rattle.abnf_names.specs.Said.{AreSaid, AreWithin, Block, IsWithin}
use Rattle.abnf_names.specs.Shown.{fault_shown}
use Rattle.abnf_names.proofs.OneGrammar.{Plain, same_block}
use Rattle.abnf_lint.specs.declared.finding.Finding.{Finding}
use Rattle.abnf_lint.specs.Found.{body_found, fault_found, item_found, items_found}
use Rattle.abnf_lint.specs.Rows.{AreRows}
use Rattle.abnf_digests.specs.Digests.{Digest, digest_of}
use Rattle.findings_index.specs.declared.digest.BlockDigest.{BlockDigest}
use Rattle.findings_index.specs.declared.found_in.BlockTold.{BlockTold}
use Rattle.findings_index.specs.declared.outcome.NameIndex.{NameIndex}
use Rattle.findings_index.specs.ByTable.{all_told}
use Rattle.findings_index.specs.Found.{AllAreTold, all_found, found_at_head, found_by}
use Rattle.findings_index.specs.KeptBlocks.{AreKept, IsKeptOf}
use Rattle.findings_index.specs.Outcomes.{FindsAt, IsOutcome, IsQuietAt, strange_in, told_in}
use Rattle.findings_index.specs.Stored.{Stored}
use Rattle.findings_index.specs.ToldOfBlock.{ToldOfBlock}
use Rattle.findings_index.proofs.FoundRows.{rows_are_found}
use Rattle.findings_index.proofs.Unproductive.{names_tell}
use Rattle.incremental_findings.specs.own.Reads.{FindsIn}
use Rattle.incremental_findings.proofs.KeptLists.{KeptAt, kept_at, kept_digests, kept_length}
use Rattle.incremental_findings.proofs.ReadLaws.{said_in}

-- ---- what is found is the same in all blocks of the same lines

items_bare : (strange : Name → Bool) (before : Kind) (xs : List Item) → items_found strange before (map bare xs) ≡ items_found strange before xs
items_bare strange before [] = refl
items_bare strange before (x ∷ xs) = ap (λ l. item_found strange before x ++ l) (items_bare strange (kind_of x) xs)

body_bare : (strange : Name → Bool) (xs : List Item) → body_found strange (map bare xs) ≡ body_found strange xs
body_bare strange [] = refl
body_bare strange (x ∷ xs) = items_bare strange (kind_of x) xs

head_found_bare : (told : ToldOfBlock) (o : Option Head) → option_map_or (found_at_head told) (option_map bare_head o) [] ≡ option_map_or (found_at_head told) o []
head_found_bare told None = refl
head_found_bare told (Some head) = refl

found_bare : (told : ToldOfBlock) (items : List Item) (fault : Option SyntaxFault) → found_by told (map bare items) fault ≡ found_by told items fault
found_bare told items fault =
    (λ i. (ap (λ o. option_map_or (found_at_head told) o []) (head_bare items) ∙ head_found_bare told (head_of items)) i
    ++ option_map_or fault_found fault (body_bare told.strange items i))

same_found : (ls : List Text) (at : ℕ × ℕ) (b other : Block) → IsWithin ls at b → IsWithin ls at other → (told : ToldOfBlock)
    → found_by told b.items (fault_shown b.said) ≡ found_by told other.items (fault_shown other.said)
same_found ls at b other p q told =
    let items : map bare b.items ≡ map bare other.items = same_items ls at.0 at.1 b.items other.items p.items q.items in
    let faults : fault_shown b.said ≡ fault_shown other.said = ap (λ (x : Plain). x.2) (same_block ls at b other p q) in
    sym (found_bare told b.items (fault_shown b.said)) ∙ ((λ i. found_by told (items i) (faults i)) ∙ found_bare told other.items (fault_shown other.said))

-- ---- the block at a place

pub some_same : {X : Type 0} (o : Option X) (x y : X) → o ≡ Some x → o ≡ Some y → x ≡ y
some_same o x y e f = cc (e, f)

pub block_at : (ls : List Text) (from : ℕ) (bs : List (ℕ × ℕ)) (at : ℕ) (b : ℕ × ℕ) → AreBlocks ls from bs → slice_get bs at ≡ Some b → IsBlock ls b.0 b.1
block_at ls from [] at b h e = absurd (cc (e))
block_at ls from (c ∷ bs) zero b h e = subst (λ (x : ℕ × ℕ). IsBlock ls x.0 x.1) (some_same (Some c) c b refl e) h.2
block_at ls from (c ∷ bs) (suc at) b h e = block_at ls c.1 bs at b h.3 e

pub within_at : (ls : List Text) (bs : List (ℕ × ℕ)) (blocks : List Block) (at : ℕ) (b : ℕ × ℕ) (block : Block) → AreWithin ls bs blocks → slice_get bs at ≡ Some b
    → slice_get blocks at ≡ Some block → IsWithin ls b block
within_at ls [] blocks at b block h e f = absurd (cc (e))
within_at ls (c ∷ bs) [] at b block h e f = absurd h
within_at ls (c ∷ bs) (x ∷ blocks) zero b block h e f =
    subst (λ (y : ℕ × ℕ). IsWithin ls y block) (some_same (Some c) c b refl e) (subst (IsWithin ls c) (some_same (Some x) x block refl f) h.0)
within_at ls (c ∷ bs) (x ∷ blocks) (suc at) b block h e f = within_at ls bs blocks at b block h.1 e f

-- where the block is of which this is kept
block_kept : (ls : List Text) (s : Stored) (at : ℕ) (kept : BlockDigest) → IsKeptOf ls s → at < length s.kept → slice_get s.kept at ≡ Some kept → IsBlock ls kept.first kept.behind
block_kept ls s at kept h less e =
    let k = kept_at s.table s.words s.kept h.bounds h.blocks at less h.kept in
    let same : k.kept ≡ kept = some_same (slice_get s.kept at) k.kept kept k.kept_is e in
    let is = block_at ls 0 h.bounds at k.bounds h.all k.bounds_are in
    let first : k.bounds.0 ≡ kept.first = sym k.is_kept.first ∙ ap (λ (x : BlockDigest). x.first) same in
    let behind : k.bounds.1 ≡ kept.behind = sym k.is_kept.behind ∙ ap (λ (x : BlockDigest). x.behind) same in
    subst (λ (n : ℕ). IsBlock ls kept.first n) behind (subst (λ (n : ℕ). IsBlock ls n k.bounds.1) first is)

-- what is kept at a place, as a slice has it
pub kept_there : (ls : List Text) (s : Stored) (at : ℕ) (lent : List BlockDigest) (d : BlockDigest) → lent ≡ s.kept → IsKeptOf ls s → at < length s.kept
    → (slice_get s.kept at ≡ Some (get_or lent at d)) × IsBlock ls (get_or lent at d).first (get_or lent at d).behind
kept_there ls s at lent d same h less =
    let there : slice_get s.kept at ≡ Some (get_or lent at d) = slice_get-get_or s.kept at d less ∙ ap (λ (ks : List BlockDigest). Some (get_or ks at d)) (sym same) in
    (there, block_kept ls s at (get_or lent at d) h less there)

-- ---- what is found in one block

pub finds_in : (ls : List Text) (s : Stored) (outcome : NameIndex) (at : ℕ) (before after : List Finding) (kept : BlockDigest) (b : source.Block) (section : Section)
    → slice_get s.kept at ≡ Some kept → at < length s.kept → AreItems ls kept.first kept.behind b.items → 0 < length b.items → section.block ≡ b
    → FindsAt s outcome at section before after → FindsIn ls s outcome at before after
finds_in ls s outcome at before after kept b section kept_is less items some is finds bs blocks block told all each are block_is told_is =
    let k = kept_at s.table s.words s.kept bs blocks at less are in
    let same : k.kept ≡ kept = some_same (slice_get s.kept at) k.kept kept k.kept_is kept_is in
    let within : IsWithin ls k.bounds block = within_at ls bs blocks at k.bounds block each k.bounds_are block_is in
    let lines : k.bounds ≡ (kept.first, kept.behind) =
    (λ i. ((sym k.is_kept.first ∙ ap (λ (x : BlockDigest). x.first) same) i, (sym k.is_kept.behind ∙ ap (λ (x : BlockDigest). x.behind) same) i))
    in
    let there : IsWithin ls (kept.first, kept.behind) block = subst (λ (n : ℕ × ℕ). IsWithin ls n block) lines within in
    let said = said_in section b is some in
    let here : IsWithin ls (kept.first, kept.behind) said.0 =
    record { items = subst (AreItems ls kept.first kept.behind) (sym said.1) items; says = said.2.says }
    in
    finds told told_is
    ∙ (λ i. before ++ found_by (told_in s outcome told) (said.2.same i).items (said.2.same i).fault)
    ∙ ap (λ l. before ++ l) (same_found ls (kept.first, kept.behind) said.0 block here there (told_in s outcome told))

-- ---- what is found in all of them

told_count : (all before digests : List Digest) (tolds : List ToldOfBlock) → AllAreTold all before digests tolds → length digests ≡ length tolds
told_count all before [] [] h = refl
told_count all before [] (told ∷ tolds) h = absurd h
told_count all before (digest ∷ digests) [] h = absurd h
told_count all before (digest ∷ digests) (told ∷ tolds) h = ap suc (told_count all (before ++ digest ∷ []) digests tolds h.1)

found_next : (f : BlockTold → ToldOfBlock) (tolds : List BlockTold) (blocks : List Block) (at : ℕ) (told : BlockTold) (block : Block) → slice_get tolds at ≡ Some told → slice_get blocks at ≡ Some block
    → all_found (map f (take (suc at) tolds)) (take (suc at) blocks) ≡ all_found (map f (take at tolds)) (take at blocks) ++ found_by (f told) block.items (fault_shown block.said)
found_next f [] blocks at told block e g = absurd (cc (e))
found_next f (t ∷ tolds) [] at told block e g = absurd (cc (g))
found_next f (t ∷ tolds) (x ∷ blocks) zero told block e g =
    append-nil (found_by (f t) x.items (fault_shown x.said))
    ∙ (λ i. found_by (f (some_same (Some t) t told refl e i)) (some_same (Some x) x block refl g i).items (fault_shown (some_same (Some x) x block refl g i).said))
found_next f (t ∷ tolds) (x ∷ blocks) (suc at) told block e g =
    let xs = found_by (f t) x.items (fault_shown x.said) in
    ap (λ l. xs ++ l) (found_next f tolds blocks at told block e g)
    ∙ sym (append_assoc xs (all_found (map f (take at tolds)) (take at blocks)) (found_by (f told) block.items (fault_shown block.said)))

some_at : {X : Type 0} (xs : List X) (at : ℕ) → at < length xs → (x : X) × (slice_get xs at ≡ Some x)
some_at [] at less = absurd (omega (arith, less))
some_at (x ∷ xs) zero less = (x, refl)
some_at (x ∷ xs) (suc at) less = some_at xs at (omega (arith, less))

module _ (ls : List Text) (s : Stored) (outcome : NameIndex) where
  -- what is found in the blocks before a place, whichever these lines have
  abbrev pub AreFoundUpTo : ℕ → List Finding → Type 0
  AreFoundUpTo at now =
      (bs : List (ℕ × ℕ)) (blocks : List Block) → AreBlocks ls 0 bs → AreWithin ls bs blocks → AreKept s bs blocks →
      now ≡ all_found (all_told (strange_in s outcome) (take at outcome.tolds.items)) (take at blocks)

  pub tolds_count : IsKeptOf ls s → IsOutcome s outcome → length outcome.tolds.items ≡ length s.kept
  tolds_count h is =
      let digests = map digest_of h.blocks in
      let tolds = all_told (strange_in s outcome) outcome.tolds.items in
      let told : length digests ≡ length tolds = told_count digests [] digests tolds (is.told digests (kept_digests s.table s.words s.kept h.bounds h.blocks h.kept)) in
      omega (
        arith,
        told,
        length-map h.blocks digest_of,
        length-map outcome.tolds.items (told_in s outcome),
        (kept_length s.table s.words s.kept h.bounds h.blocks h.kept).1,
      )

  module _ (at : ℕ) (now : List Finding) (of_lines : IsKeptOf ls s) (is : IsOutcome s outcome) (less : at < length s.kept) (found : AreFoundUpTo at now) where
    told_here : (told : BlockTold) × (slice_get outcome.tolds.items at ≡ Some told)
    told_here = some_at outcome.tolds.items at (omega (arith, tolds_count of_lines is, less))

    next : (bs : List (ℕ × ℕ)) (blocks : List Block) (k : KeptAt s.table s.words s.kept bs blocks at) (after : List Finding)
        → now ≡ all_found (all_told (strange_in s outcome) (take at outcome.tolds.items)) (take at blocks)
        → after ≡ now ++ found_by (told_in s outcome told_here.0) k.block.items (fault_shown k.block.said)
        → after ≡ all_found (all_told (strange_in s outcome) (take (at + 1) outcome.tolds.items)) (take (at + 1) blocks)
    next bs blocks k after now_is after_is =
        let more = found_next (told_in s outcome) outcome.tolds.items blocks at told_here.0 k.block told_here.1 k.block_is in
        after_is ∙ (ap (λ l. l ++ found_by (told_in s outcome told_here.0) k.block.items (fault_shown k.block.said)) now_is
        ∙ (sym more ∙ ap (λ n. all_found (all_told (strange_in s outcome) (take n outcome.tolds.items)) (take n blocks)) (sym (add-one at))))

    pub quiet_passed : IsQuietAt s outcome at → AreFoundUpTo (at + 1) now
    quiet_passed quiet bs blocks all each are =
        let k = kept_at s.table s.words s.kept bs blocks at less are in
        let within : IsWithin ls k.bounds k.block = within_at ls bs blocks at k.bounds k.block each k.bounds_are k.block_is in
        let none = quiet k.kept told_here.0 k.bounds k.block k.kept_is told_here.1 k.is_kept within.says in
        next bs blocks k now (found bs blocks all each are) (sym (ap (λ l. now ++ l) none ∙ append-nil now))

    pub loud_found : (after : List Finding) → FindsIn ls s outcome at now after → AreFoundUpTo (at + 1) after
    loud_found after finds bs blocks all each are =
        let k = kept_at s.table s.words s.kept bs blocks at less are in
        next bs blocks k after (found bs blocks all each are) (finds bs blocks k.block told_here.0 all each are k.block_is told_here.1)

  pub rows_found : (at : ℕ) (now : List Finding) → IsKeptOf ls s → IsOutcome s outcome → length s.kept ≤ at → AreFoundUpTo at now → (text : List ℕ) → ls ≡ line_texts text → AreRows text now
  rows_found at now h is past found text e =
      let count = kept_length s.table s.words s.kept h.bounds h.blocks h.kept in
      let tolds = all_told (strange_in s outcome) outcome.tolds.items in
      let said : AreSaid text h.blocks = record { bounds = h.bounds; all = subst (λ l. AreBlocks l 0 h.bounds) e h.all; each = subst (λ l. AreWithin l h.bounds h.blocks) e h.each } in
      let told : AllAreTold (map digest_of h.blocks) [] (map digest_of h.blocks) tolds =
      is.told (map digest_of h.blocks) (kept_digests s.table s.words s.kept h.bounds h.blocks h.kept)
      in
      let all_tolds : take at outcome.tolds.items ≡ outcome.tolds.items = take_all at outcome.tolds.items (omega (arith, tolds_count h is, past)) in
      let all_blocks : take at h.blocks ≡ h.blocks = take_all at h.blocks (omega (arith, count.1, past)) in
      let now_is : now ≡ all_found tolds h.blocks =
      found h.bounds h.blocks h.all h.each h.kept ∙ (λ i. all_found (all_told (strange_in s outcome) (all_tolds i)) (all_blocks i))
      in
      subst (AreRows text) (sym now_is) (rows_are_found names_tell text h.blocks tolds said told)
