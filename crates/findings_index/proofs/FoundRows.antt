-- What is found in the blocks of a text by what is told of them, one after the other, are the rows of the table.
use Rattle.std.proofs.Common.{◌≡◌, ℕ, ◌<◌, ◌≤◌, List, [], ◌∷◌, ◌++◌, inl, inr, map, Option, refl, sym, ap, subst, ◌∙◌, append-nil, append_assoc, arith}
use Rattle.std.specs.Prelude.{◌↔◌, Contains}
use Rattle.std.specs.List.{AllByRecursion}
use Rattle.std.proofs.lemmas.List.{map-append}
use Rattle.std.proofs.lemmas.List.Elements.{Contains-append_cases, Contains-append_left, Contains-append_right}
use Rattle.abnf_token.specs.Classes.{Text}
use Rattle.abnf_syntax.specs.declared.item.Item.{Item}
use Rattle.abnf_syntax.specs.declared.fault.SyntaxFault.{SyntaxFault}
use Rattle.abnf_syntax.specs.Blocks.{line_texts, AreBlocks}
use Rattle.abnf_syntax.proofs.Bare.{bare, same_items}
use Rattle.abnf_names.specs.Said.{Block, IsWithin, AreWithin, AreSaid}
use Rattle.abnf_names.specs.Shown.{fault_shown, HasFault}
use Rattle.abnf_names.proofs.Ascending.{block_run}
use Rattle.abnf_names.proofs.OneGrammar.{Plain, same_block, same_seen}
use Rattle.abnf_lint.specs.declared.finding.Finding.{Finding}
use Rattle.abnf_lint.specs.Order.{FindingsAscend}
use Rattle.abnf_lint.specs.Rows.{RowHolds, RowStands, AreRows}
use Rattle.abnf_lint.proofs.AllFound.{all_by, all_joined}
use Rattle.abnf_lint.proofs.FoundBlock.{found_are}
use Rattle.abnf_lint.proofs.Member.{first_in, later_in, none_in}
use Rattle.abnf_lint.proofs.OneFinding.{found_bare}
use Rattle.abnf_lint.proofs.Stands.{within_says}
use Rattle.abnf_digests.specs.Digests.{Digest, digest_of}
use Rattle.abnf_digests.specs.SameLines.{AreSameLines}
use Rattle.abnf_digests.proofs.RowLines.{row_within}
use Rattle.abnf_digests.proofs.SameDigests.{same_digests}
use Rattle.findings_index.specs.ToldOfBlock.{ToldOfBlock, IsToldOf, head_told}
use Rattle.findings_index.specs.Found.{found_by, AllAreTold, all_found}
use Rattle.findings_index.proofs.ToldRows.{NamesTell, rows_told}
use Rattle.findings_index.proofs.FoundOrder.{found_ascends, ascend_joined, before_by_line}

-- ---- what is found is the same for all lists of blocks that a text has

same_bare : (told : ToldOfBlock) (items : List Item) (fault : Option SyntaxFault) → found_by told (map bare items) fault ≡ found_by told items fault
same_bare told = found_bare (λ head. head_told told) (λ head. refl) told.strange

abbrev seen : Block → ToldOfBlock → List Finding
seen block told = found_by told block.items (fault_shown block.said)

seen_same : (ls : List Text) (bounds : ℕ × ℕ) (b other : Block) → IsWithin ls bounds b → IsWithin ls bounds other → seen b ≡ seen other
seen_same ls bounds b other p q =
    let items : map bare b.items ≡ map bare other.items = same_items ls bounds.0 bounds.1 b.items other.items p.items q.items in
    let faults : fault_shown b.said ≡ fault_shown other.said = ap (λ (x : Plain). x.2) (same_block ls bounds b other p q) in
    (λ i told. (sym (same_bare told b.items (fault_shown b.said)) ∙ ((λ j. found_by told (items j) (faults j)) ∙ same_bare told other.items (fault_shown other.said))) i)

digest_same : (ls : List Text) (bounds : ℕ × ℕ) (b other : Block) → IsWithin ls bounds b → IsWithin ls bounds other → digest_of b ≡ digest_of other
digest_same ls bounds b other p q =
    let itself : AreSameLines ls ls bounds bounds = record { count = refl; each = λ n h. refl } in
    (same_digests ls ls bounds bounds b other itself p q).0

abbrev found_seen : List ToldOfBlock → List (ToldOfBlock → List Finding) → List Finding
found_seen (told ∷ tolds) (f ∷ fs) = f told ++ found_seen tolds fs
found_seen _ _ = []

by_seen : (tolds : List ToldOfBlock) (blocks : List Block) → all_found tolds blocks ≡ found_seen tolds (map seen blocks)
by_seen [] blocks = refl
by_seen (told ∷ tolds) [] = refl
by_seen (told ∷ tolds) (block ∷ blocks) = ap (λ l. found_by told block.items (fault_shown block.said) ++ l) (by_seen tolds blocks)

one_found : (text : List ℕ) (bs cs : List Block) → AreSaid text bs → AreSaid text cs → (tolds : List ToldOfBlock) → all_found tolds bs ≡ all_found tolds cs
one_found text bs cs p q tolds = by_seen tolds bs ∙ (ap (found_seen tolds) (same_seen seen seen_same text bs cs p q) ∙ sym (by_seen tolds cs))

-- ---- blocks of a text

all_in : (P : Finding → Type 0) (xs : List Finding) → ((g : Finding) → Contains xs g → P g) → AllByRecursion P xs
all_in P [] h = tt
all_in P (x ∷ xs) h = (h x (first_in x xs), all_in P xs (λ g k. h g (later_in x xs g k)))

one_more : (before after : List Block) (block : Block) → before ++ block ∷ after ≡ (before ++ block ∷ []) ++ after
one_more before after block = sym (append_assoc before (block ∷ []) after)

module _ (tell : NamesTell) (text : List ℕ) (blocks : List Block) (of_text : AreSaid text blocks) where
  abbrev all : List Digest
  all = map digest_of blocks

  fault_of_block : (before : List Block) (block : Block) (after : List Block) → blocks ≡ before ++ block ∷ after → HasFault block.items (fault_shown block.said)
  fault_of_block before block after e =
      let each = subst (λ bs. AreWithin (line_texts text) of_text.bounds bs) e of_text.each in
      record { said = block.said; says = within_says (line_texts text) of_text.bounds before block after each; shown = refl }

  -- what is found in a block is what holds of it
  found_holds : (before : List Block) (block : Block) (after : List Block) → blocks ≡ before ++ block ∷ after → (told : ToldOfBlock) →
      IsToldOf all (map digest_of before) (digest_of block) told → (g : Finding) →
      Contains (found_by told block.items (fault_shown block.said)) g ↔ RowHolds blocks before block g.place g.name g.code
  found_holds before block after e told is g =
      let rows = rows_told tell text blocks before block after of_text e told is g.place g.name g.code in
      let found = found_are (λ head. head_told told) told.strange block.items (fault_shown block.said) (fault_of_block before block after e) g in
      (λ h. rows.1 (found.0 h), λ h. found.1 (rows.0 h))

  told_next : (before rest : List Block) (block : Block) (tolds : List ToldOfBlock) → AllAreTold all (map digest_of before ++ digest_of block ∷ []) (map digest_of rest) tolds →
      AllAreTold all (map digest_of (before ++ block ∷ [])) (map digest_of rest) tolds
  told_next before rest block tolds h = subst (λ ds. AllAreTold all ds (map digest_of rest) tolds) (sym (map-append digest_of before (block ∷ []))) h

  down : (before rest : List Block) (tolds : List ToldOfBlock) → blocks ≡ before ++ rest → AllAreTold all (map digest_of before) (map digest_of rest) tolds → (g : Finding) →
      Contains (all_found tolds rest) g →
      RowStands text g
  down before [] [] e told g h = none_in g h
  down before [] (x ∷ tolds) e told g h = none_in g h
  down before (block ∷ rest) [] e told g h = none_in g h
  down before (block ∷ rest) (x ∷ tolds) e told g h =
      elim (Contains-append_cases (found_by x block.items (fault_shown block.said)) (all_found tolds rest) g h) [
        | inl l ↦ record { blocks = blocks; of_text = of_text; before = before; block = block; after = rest; split = e; holds = (found_holds before block rest e x told.0 g).0 l }
        | inr r ↦ down (before ++ block ∷ []) rest tolds (e ∙ one_more before rest block) (told_next before rest block tolds told.1) g r
      ]

  up : (before front : List Block) (block : Block) (after : List Block) (tolds : List ToldOfBlock) → blocks ≡ before ++ (front ++ block ∷ after) →
      AllAreTold all (map digest_of before) (map digest_of (front ++ block ∷ after)) tolds → (g : Finding) → RowHolds blocks (before ++ front) block g.place g.name g.code →
      Contains (all_found tolds (front ++ block ∷ after)) g
  up before [] block after [] e told g row = absurd told
  up before [] block after (x ∷ tolds) e told g row =
      let here : RowHolds blocks before block g.place g.name g.code = subst (λ (bs : List Block). RowHolds blocks bs block g.place g.name g.code) (append-nil before) row in
      Contains-append_left (found_by x block.items (fault_shown block.said)) (all_found tolds after) g ((found_holds before block after e x told.0 g).1 here)
  up before (b ∷ front) block after [] e told g row = absurd told
  up before (b ∷ front) block after (x ∷ tolds) e told g row =
      let more : RowHolds blocks ((before ++ b ∷ []) ++ front) block g.place g.name g.code =
      subst (λ (bs : List Block). RowHolds blocks bs block g.place g.name g.code) (one_more before front b) row in
      Contains-append_right (found_by x b.items (fault_shown b.said)) (all_found tolds (front ++ block ∷ after)) g
      (up (before ++ b ∷ []) front block after tolds (e ∙ one_more before (front ++ block ∷ after) b) (told_next before (front ++ block ∷ after) b tolds told.1) g more)

  -- ---- in order

  abbrev From : ℕ → Finding → Type 0
  From line g = line ≤ g.place.line

  abbrev Within : ℕ × ℕ → Finding → Type 0
  Within bounds g = (bounds.0 ≤ g.place.line) × (g.place.line < bounds.1)

  in_order : (from : ℕ) (bounds : List (ℕ × ℕ)) (before rest : List Block) (tolds : List ToldOfBlock) → blocks ≡ before ++ rest →
      AllAreTold all (map digest_of before) (map digest_of rest) tolds →
      AreBlocks (line_texts text) from bounds → AreWithin (line_texts text) bounds rest → FindingsAscend (all_found tolds rest) × AllByRecursion (From from) (all_found tolds rest)
  in_order from bounds before [] [] e told lines each = (tt, tt)
  in_order from bounds before [] (x ∷ tolds) e told lines each = (tt, tt)
  in_order from bounds before (block ∷ rest) [] e told lines each = (tt, tt)
  in_order from [] before (block ∷ rest) (x ∷ tolds) e told lines each = absurd each
  in_order from (b ∷ bounds) before (block ∷ rest) (x ∷ tolds) e told lines each =
      let xs = found_by x block.items (fault_shown block.said) in
      let ys = all_found tolds rest in
      let run_words = block_run (line_texts text) b.0 b.1 block.items each.0.items in
      let own : FindingsAscend xs = found_ascends x (b.0, 0) (b.1, 0) block.items (fault_shown block.said) (fault_of_block before block rest e) run_words in
      let here : AllByRecursion (Within b) xs =
      all_in (Within b) xs (λ g h. row_within (line_texts text) b blocks before block each.0 g.place g.name g.code ((found_holds before block rest e x told.0 g).0 h)) in
      let more = in_order b.1 bounds (before ++ block ∷ []) rest tolds (e ∙ one_more before rest block) (told_next before rest block tolds told.1) lines.3 each.1 in
      let some : b.0 < b.1 = lines.2.some in
      let start : from ≤ b.0 = lines.0 in (
        ascend_joined (Within b) (From b.1) xs ys (λ g h a k. before_by_line g h (omega (arith, a.1, k))) here more.1 own more.0,
        all_joined (From from) xs ys (all_by (Within b) (From from) xs (λ g a. omega (arith, start, a.0)) here)
            (all_by (From b.1) (From from) ys (λ g k. omega (arith, start, some, k)) more.1),
      )

module _ (tell : NamesTell) (text : List ℕ) (blocks : List Block) (tolds : List ToldOfBlock) (of_text : AreSaid text blocks)
    (are : AllAreTold (map digest_of blocks) [] (map digest_of blocks) tolds) where
  stands_found : (g : Finding) → RowStands text g → Contains (all_found tolds blocks) g
  stands_found g st =
      let same : map digest_of blocks ≡ map digest_of st.blocks = same_seen digest_of digest_same text blocks st.blocks of_text st.of_text in
      let told : AllAreTold (map digest_of st.blocks) [] (map digest_of st.blocks) tolds = subst (λ ds. AllAreTold ds [] ds tolds) same are in
      let there : AllAreTold (map digest_of st.blocks) [] (map digest_of (st.before ++ st.block ∷ st.after)) tolds =
      subst (λ (bs : List Block). AllAreTold (map digest_of st.blocks) [] (map digest_of bs) tolds) st.split told in
      let found : Contains (all_found tolds (st.before ++ st.block ∷ st.after)) g =
      up tell text st.blocks st.of_text [] st.before st.block st.after tolds st.split there g st.holds in
      subst (λ (fs : List Finding). Contains fs g) (ap (all_found tolds) (sym st.split) ∙ one_found text st.blocks blocks st.of_text of_text tolds) found

  pub rows_are_found : AreRows text (all_found tolds blocks)
  rows_are_found = record {
    each = λ g. (down tell text blocks of_text [] blocks tolds refl are g, stands_found g);
    ordered = (in_order tell text blocks of_text 0 of_text.bounds [] blocks tolds refl are of_text.all of_text.each).0;
  }
