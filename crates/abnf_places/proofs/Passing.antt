-- The wanted places of a name, block by block.
use Rattle.std.proofs.Common.{◌≡◌, ℕ, ◌+◌, ◌<◌, ◌≤◌, ◌^◌, Bool, true, false, List, [], ◌∷◌, ◌++◌, length, filter, refl, sym, ap, subst, ◌∙◌, arith, append_assoc}
use Rattle.std.specs.Str.{bytes_eq}
use Rattle.std.proofs.lemmas.List.{append-nil}
use Rattle.std.proofs.lemmas.List.Elements.{filter-append}
use Rattle.abnf_token.specs.Classes.{Text}
use Rattle.abnf_token.specs.Folded.{lowercase}
use Rattle.abnf_syntax.specs.declared.block.Block.{Block}
use Rattle.abnf_syntax.specs.declared.item.Item.{Item}
use Rattle.abnf_syntax.specs.Blocks.{IsBlock, IsNextBlock, NoneBegins, begins_at, line_texts}
use Rattle.abnf_syntax.specs.Items.{AreItems}
use Rattle.abnf_syntax.proofs.Exist.{some_blocks}
use Rattle.abnf_parts.specs.Names.{Name}
use Rattle.abnf_names.specs.Places.{Named, places_in, places_of_name}
use Rattle.abnf_names.proofs.Exist.{has_places}
use Rattle.abnf_places.specs.declared.wanted.Wanted.{Wanted}
use Rattle.abnf_places.specs.Found.{ArePlacesOf}
use Rattle.abnf_places.specs.Wanted.{is_wanted, wanted_places}
use Rattle.abnf_places.specs.own.Blocks.{AreBlocksFrom, AreWanted, places_of_all}
use Rattle.abnf_places.proofs.Around.{blocks_behind, first_items, from_earlier, from_later}
use Rattle.abnf_places.proofs.OneBlock.{begins_within, both, next_ends, not_among, one_end}

pub wanted-append : (wanted : Wanted) (name : Name) (xs ys : List Named) → wanted_places wanted name (xs ++ ys) ≡ wanted_places wanted name xs ++ wanted_places wanted name ys
wanted-append wanted name xs ys =
    ap (filter (λ (n : Named). is_wanted wanted n.defines)) (filter-append (λ (n : Named). bytes_eq name (lowercase n.text)) xs ys)
    ∙ filter-append (λ (n : Named). is_wanted wanted n.defines) (places_of_name name xs) (places_of_name name ys)

-- The wanted places of the blocks from a line on are what these have to be completed by.
pub record IsPassed (ls : List Text) (wanted : Wanted) (name : Name) (at : ℕ) (found : List Named) : Type 0 where
  pub within : at ≤ length ls
  pub all : (blocks : List Block) → AreBlocksFrom ls 0 blocks →
      (rest : List Block) × AreBlocksFrom ls at rest × (wanted_places wanted name (places_of_all blocks) ≡ found ++ wanted_places wanted name (places_of_all rest))

module _ (ls : List Text) (wanted : Wanted) (name : Name) where
  -- With the wanted places of the block of these lines, what was found is this.
  abbrev pub Adds : ℕ → ℕ → List Named → List Named → Type 0
  Adds first end found new = (items : List Item) → AreItems ls first end items → new ≡ found ++ wanted_places wanted name (places_in items)

  -- none is wanted there
  pub adds_none : (first end : ℕ) (found : List Named) → ((items : List Item) → AreItems ls first end items → wanted_places wanted name (places_in items) ≡ []) → Adds first end found found
  adds_none first end found none items are = sym (ap (λ l. found ++ l) (none items are) ∙ append-nil found)

  -- none is found before the first block
  pub none_passed : (at : ℕ) (found : List Named) → at ≤ length ls → NoneBegins ls 0 at → found ≡ [] → IsPassed ls wanted name at found
  none_passed at found within none empty = record {
    within = within;
    all = λ blocks are. (blocks, from_later ls 0 at (omega arith) none blocks are, ap (λ l. l ++ wanted_places wanted name (places_of_all blocks)) (sym empty));
  }

  -- the blocks from the line where one begins
  split : (first end : ℕ) → IsBlock ls first end → (rest : List Block) → AreBlocksFrom ls first rest → (found new : List Named) → Adds first end found new →
      (behind : List Block) × AreBlocksFrom ls end behind × (found ++ wanted_places wanted name (places_of_all rest) ≡ new ++ wanted_places wanted name (places_of_all behind))
  split first end block [] are found new more = both ls first block.begins (are.all first (omega arith) (omega (arith, block.some, block.within)))
  split first end block (b ∷ bs) are found new more =
      let begins : b.first ≡ first = omega (arith, are.all.0, not_among ls first b.first first are.all.1 block.begins (omega arith)) in
      let ends : b.end ≡ end = one_end ls first b.end end (subst (λ n. IsBlock ls n b.end) begins are.all.2) block in
      let has : AreItems ls first end b.items = subst (λ n. AreItems ls first n b.items) ends (subst (λ n. AreItems ls n b.end b.items) begins (first_items ls first b bs are)) in (
        bs,
        subst (λ n. AreBlocksFrom ls n bs) ends (blocks_behind ls first b bs are),
        ap (λ l. found ++ l) (wanted-append wanted name (places_in b.items) (places_of_all bs))
            ∙ (sym (append_assoc found (wanted_places wanted name (places_in b.items)) (wanted_places wanted name (places_of_all bs)))
            ∙ ap (λ l. l ++ wanted_places wanted name (places_of_all bs)) (sym (more b.items has))),
      )

  -- one block more
  block_passed : (first end : ℕ) (found new : List Named) → IsBlock ls first end → IsPassed ls wanted name first found → Adds first end found new → IsPassed ls wanted name end new
  block_passed first end found new block passed more = record {
    within = block.within;
    all = λ blocks are.
        let old = passed.all blocks are in
        let here = split first end block old.0 old.1 found new more in
        (here.0, here.1, old.2 ∙ here.2);
  }

  -- a block begins there, unless it is the end
  abbrev pub IsAtBlock : ℕ → List Named → Type 0
  IsAtBlock first found = IsPassed ls wanted name first found × (first < length ls → begins_at ls first ≡ true)

  -- the same, up to where the next one begins
  pub next_passed : (count first end : ℕ) (found new : List Named) → count ≡ length ls → IsAtBlock first found → first < count → IsNextBlock ls (first + 1) count end → Adds first end found new → IsAtBlock end new
  next_passed count first end found new all at less next more =
      let to_end : IsNextBlock ls (first + 1) (length ls) end = subst (λ n. IsNextBlock ls (first + 1) n end) all next in
      (block_passed first end found new (next_ends ls first end (at.1 (omega (arith, less, all))) to_end) at.0 more, to_end.begins)

  -- the end of the block that begins at a line, among the blocks from there on
  end_of : (at : ℕ) → begins_at ls at ≡ true → (rest : List Block) → AreBlocksFrom ls at rest → (end : ℕ) × IsBlock ls at end
  end_of at begins [] are = both ls at begins (are.all at (omega arith) (begins_within ls at begins))
  end_of at begins (b ∷ bs) are =
      let first : b.first ≡ at = omega (arith, are.all.0, not_among ls at b.first at are.all.1 begins (omega arith)) in
      (b.end, subst (λ n. IsBlock ls n b.end) first are.all.2)

  -- One line more: a block that begins there has these places, and where none begins there is none.
  line_passed : (at : ℕ) (found new : List Named) → at < length ls → IsPassed ls wanted name at found → ((end : ℕ) → IsBlock ls at end → Adds at end found new) → (begins_at ls at ≡ false → new ≡ found) →
      IsPassed ls wanted name (at + 1) new
  line_passed at found new less passed more same = record {
    within = omega (arith, less);
    all = λ blocks are. let old = passed.all blocks are in by old.0 old.1 old.2 (begins_at ls at) refl;
  }
    where
      by : {all : List Named} (rest : List Block) → AreBlocksFrom ls at rest → all ≡ found ++ wanted_places wanted name (places_of_all rest) → (b : Bool) → begins_at ls at ≡ b →
          (behind : List Block) × AreBlocksFrom ls (at + 1) behind × (all ≡ new ++ wanted_places wanted name (places_of_all behind))
      by rest are is true begins =
          let end = end_of at begins rest are in
          let here = split at end.0 end.1 rest are found new (more end.0 end.1) in
          (here.0, from_earlier ls (at + 1) end.0 (omega (arith, end.1.some)) (λ k from to. end.1.rest k (omega arith) to) here.0 here.1, is ∙ here.2)
      by rest are is false none = (
        rest,
        from_later ls at (at + 1) (omega arith) (λ k from to. let here : at ≡ k = omega arith in subst (λ n. begins_at ls n ≡ false) here none) rest are,
        is ∙ ap (λ l. l ++ wanted_places wanted name (places_of_all rest)) (sym (same none)),
      )

  -- The block from there to its end has these places.
  pub beginning_passed : (count at end : ℕ) (found new : List Named) → count ≡ length ls → begins_at ls at ≡ true → IsNextBlock ls (at + 1) count end → IsPassed ls wanted name at found → Adds at end found new →
      IsPassed ls wanted name (at + 1) new
  beginning_passed count at end found new all begins next passed more =
      let block = next_ends ls at end begins (subst (λ n. IsNextBlock ls (at + 1) n end) all next) in
      line_passed at found new (begins_within ls at begins) passed (λ other of. subst (λ n. Adds at n found new) (one_end ls at end other block of) more) (λ none. both ls at begins none)

  -- A block that begins there has none.
  pub other_passed : (at : ℕ) (found : List Named) → at < length ls → IsPassed ls wanted name at found →
      ((end : ℕ) → IsBlock ls at end → (items : List Item) → AreItems ls at end items → wanted_places wanted name (places_in items) ≡ []) → IsPassed ls wanted name (at + 1) found
  other_passed at found less passed none = line_passed at found found less passed (λ end block. adds_none at end found (none end block)) (λ _. refl)

  none_left : (at : ℕ) (blocks : List Block) → length ls ≤ at → AreBlocksFrom ls at blocks → blocks ≡ []
  none_left at [] le are = refl
  none_left at (b ∷ bs) le are = absurd (omega (arith, le, are.all.0, are.all.2.some, are.all.2.within))

  -- all blocks
  pub all_passed : (at : ℕ) (found : List Named) → length ls ≤ at → IsPassed ls wanted name at found → AreWanted ls wanted name found
  all_passed at found le passed blocks are =
      let left = passed.all blocks are in
      sym (append-nil found) ∙ (ap (λ (l : List Block). found ++ wanted_places wanted name (places_of_all l)) (sym (none_left at left.0 le left.1)) ∙ sym left.2)

  -- those of a text
  pub of_text : (text : List ℕ) (found : List Named) → length text < 2 ^ 62 → ls ≡ line_texts text → AreWanted ls wanted name found → ArePlacesOf text wanted name found
  of_text text found small lines are =
      let blocks = some_blocks text small in
      let from : AreBlocksFrom ls 0 blocks.0 = subst (λ (l : List Text). AreBlocksFrom l 0 blocks.0) (sym lines) (record { all = blocks.1; items = λ k d lt. (blocks.2 k d lt).0 }) in
      record {
        places = places_of_all blocks.0;
        of_text = has_places text blocks.0 (places_of_all blocks.0) blocks.1 blocks.2 refl;
        are = are blocks.0 from;
      }
