-- The places of a name in a text are those in its lines.
use Rattle.std.proofs.Common.{◌≡◌, ◌⊎◌, inl, inr, ℕ, zero, suc, ◌+◌, ◌-◌, ◌<◌, ◌≤◌, Bool, true, false, not, ◌&&◌, List, [], ◌∷◌, ◌++◌, length, map, refl, sym, ap, subst, ◌∙◌, arith, append_assoc}
use Rattle.std.specs.Prelude.{if◌then◌else◌, slice_index_or, nat_eq, nat_le}
use Rattle.std.specs.List.{list_all}
use Rattle.std.specs.Str.{bytes_eq}
use Rattle.std.proofs.lemmas.List.{map-append}
use Rattle.std.proofs.lemmas.List.Elements.{filter-append}
use Rattle.std.proofs.lemmas.Bool.{le-leb, eqb-true}
use Rattle.ls_text.specs.declared.position.Place.{Place}
use Rattle.abnf_token.specs.declared.token.Token.{Token}
use Rattle.abnf_token.specs.Classes.{Text, is_blank_byte}
use Rattle.abnf_token.specs.Folded.{lowercase}
use Rattle.abnf_token.specs.Renamed.{Piece, piece, joined, AreCut, touches, is_at_place}
use Rattle.abnf_token.proofs.Cuts.{never}
use Rattle.abnf_token.proofs.LineLaw.{cut_tokens, one_cut, piece_name, at_place, blank_piece, comment_piece}
use Rattle.abnf_syntax.specs.Blocks.{line_texts, indent, is_content, base_indent, begins_at, NoneBegins, AreBlocks}
use Rattle.abnf_syntax.specs.Items.{AreTokens}
use Rattle.abnf_names.specs.Said.{Block, IsWithin, AreWithin, AreSaid}
use Rattle.abnf_names.specs.Places.{Named, places_in, places_of, places_of_name}
use Rattle.abnf_rename.proofs.PlacesLaw.{line_places, lines_places}
use Rattle.abnf_rename.proofs.LinesLaw.{name_content}
use Rattle.abnf_rename.proofs.PlacesLaw.{block_places, the_place}

-- ---- lines with no content

blank_tail : (bs r : Text) → list_all is_blank_byte bs ≡ true → is_content (bs ++ r) ≡ is_content r
blank_tail [] r e = refl
blank_tail (b ∷ bs) r e = by (is_blank_byte b) refl e (blank_tail bs r)
  where
    by : (c : Bool) → is_blank_byte b ≡ c → c && list_all is_blank_byte bs ≡ true → (list_all is_blank_byte bs ≡ true → is_content (bs ++ r) ≡ is_content r) → is_content (b ∷ (bs ++ r)) ≡ is_content r
    by true h f more = rw h (more f)
    by false h f more = never f

module _ (old : Text) where
  gap_by : (p : Piece) (ps : List Piece) (line start : ℕ) (touched : Bool) (text : Text) → p.1 ≡ text → AreCut (p ∷ ps) → is_content (text ++ joined ps) ≡ false →
      ((next : ℕ) (t : Bool) → is_content (joined ps) ≡ false → line_places old line next t ps ≡ []) →
      line_places old line (start + length p.1) (touches p.0) ps ≡ []
  gap_by p ps line start touched [] e cut h more = more (start + length p.1) (touches p.0) h
  gap_by p ps line start touched (b ∷ bs) e cut h more = by (is_blank_byte b) (nat_eq b 0x3B) refl refl
    where
      by : (c d : Bool) → is_blank_byte b ≡ c → nat_eq b 0x3B ≡ d → line_places old line (start + length p.1) (touches p.0) ps ≡ []
      by true d x y =
          more (start + length p.1) (touches p.0)
          (sym (blank_tail bs (joined ps) (blank_piece p ps b bs cut e x)) ∙ subst (λ c. (if c then is_content (bs ++ joined ps) else not (nat_eq b 0x3B)) ≡ false) x h)
      by false true x y =
          let none : ps ≡ [] = comment_piece p ps bs cut (e ∙ ap (λ c. c ∷ bs) (eqb-true b 0x3B y)) in
          ap (λ l. line_places old line (start + length p.1) (touches p.0) l) none
      by false false x y =
          never (sym (subst (λ c. (if c then is_content (bs ++ joined ps) else not (nat_eq b 0x3B)) ≡ false) x h) ∙ ap not y)

  place_by : (p : Piece) (ps : List Piece) (touched : Bool) (place : Place) (rest : List Place) → AreCut (p ∷ ps) → is_content (p.1 ++ joined ps) ≡ false → rest ≡ [] → (b : Bool) → is_at_place old touched p.0 p.1 ≡ b →
      (if b then place ∷ [] else []) ++ rest ≡ []
  place_by p ps touched place rest cut h e true at = never (sym h ∙ name_content p.1 (joined ps) (piece_name p ps cut (at_place old p.1 touched p.0 at).0))
  place_by p ps touched place rest cut h e false at = e

  no_places : (ps : List Piece) (line start : ℕ) (touched : Bool) → AreCut ps → is_content (joined ps) ≡ false → line_places old line start touched ps ≡ []
  no_places [] line start touched cut h = refl
  no_places (p ∷ ps) line start touched cut h =
      place_by p ps touched (record { line = line; start = start; end = start + length p.1 }) (line_places old line (start + length p.1) (touches p.0) ps) cut h
      (gap_by p ps line start touched p.1 refl cut h (λ next t g. no_places ps line next t cut.1 g)) (is_at_place old touched p.0 p.1) refl

-- Before the first line that begins a block none has content.
gap_content : (ls : List Text) (to : ℕ) → NoneBegins ls 0 to → (at : ℕ) → at < to → is_content (slice_index_or ls at []) ≡ false
gap_content ls to none at lt = from ls at (λ j le. none j (omega arith) (omega (arith, le, lt)))
  where
    by : (l : Text) (ls : List Text) (c : Bool) → is_content l ≡ c → (at : ℕ) → ((j : ℕ) → j ≤ at → begins_at (l ∷ ls) j ≡ false) →
        (((j : ℕ) → j < at → begins_at ls j ≡ false) → (at2 : ℕ) → at ≡ suc at2 → is_content (slice_index_or ls at2 []) ≡ false) → is_content (slice_index_or (l ∷ ls) at []) ≡ false
    by l ls true e at none more =
        never (sym (none 0 (omega arith)) ∙ rw e (le-leb (indent l) (indent l) (omega arith)))
    by l ls false e zero none more = e
    by l ls false e (suc at) none more =
        more (λ j lt. subst (λ c. is_content (slice_index_or ls j []) && nat_le (indent (slice_index_or ls j [])) (if c then indent l else base_indent ls) ≡ false) e (none (suc j) (omega (arith, lt)))) at refl

    from : (ls : List Text) (at : ℕ) → ((j : ℕ) → j ≤ at → begins_at ls j ≡ false) → is_content (slice_index_or ls at []) ≡ false
    from [] at none = refl
    from (l ∷ ls) at none = by l ls (is_content l) refl at none (λ n at2 e. from ls at2 (λ j le. n j (omega (arith, le, e))))

-- ---- all lines

abbrev pub ArePieces : List Text → List (List Piece) → Type 0
ArePieces [] [] = Unit {0}
ArePieces (l ∷ ls) (ps ∷ pss) = AreCut ps × (l ≡ joined ps) × ArePieces ls pss
ArePieces _ _ = ⊥

record IsPiecesOf (l : Text) (ps : List Piece) : Type 0 where
  cut : AreCut ps
  is : l ≡ joined ps

pieces_at : (ls : List Text) (pss : List (List Piece)) → ArePieces ls pss → (at : ℕ) → IsPiecesOf (slice_index_or ls at []) (slice_index_or pss at [])
pieces_at [] [] h at = record { cut = tt; is = refl }
pieces_at [] (ps ∷ pss) h at = absurd h
pieces_at (l ∷ ls) [] h at = absurd h
pieces_at (l ∷ ls) (ps ∷ pss) h zero = record { cut = h.0; is = h.1 }
pieces_at (l ∷ ls) (ps ∷ pss) h (suc at) = pieces_at ls pss h.2 at

module _ (old : Text) (ls : List Text) (pss : List (List Piece)) (h : ArePieces ls pss) where
  abbrev pub range : ℕ → ℕ → List Place
  range at zero = []
  range at (suc n) = line_places old at 0 false (slice_index_or pss at []) ++ range (suc at) n

  range_join : (at n m : ℕ) → range at (n + m) ≡ range at n ++ range (at + n) m
  range_join at zero m = (λ i. range (let e : at ≡ at + 0 = omega arith in e i) (let e : 0 + m ≡ m = omega arith in e i))
  range_join at (suc n) m =
      let sum : suc n + m ≡ suc (n + m) = omega arith in
      let later : suc at + n ≡ at + suc n = omega arith in
      ap (range at) sum
      ∙ (ap (λ l. line_places old at 0 false (slice_index_or pss at []) ++ l) (range_join (suc at) n m ∙ ap (λ j. range (suc at) n ++ range j m) later)
      ∙ sym (append_assoc (line_places old at 0 false (slice_index_or pss at [])) (range (suc at) n) (range (at + suc n) m)))

  block_range : (at : ℕ) (tss : List (List Token)) → AreTokens ls at tss → lines_places old at (map (map piece) tss) ≡ range at (length tss)
  block_range at [] t = refl
  block_range at (ts ∷ tss) t =
      let own = cut_tokens at 0 (slice_index_or ls at []) ts t.0 in
      let here = pieces_at ls pss h at in
      let same : map piece ts ≡ slice_index_or pss at [] = one_cut (map piece ts) (slice_index_or pss at []) own.cut here.cut (sym own.is ∙ here.is) in
      (λ i. line_places old at 0 false (same i) ++ block_range (suc at) tss t.1 i)

  gap_range : (n at : ℕ) → ((j : ℕ) → at ≤ j → j < at + n → is_content (slice_index_or ls j []) ≡ false) → range at n ≡ []
  gap_range zero at g = refl
  gap_range (suc n) at g =
      let here = pieces_at ls pss h at in
      let none : line_places old at 0 false (slice_index_or pss at []) ≡ [] =
      no_places old (slice_index_or pss at []) at 0 false here.cut (ap is_content (sym here.is) ∙ g at (omega arith) (omega arith))
      in
      (λ i. none i ++ gap_range n (suc at) (λ j a b. g j (omega (arith, a)) (omega (arith, b))) i)

  -- a block begins here, or no line was read
  abbrev Begins : ℕ → Type 0
  Begins from = (from ≡ 0) ⊎ (from < length ls → begins_at ls from ≡ true)

  gap_places : (from to : ℕ) → Begins from → from ≤ to → to ≤ length ls → NoneBegins ls from to → range from (to - from) ≡ []
  gap_places from to (inl e) le within none =
      gap_range (to - from) from (λ j a b. gap_content ls to (subst (λ n. NoneBegins ls n to) e none) j (omega (arith, b, le)))
  gap_places from zero (inr f) le within none = ap (range from) (let e : 0 - from ≡ 0 = omega arith in e)
  gap_places from (suc to) (inr f) le within none = by (suc to - from) refl
    where
      by : (n : ℕ) → suc to - from ≡ n → range from n ≡ []
      by zero e = refl
      by (suc n) e = never (sym (none from (omega arith) (omega (arith, e))) ∙ f (omega (arith, e, within)))

  places_join : (b : Block) (bs : List Block) → map (the_place old) (places_of_name old (places_of (b ∷ bs))) ≡ map (the_place old) (places_of_name old (places_in b.items)) ++ map (the_place old) (places_of_name old (places_of bs))
  places_join b bs =
      ap (map (the_place old)) (filter-append (λ (n : Named). bytes_eq old (lowercase n.text)) (places_in b.items) (places_of bs))
      ∙ map-append (the_place old) (places_of_name old (places_in b.items)) (places_of_name old (places_of bs))

  one_block : (b : ℕ × ℕ) (block : Block) → b.0 < b.1 → IsWithin ls b block → map (the_place old) (places_of_name old (places_in block.items)) ≡ range b.0 (b.1 - b.0)
  one_block b block lt w =
      block_places old ls b.0 b.1 block.items w.items
      ∙ (block_range b.0 w.items.tokens w.items.tokens_are ∙ ap (range b.0) (let e : length w.items.tokens ≡ b.1 - b.0 = omega (arith, w.items.all) in e))

  blocks_places : (from : ℕ) (bounds : List (ℕ × ℕ)) (blocks : List Block) → Begins from → from ≤ length ls → AreBlocks ls from bounds → AreWithin ls bounds blocks →
      map (the_place old) (places_of_name old (places_of blocks)) ≡ range from (length ls - from)
  blocks_places from [] [] g le a w = sym (gap_places from (length ls) g le (omega arith) a)
  blocks_places from [] (block ∷ blocks) g le a w = absurd w
  blocks_places from (b ∷ bounds) [] g le a w = absurd w
  blocks_places from (b ∷ bounds) (block ∷ blocks) g le a w =
      let some = a.2.some in
      let within = a.2.within in
      let sum : length ls - from ≡ (b.0 - from) + ((b.1 - b.0) + (length ls - b.1)) = omega (arith, some, within, a.0) in
      let first : from + (b.0 - from) ≡ b.0 = omega (arith, a.0) in
      let second : b.0 + (b.1 - b.0) ≡ b.1 = omega (arith, some) in
      let gap = gap_places from b.0 g a.0 (omega (arith, some, within)) a.1 in
      places_join block blocks
      ∙ ((λ i. one_block b block some w.0 i ++ blocks_places b.1 bounds blocks (inr a.2.ends) within a.3 w.1 i)
      ∙ sym (ap (range from) sum
      ∙ (range_join from (b.0 - from) ((b.1 - b.0) + (length ls - b.1))
      ∙ ((λ i. gap i ++ range (first i) ((b.1 - b.0) + (length ls - b.1)))
      ∙ (range_join b.0 (b.1 - b.0) (length ls - b.1)
      ∙ ap (λ j. range b.0 (b.1 - b.0) ++ range j (length ls - b.1)) second)))))

-- The places of the name in a text are those in its lines, by their pieces.
pub all_places : (old : Text) (text : List ℕ) (blocks : List Block) (pss : List (List Piece)) → AreSaid text blocks → (h : ArePieces (line_texts text) pss) →
    map (the_place old) (places_of_name old (places_of blocks)) ≡ range old (line_texts text) pss h 0 (length (line_texts text) - 0)
all_places old text blocks pss said h =
    blocks_places old (line_texts text) pss h 0 said.bounds blocks (inl refl) (omega arith) said.all said.each
