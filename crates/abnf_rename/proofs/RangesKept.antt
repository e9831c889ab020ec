-- The text after a granted rename: its lines are the renamed lines, and its grammars are the same but for the name.
use Rattle.std.proofs.Common.{◌≡◌, ℕ, suc, ◌+◌, ◌-◌, ◌≤◌, true, false, List, [], ◌∷◌, ◌++◌, length, map, refl, sym, ap, subst, ◌∙◌, arith}
use Rattle.std.specs.Prelude.{All, ◌&&◌, slice_index_or, IfSome}
use Rattle.std.specs.Char.{IsScalar}
use Rattle.std.specs.Str.{chars, encode_utf8_all as encodes}
use Rattle.std.proofs.Math.Utf8.{scalars}
use Rattle.std.proofs.lemmas.Bool.Decides.{nat_tests}
use Rattle.std.proofs.lemmas.List.Elements.{All-head, All-tail}
use Rattle.std.proofs.lemmas.Str.{len_utf8_bounds}
use Rattle.ls_text.specs.Lines.{units, units_of, utf16_len, width_in}
use Rattle.ls_text.specs.Positions.{place_range}
use Rattle.ls_text.specs.Edits.{edited_all}
use Rattle.ls_text.specs.Cut.{text_of, AreLines}
use Rattle.ls_text.specs.declared.position.Encoding.{Encoding}
use Rattle.ls_text.specs.declared.position.Units.{Units}
use Rattle.ls_text.specs.declared.position.Units.TheVariants.{Utf8, Utf16, Utf32}
use Rattle.ls_text.specs.declared.position.Place.{Place}
use Rattle.ls_text.specs.declared.position.Range.{Range}
use Rattle.abnf_token.specs.Classes.{Text, is_name}
use Rattle.abnf_token.specs.Renamed.{Piece}
use Rattle.abnf_syntax.specs.Blocks.{line_texts}
use Rattle.abnf_parts.specs.Names.{Name}
use Rattle.abnf_names.specs.Said.{Block, AreSaid}
use Rattle.abnf_names.specs.Places.{Named, places_of, places_of_name}
use Rattle.abnf_names.specs.Rules.{Grammar, IsGrammar}
use Rattle.abnf_rename.specs.Lines.{AreRenamedLines}
use Rattle.abnf_rename.specs.Rules.{IsGranted, AreSameRules, KeepsNames}
use Rattle.abnf_rename.specs.Text.{text_renamed, renaming_edits, EditsGive, name_ranges, KeepsTheGrammar}
use Rattle.abnf_rename.proofs.AllPlaces.{ArePieces, range, all_places}
use Rattle.abnf_rename.proofs.LinesLaw.{tokens_kept}
use Rattle.abnf_rename.proofs.MadeEdits.{rows_ranges, edits_made}
use Rattle.abnf_rename.proofs.NameTexts.{name_utf8, name_solid, name_plain}
use Rattle.abnf_rename.proofs.NamesKept.{both_kept}
use Rattle.abnf_rename.proofs.PieceRows.{Cut, row_cuts, are_pieces, solid_rows}
use Rattle.abnf_rename.proofs.PlacesLaw.{the_place, lines_places, line_places}
use Rattle.abnf_rename.proofs.RangeSpots.{offsets, spot, with_ranges_is, all_spots, all_ranges}
use Rattle.abnf_rename.proofs.SegmentLaws.{row_of, spots, put_in, lines_rows}
use Rattle.abnf_rename.proofs.TextKept.{rows_of, AreLineCuts, text_kept}
use Rattle.abnf_rename.proofs.TextRows.{each_text}
use Rattle.abnf_rename.proofs.WholeText.{whole}

-- ---- the ranges of the places in all lines

module _ (old : Text) (ls : List Text) (pss : List (List Piece)) (h : ArePieces ls pss) where
  listed : (rest : List (List Piece)) (at : ℕ) → ((j : ℕ) → slice_index_or pss (at + j) [] ≡ slice_index_or rest j []) → range old ls pss h at (length rest) ≡ lines_places old at rest
  listed [] at e = refl
  listed (ps ∷ rest) at e =
      let first : at ≡ at + 0 = omega arith in
      let here : slice_index_or pss at [] ≡ ps = ap (λ n. slice_index_or pss n []) first ∙ e 0 in
      let more = listed rest (suc at) (λ j. let next : suc at + j ≡ at + suc j = omega arith in ap (λ n. slice_index_or pss n []) next ∙ e (suc j)) in
      (λ i. line_places old at 0 false (here i) ++ more i)

count : (ls : List Text) (pss : List (List Piece)) → ArePieces ls pss → length ls ≡ length pss
count [] [] h = refl
count [] (ps ∷ pss) h = absurd h
count (l ∷ ls) [] h = absurd h
count (l ∷ ls) (ps ∷ pss) h = ap suc (count ls pss h.2)

all_listed : (old : Text) (text : List ℕ) (blocks : List Block) (pss : List (List Piece)) → AreSaid text blocks → ArePieces (line_texts text) pss →
    map (the_place old) (places_of_name old (places_of blocks)) ≡ lines_places old 0 pss
all_listed old text blocks pss said h =
    let all : length (line_texts text) - 0 ≡ length pss = omega (arith, count (line_texts text) pss h) in
    all_places old text blocks pss said h
    ∙ (ap (range old (line_texts text) pss h 0) all
    ∙ listed old (line_texts text) pss h pss 0 (λ j. let e : 0 + j ≡ j = omega arith in ap (λ n. slice_index_or pss n []) e))

utf16_some : (c : ℕ) → 1 ≤ utf16_len c
utf16_some c = grind (arith, nat_tests)

width_some : (counted : Units) (c : ℕ) → 1 ≤ width_in counted c
width_some Utf8 c = (len_utf8_bounds c).0
width_some Utf16 c = utf16_some c
width_some Utf32 c = omega arith

-- each character has a unit
units_some : (encoding : Encoding) (c : ℕ) → 1 ≤ units encoding c
units_some encoding c = width_some (units_of encoding) c

-- ---- the lines of the text after the edits

abbrev range_in : Encoding → List ℕ → Named → Range
range_in encoding text named = place_range (units encoding) text named.place

abbrev HasRenamedLines : Encoding → Name → Text → List ℕ → List Block → Type 0
HasRenamedLines encoding old new text blocks =
    AreRenamedLines old new (line_texts text) (line_texts (text_renamed encoding text new (map (range_in encoding text) (places_of_name old (places_of blocks)))))

module _ (encoding : Encoding) (old : Name) (new : Text) (named : is_name new ≡ true) where
  module _ (cuts : List Cut) (c : AreLineCuts cuts) (h : AreLines (map row_of (rows_of old cuts))) where
    abbrev whole_text : List ℕ
    whole_text = text_of (map row_of (rows_of old cuts))

    abbrev pieces : List (List Piece)
    pieces = map (λ (r : Cut). r.0) cuts

    are : ArePieces (line_texts whole_text) pieces
    are = subst (λ l. ArePieces (map encodes l) pieces) (sym (lines_rows (rows_of old cuts) h)) (are_pieces old new (name_utf8 new named) cuts c)

    abbrev spot_of : Place → ℕ × ℕ
    spot_of = spot old (units encoding) (units_some encoding) (map row_of (rows_of old cuts)) h

    ranges_spots : (ns : List Named) → map (offsets (units encoding) whole_text) (map (range_in encoding whole_text) ns) ≡ map spot_of (map (the_place old) ns)
    ranges_spots [] = refl
    ranges_spots (n ∷ ns) = ap (λ l. offsets (units encoding) whole_text (range_in encoding whole_text n) ∷ l) (ranges_spots ns)

    edited : (blocks : List Block) → AreSaid whole_text blocks →
        text_renamed encoding whole_text new (map (range_in encoding whole_text) (places_of_name old (places_of blocks))) ≡ put_in whole_text (chars new) (spots 0 (whole (rows_of old cuts)))
    edited blocks said =
        with_ranges_is (units encoding) whole_text (chars new) (map (range_in encoding whole_text) (places_of_name old (places_of blocks)))
        ∙ ap (put_in whole_text (chars new))
        (ranges_spots (places_of_name old (places_of blocks))
        ∙ (ap (map spot_of) (all_listed old whole_text blocks pieces said are) ∙ all_spots old (units encoding) (units_some encoding) cuts c h))

    abbrev ranges : List Block → List Range
    ranges blocks = map (range_in encoding whole_text) (places_of_name old (places_of blocks))

    place_ranges : (ns : List Named) → map (range_in encoding whole_text) ns ≡ map (place_range (units encoding) whole_text) (map (the_place old) ns)
    place_ranges [] = refl
    place_ranges (n ∷ ns) = ap (λ l. range_in encoding whole_text n ∷ l) (place_ranges ns)

    ranges_are : (blocks : List Block) → AreSaid whole_text blocks → ranges blocks ≡ rows_ranges (units encoding) 0 (rows_of old cuts)
    ranges_are blocks said =
        place_ranges (places_of_name old (places_of blocks))
        ∙ (ap (map (place_range (units encoding) whole_text)) (all_listed old whole_text blocks pieces said are) ∙ all_ranges old (units encoding) (units_some encoding) cuts c h)

    cuts_made : (blocks : List Block) → AreSaid whole_text blocks → EditsGive encoding whole_text new (ranges blocks)
    cuts_made blocks said =
        subst (λ rs. IfSome (edited_all (units encoding) whole_text (renaming_edits new rs)) (λ t. t ≡ text_renamed encoding whole_text new (ranges blocks)))
        (sym (ranges_are blocks said))
        (subst (λ u. IfSome (edited_all (units encoding) whole_text (renaming_edits new (rows_ranges (units encoding) 0 (rows_of old cuts)))) (λ t. t ≡ u))
        (sym (edited blocks said))
        (edits_made (units encoding) (units_some encoding) new (name_solid new named) (name_plain new named) (rows_of old cuts) (solid_rows old new named cuts c) h))

    cuts_kept : (blocks : List Block) → AreSaid whole_text blocks → HasRenamedLines encoding old new whole_text blocks
    cuts_kept blocks said =
        subst (λ t. AreRenamedLines old new (line_texts whole_text) (line_texts t)) (sym (edited blocks said))
        (text_kept old new (name_utf8 new named) (name_solid new named) (name_plain new named) cuts c (solid_rows old new named cuts c) h)

  -- the lines after the edits, and what the edits give
  abbrev HasEdits : List ℕ → List Block → Type 0
  HasEdits text blocks = HasRenamedLines encoding old new text blocks × EditsGive encoding text new (map (range_in encoding text) (places_of_name old (places_of blocks)))

  lines_kept : (text : List ℕ) → scalars text ≡ true → (blocks : List Block) → AreSaid text blocks → HasEdits text blocks
  lines_kept text s blocks said =
      let rows = each_text text in
      let cuts = row_cuts old rows.0 (ap scalars rows.1.1 ∙ s) in
      let is : text_of (map row_of (rows_of old cuts.cuts)) ≡ text = ap text_of cuts.are ∙ rows.1.1 in
      let h : AreLines (map row_of (rows_of old cuts.cuts)) = subst AreLines (sym cuts.are) rows.1.0 in
      let of : AreSaid (text_of (map row_of (rows_of old cuts.cuts))) blocks = subst (λ t. AreSaid t blocks) (sym is) said in
      subst (λ t. HasEdits t blocks) is (cuts_kept cuts.cuts cuts.cut h blocks of, cuts_made cuts.cuts cuts.cut h blocks of)

scalars_of : (cs : List ℕ) → All IsScalar cs → scalars cs ≡ true
scalars_of [] h = refl
scalars_of (c ∷ cs) h = (λ i. All-head IsScalar c cs h i && scalars_of cs (All-tail IsScalar c cs h) i)

pub grammar_kept : (encoding : Encoding) (old : Name) (new : Text) (g : Grammar) → IsGrammar g → All IsScalar g.text → IsGranted old new g → KeepsTheGrammar encoding old new g (name_ranges encoding g old)
grammar_kept encoding old new g right s granted =
    let places : places_of right.blocks ≡ g.places = sym (ap (λ (h : Grammar). h.places) right.is) in
    let kept : (AreRenamedLines old new (line_texts g.text) (line_texts (text_renamed encoding g.text new (name_ranges encoding g old)))) × EditsGive encoding g.text new (name_ranges encoding g old) =
    subst (λ ns. (AreRenamedLines old new (line_texts g.text) (line_texts (text_renamed encoding g.text new (map (range_in encoding g.text) (places_of_name old ns))))) × EditsGive encoding g.text new (map (range_in encoding g.text) (places_of_name old ns))) places
    (lines_kept encoding old new granted.named g.text (scalars_of g.text s) right.blocks right.of_text)
    in
    let lines : AreRenamedLines old new (line_texts g.text) (line_texts (text_renamed encoding g.text new (name_ranges encoding g old))) = kept.0 in
    let both : (after : Grammar) → IsGrammar after → after.text ≡ text_renamed encoding g.text new (name_ranges encoding g old) → AreSameRules old new g after × KeepsNames old new g after =
    λ after is of_text. both_kept old new g after right is granted (subst (λ t. AreRenamedLines old new (line_texts g.text) (line_texts t)) (sym of_text) lines)
    in
    record {
      edits = kept.1;
      lines = lines;
      tokens = tokens_kept old new granted.named (line_texts g.text) (line_texts (text_renamed encoding g.text new (name_ranges encoding g old))) lines;
      rules = λ after is of_text. (both after is of_text).0;
      names = λ after is of_text. (both after is of_text).1;
    }
