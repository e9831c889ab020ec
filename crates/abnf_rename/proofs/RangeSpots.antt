-- The ranges of a name in a text are the spots at which its segments change.
use Rattle.std.proofs.Common.{◌≡◌, ℕ, suc, ◌+◌, ◌<◌, ◌≤◌, Bool, true, false, List, [], ◌∷◌, ◌++◌, length, map, refl, sym, ap, ◌∙◌, arith, append_assoc, length-append}
use Rattle.std.specs.Prelude.{if◌then◌else◌, sum_by}
use Rattle.std.specs.Char.{len_utf8, encode_utf8 as encode}
use Rattle.std.specs.Str.{chars, encode_utf8_all as encodes}
use Rattle.std.proofs.lemmas.List.{map-append}
use Rattle.std.proofs.lemmas.List.Sums.{sum_by-cons, sum_by-append}
use Rattle.std.proofs.lemmas.Str.{encodes-chars, length-encode, len_utf8_bounds}
use Rattle.ls_text.specs.Lines.{offset_of}
use Rattle.ls_text.specs.Positions.{position_of, place_range}
use Rattle.ls_text.specs.Edits.{position_offset}
use Rattle.ls_text.specs.Cut.{Row, text_of, end_text, AreLines, start_of, text_at}
use Rattle.ls_text.specs.declared.position.Place.{Place}
use Rattle.ls_text.specs.declared.position.Range.{Range}
use Rattle.abnf_token.specs.Classes.{Text}
use Rattle.abnf_token.specs.Renamed.{Piece, touches, is_at_place}
use Rattle.abnf_token.proofs.PieceChars.{AreTexts, piece_texts}
use Rattle.abnf_rename.specs.Text.{with_ranges}
use Rattle.abnf_rename.proofs.PlacesLaw.{line_places, lines_places}
use Rattle.abnf_rename.proofs.PieceRows.{Cut}
use Rattle.abnf_rename.proofs.MadeEdits.{range_between, line_ranges, rows_ranges}
use Rattle.abnf_rename.proofs.RoundLaws.{offset_behind, position_behind}
use Rattle.abnf_rename.proofs.SegmentLaws.{Segment, plain, spots, put_in, row_of}
use Rattle.abnf_rename.proofs.TextKept.{segments, rows_of, AreLineCuts}
use Rattle.abnf_rename.proofs.WholeText.{whole}

-- the offsets of the two ends of a range
abbrev pub offsets : (ℕ → ℕ) → List ℕ → Range → ℕ × ℕ
offsets w text r = (position_offset w text r.start, position_offset w text r.end)

pub with_ranges_is : (w : ℕ → ℕ) (text new : List ℕ) (rs : List Range) → with_ranges w text new rs ≡ put_in text new (map (offsets w text) rs)
with_ranges_is w text new [] = refl
with_ranges_is w text new (r ∷ rs) = (λ i. put_in (with_ranges_is w text new rs i) new (offsets w text r ∷ []))

bytes_sum : (cs : List ℕ) → length (encodes cs) ≡ sum_by len_utf8 cs
bytes_sum [] = refl
bytes_sum (c ∷ cs) =
    let all : length (encodes (c ∷ cs)) ≡ length (encode c) + length (encodes cs) = length-append (encode c) (encodes cs) in
    omega (arith, all, length-encode c, bytes_sum cs, sum_by-cons len_utf8 c cs)

spots_append : (at : ℕ) (xs ys : List Segment) → spots at (xs ++ ys) ≡ spots at xs ++ spots (at + length (plain xs)) ys
spots_append at [] ys = let e : at ≡ at + 0 = omega arith in ap (λ n. spots n ys) e
spots_append at (x ∷ xs) ys =
    let e : at + length x.1 + length (plain xs) ≡ at + length (plain (x ∷ xs)) = omega (arith, length-append x.1 (plain xs)) in
    ap (λ l. (if x.0 then (at, at + length x.1) ∷ [] else []) ++ l) (spots_append (at + length x.1) xs ys ∙ ap (λ n. spots (at + length x.1) xs ++ spots n ys) e)
    ∙ sym (append_assoc (if x.0 then (at, at + length x.1) ∷ [] else []) (spots (at + length x.1) xs) (spots (at + length (plain (x ∷ xs))) ys))

module _ (old : Text) (w : ℕ → ℕ) (some : (c : ℕ) → 1 ≤ w c) (ls : List Row) (h : AreLines ls) where
  abbrev pub spot : Place → ℕ × ℕ
  spot p = offsets w (text_of ls) (place_range w (text_of ls) p)

  there : (m : ℕ) → m < length ls → (front back : List ℕ) → text_at ls m ≡ front ++ back → (bytes : ℕ) → bytes ≡ sum_by len_utf8 front →
      position_of w (text_of ls) (offset_of len_utf8 (text_of ls) m bytes) ≡ record { line = m; character = sum_by w front }
  there m lt front back cut bytes is =
      let utf8 : (c : ℕ) → 1 ≤ len_utf8 c = λ c. omega (arith, len_utf8_bounds c) in
      ap (position_of w (text_of ls)) (ap (offset_of len_utf8 (text_of ls) m) is ∙ offset_behind len_utf8 utf8 ls h m lt front back cut)
      ∙ position_behind w some ls h m lt front back cut

  there_and_back : (m : ℕ) → m < length ls → (front back : List ℕ) → text_at ls m ≡ front ++ back → (bytes : ℕ) → bytes ≡ sum_by len_utf8 front →
      position_offset w (text_of ls) (position_of w (text_of ls) (offset_of len_utf8 (text_of ls) m bytes)) ≡ start_of ls m + length front
  there_and_back m lt front back cut bytes is =
      ap (position_offset w (text_of ls)) (there m lt front back cut bytes is) ∙ offset_behind w some ls h m lt front back cut

  by_place : (b : Bool) (p : Place) (here : ℕ × ℕ) (ps : List Place) (more : List (ℕ × ℕ)) → spot p ≡ here → map spot ps ≡ more →
      map spot ((if b then p ∷ [] else []) ++ ps) ≡ (if b then here ∷ [] else []) ++ more
  by_place true p here ps more e f = (λ i. e i ∷ f i)
  by_place false p here ps more e f = f

  line_spots : (m : ℕ) → m < length ls → (ps : List Piece) (front : List ℕ) (touched : Bool) (start : ℕ) → AreTexts ps → start ≡ sum_by len_utf8 front →
      text_at ls m ≡ front ++ plain (segments old touched ps) → map spot (line_places old m start touched ps) ≡ spots (start_of ls m + length front) (segments old touched ps)
  line_spots m lt [] front touched start t is cut = refl
  line_spots m lt (p ∷ ps) front touched start t is cut =
      let behind = plain (segments old (touches p.0) ps) in
      let next : text_at ls m ≡ (front ++ chars p.1) ++ behind = cut ∙ sym (append_assoc front (chars p.1) behind) in
      let end : start + length p.1 ≡ sum_by len_utf8 (front ++ chars p.1) =
      omega (arith, is, sum_by-append len_utf8 front (chars p.1), bytes_sum (chars p.1), ap length (encodes-chars p.1 t.0))
      in
      let long : start_of ls m + length (front ++ chars p.1) ≡ start_of ls m + length front + length (chars p.1) = omega (arith, length-append front (chars p.1)) in
      by_place (is_at_place old touched p.0 p.1) (record { line = m; start = start; end = start + length p.1 })
      (start_of ls m + length front, start_of ls m + length front + length (chars p.1))
      (line_places old m (start + length p.1) (touches p.0) ps) (spots (start_of ls m + length front + length (chars p.1)) (segments old (touches p.0) ps))
      (λ i. (there_and_back m lt front (chars p.1 ++ behind) cut start is i, (there_and_back m lt (front ++ chars p.1) behind next (start + length p.1) end ∙ long) i))
      (line_spots m lt ps (front ++ chars p.1) (touches p.0) (start + length p.1) t.1 end next ∙ ap (λ n. spots n (segments old (touches p.0) ps)) long)

  -- These lines stand from this one on.
  record Stand (cuts : List Cut) (at base : ℕ) : Type 0 where
    all : at + length cuts ≡ length ls
    start : (j : ℕ) → start_of ls (at + j) ≡ base + start_of (map row_of (rows_of old cuts)) j
    text : (j : ℕ) → text_at ls (at + j) ≡ text_at (map row_of (rows_of old cuts)) j

  stand_behind : (r : Cut) (cuts : List Cut) (at base : ℕ) → Stand (r ∷ cuts) at base → Stand cuts (suc at) (base + length (plain (segments old false r.0)) + length (end_text r.1))
  stand_behind r cuts at base s = record {
    all = omega (arith, s.all);
    start = λ j. let next : suc at + j ≡ at + suc j = omega arith in omega (arith, ap (start_of ls) next, s.start (suc j));
    text = λ j. let next : suc at + j ≡ at + suc j = omega arith in ap (text_at ls) next ∙ s.text (suc j);
  }

  lines_spots : (cuts : List Cut) (at base : ℕ) → AreLineCuts cuts → Stand cuts at base → map spot (lines_places old at (map (λ (r : Cut). r.0) cuts)) ≡ spots base (whole (rows_of old cuts))
  lines_spots [] at base c s = refl
  lines_spots (r ∷ cuts) at base c s =
      let segs = segments old false r.0 in
      let first : at + 0 ≡ at = omega arith in
      let lt : at < length ls = omega (arith, s.all) in
      let cut : text_at ls at ≡ plain segs = ap (text_at ls) (sym first) ∙ s.text 0 in
      let here : start_of ls at + 0 ≡ base = omega (arith, ap (start_of ls) first, s.start 0) in
      let own = line_spots at lt r.0 [] false 0 (piece_texts r.0 c.0 c.1) refl cut ∙ ap (λ n. spots n segs) here in
      let more = lines_spots cuts (suc at) (base + length (plain segs) + length (end_text r.1)) c.2 (stand_behind r cuts at base s) in
      map-append spot (line_places old at 0 false r.0) (lines_places old (suc at) (map (λ (r : Cut). r.0) cuts))
      ∙ ((λ i. own i ++ more i) ∙ sym (spots_append base segs ((false, end_text r.1) ∷ whole (rows_of old cuts))))

  -- ---- the same of the ranges themselves

  abbrev pub range_of : Place → Range
  range_of p = place_range w (text_of ls) p

  by_range : (b : Bool) (p : Place) (here : Range) (ps : List Place) (more : List Range) → range_of p ≡ here → map range_of ps ≡ more →
      map range_of ((if b then p ∷ [] else []) ++ ps) ≡ (if b then here ∷ [] else []) ++ more
  by_range true p here ps more e f = (λ i. e i ∷ f i)
  by_range false p here ps more e f = f

  line_is : (m : ℕ) → m < length ls → (ps : List Piece) (front : List ℕ) (touched : Bool) (start : ℕ) → AreTexts ps → start ≡ sum_by len_utf8 front →
      text_at ls m ≡ front ++ plain (segments old touched ps) → map range_of (line_places old m start touched ps) ≡ line_ranges w m front (segments old touched ps)
  line_is m lt [] front touched start t is cut = refl
  line_is m lt (p ∷ ps) front touched start t is cut =
      let behind = plain (segments old (touches p.0) ps) in
      let next : text_at ls m ≡ (front ++ chars p.1) ++ behind = cut ∙ sym (append_assoc front (chars p.1) behind) in
      let end : start + length p.1 ≡ sum_by len_utf8 (front ++ chars p.1) =
      omega (arith, is, sum_by-append len_utf8 front (chars p.1), bytes_sum (chars p.1), ap length (encodes-chars p.1 t.0))
      in
      by_range (is_at_place old touched p.0 p.1) (record { line = m; start = start; end = start + length p.1 }) (range_between w m front (front ++ chars p.1))
      (line_places old m (start + length p.1) (touches p.0) ps) (line_ranges w m (front ++ chars p.1) (segments old (touches p.0) ps))
      (λ i. record {
        start = there m lt front (chars p.1 ++ behind) cut start is i;
        end = there m lt (front ++ chars p.1) behind next (start + length p.1) end i;
      })
      (line_is m lt ps (front ++ chars p.1) (touches p.0) (start + length p.1) t.1 end next)

  lines_are : (cuts : List Cut) (at base : ℕ) → AreLineCuts cuts → Stand cuts at base → map range_of (lines_places old at (map (λ (r : Cut). r.0) cuts)) ≡ rows_ranges w at (rows_of old cuts)
  lines_are [] at base c s = refl
  lines_are (r ∷ cuts) at base c s =
      let segs = segments old false r.0 in
      let first : at + 0 ≡ at = omega arith in
      let lt : at < length ls = omega (arith, s.all) in
      let cut : text_at ls at ≡ plain segs = ap (text_at ls) (sym first) ∙ s.text 0 in
      let own = line_is at lt r.0 [] false 0 (piece_texts r.0 c.0 c.1) refl cut in
      let more = lines_are cuts (suc at) (base + length (plain segs) + length (end_text r.1)) c.2 (stand_behind r cuts at base s) in
      map-append range_of (line_places old at 0 false r.0) (lines_places old (suc at) (map (λ (r : Cut). r.0) cuts)) ∙ (λ i. own i ++ more i)

module _ (old : Text) (w : ℕ → ℕ) (some : (c : ℕ) → 1 ≤ w c) (cuts : List Cut) (c : AreLineCuts cuts) (h : AreLines (map row_of (rows_of old cuts))) where
  count : (cuts : List Cut) → length (map row_of (rows_of old cuts)) ≡ length cuts
  count [] = refl
  count (r ∷ cuts) = ap suc (count cuts)

  all_stand : Stand old w some (map row_of (rows_of old cuts)) h cuts 0 0
  all_stand =
      let ls = map row_of (rows_of old cuts) in
      record {
        all = omega (arith, count cuts);
        start = λ j. let e : 0 + j ≡ j = omega arith in omega (arith, ap (start_of ls) e);
        text = λ j. let e : 0 + j ≡ j = omega arith in ap (text_at ls) e;
      }

  -- The places of the name in all lines, as ranges and back, are the spots of the whole text.
  pub all_spots : map (spot old w some (map row_of (rows_of old cuts)) h) (lines_places old 0 (map (λ (r : Cut). r.0) cuts)) ≡ spots 0 (whole (rows_of old cuts))
  all_spots = lines_spots old w some (map row_of (rows_of old cuts)) h cuts 0 0 c all_stand

  -- The ranges of these places are those of the segments that change.
  pub all_ranges : map (place_range w (text_of (map row_of (rows_of old cuts)))) (lines_places old 0 (map (λ (r : Cut). r.0) cuts)) ≡ rows_ranges w 0 (rows_of old cuts)
  all_ranges = lines_are old w some (map row_of (rows_of old cuts)) h cuts 0 0 c all_stand
