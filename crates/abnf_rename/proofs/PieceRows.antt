-- The lines of a text of Unicode scalar values, each by its pieces.
use Rattle.std.proofs.Common.{◌≡◌, ℕ, Bool, true, false, ◌&&◌, List, [], ◌∷◌, ◌++◌, map, refl, sym, ap, subst, ◌∙◌}
use Rattle.std.specs.Str.{chars, IsUtf8, encode_utf8_all as encodes}
use Rattle.std.proofs.Math.Utf8.{scalar, scalars}
use Rattle.std.proofs.lemmas.Str.{chars-append, chars-encodes, chars-nil}
use Rattle.ls_text.specs.Cut.{Row, row, text_of, end_text}
use Rattle.ls_text.specs.declared.line_end.LineEnd.{LineEnd}
use Rattle.abnf_token.specs.Classes.{Text, is_name}
use Rattle.abnf_token.specs.Renamed.{Piece, joined, AreCut, touches}
use Rattle.abnf_token.proofs.LineLaw.{piece_name, at_place}
use Rattle.abnf_token.proofs.PieceChars.{AreTexts, piece_texts}
use Rattle.abnf_rename.proofs.AllPlaces.{ArePieces}
use Rattle.abnf_rename.proofs.LinePieces.{line_pieces}
use Rattle.abnf_rename.proofs.NameTexts.{name_solid, name_plain}
use Rattle.abnf_rename.proofs.SegmentLaws.{plain, row_of, RowOf, AreSolid, AreSolidRows}
use Rattle.abnf_rename.proofs.TextKept.{segments, rows_of, AreLineCuts, encode_plain}

-- a line by its pieces
abbrev pub Cut : Type 0
Cut = List Piece × LineEnd

scalar_parts : (xs ys : List ℕ) → scalars (xs ++ ys) ≡ true → (scalars xs ≡ true) × (scalars ys ≡ true)
scalar_parts [] ys h = (refl, h)
scalar_parts (x ∷ xs) ys h = by (scalar x) (scalar_parts xs ys) h
  where
    by : (b : Bool) → (scalars (xs ++ ys) ≡ true → (scalars xs ≡ true) × (scalars ys ≡ true)) → b && scalars (xs ++ ys) ≡ true → (b && scalars xs ≡ true) × (scalars ys ≡ true)
    by true more h = more h
    by false more h = absurd (cc (h))

module _ (old : Text) where
  plain_chars : (ps : List Piece) (touched : Bool) → AreTexts ps → plain (segments old touched ps) ≡ chars (joined ps)
  plain_chars [] touched t = sym chars-nil
  plain_chars (p ∷ ps) touched t = ap (λ l. chars p.1 ++ l) (plain_chars ps (touches p.0) t.1) ∙ sym (chars-append p.1 (joined ps) t.0)

  pub record Cuts (rows : List Row) : Type 0 where
    pub cuts : List Cut
    pub cut : AreLineCuts cuts
    pub are : map row_of (rows_of old cuts) ≡ rows

  pub row_cuts : (rows : List Row) → scalars (text_of rows) ≡ true → Cuts rows
  row_cuts [] h = record { cuts = []; cut = tt; are = refl }
  row_cuts (r ∷ rows) h =
      let first = scalar_parts r.text (end_text r.end ++ text_of rows) h in
      let more = row_cuts rows (scalar_parts (end_text r.end) (text_of rows) first.1).1 in
      let utf8 : IsUtf8 (encodes r.text) = (r.text, (first.0, refl)) in
      let p = line_pieces (encodes r.text) utf8 in
      let joins : IsUtf8 (joined p.pieces) = subst IsUtf8 (sym p.is) utf8 in
      let same : plain (segments old false p.pieces) ≡ r.text =
      plain_chars p.pieces false (piece_texts p.pieces p.cut joins) ∙ (ap chars p.is ∙ chars-encodes r.text first.0)
      in
      record { cuts = (p.pieces, r.end) ∷ more.cuts; cut = (p.cut, joins, more.cut); are = (λ i. row (same i) r.end ∷ more.are i) }

  pub are_pieces : (new : Text) (utf8 : IsUtf8 new) (cuts : List Cut) → AreLineCuts cuts → ArePieces (map encodes (map (λ (r : RowOf). plain r.0) (rows_of old cuts))) (map (λ (r : Cut). r.0) cuts)
  are_pieces new utf8 [] c = tt
  are_pieces new utf8 (r ∷ cuts) c = (c.0, encode_plain old new utf8 r.0 false (piece_texts r.0 c.0 c.1), are_pieces new utf8 cuts c.2)

  -- names are not empty, and no line end
  solid : (ps : List Piece) (touched : Bool) → AreCut ps → AreSolid (segments old touched ps)
  solid [] touched c = tt
  solid (p ∷ ps) touched c = (λ at. name_solid p.1 (piece_name p ps c (at_place old p.1 touched p.0 at).0), solid ps (touches p.0) c.1)

  pub solid_rows : (new : Text) (named : is_name new ≡ true) (cuts : List Cut) → AreLineCuts cuts → AreSolidRows (chars new) (name_solid new named) (name_plain new named) (rows_of old cuts)
  solid_rows new named [] c = tt
  solid_rows new named (r ∷ cuts) c = (solid r.0 false c.0, solid_rows new named cuts c.2)
