-- The lines of a text after the edits of a rename are the renamed lines.
use Rattle.std.proofs.Common.{◌≡◌, Bool, true, false, List, [], ◌∷◌, ◌++◌, map, refl, sym, subst, ◌∙◌}
use Rattle.std.specs.Prelude.{if◌then◌else◌}
use Rattle.std.specs.Str.{chars, IsUtf8, encode_utf8_all as encodes}
use Rattle.std.proofs.lemmas.Str.{encodes-append, encodes-chars}
use Rattle.ls_text.specs.Cut.{IsPlain}
use Rattle.ls_text.specs.declared.line_end.LineEnd.{LineEnd}
use Rattle.abnf_token.specs.Classes.{Text}
use Rattle.abnf_token.specs.Renamed.{Piece, joined, AreCut, touches, is_at_place, renamed}
use Rattle.abnf_token.proofs.PieceChars.{AreTexts, piece_texts}
use Rattle.abnf_syntax.specs.Blocks.{line_texts}
use Rattle.abnf_rename.specs.Lines.{AreRenamedLines}
use Rattle.abnf_rename.proofs.SegmentLaws.{Segment, plain, changed, spots, put_in, RowOf, rows_text, AreRows, IsSolid, AreSolidRows, lines_rows}
use Rattle.abnf_rename.proofs.WholeText.{whole, edited_lines}

abbrev pub segments : Text → Bool → List Piece → List Segment
segments old touched [] = []
segments old touched (p ∷ ps) = (is_at_place old touched p.0 p.1, chars p.1) ∷ segments old (touches p.0) ps

abbrev pub rows_of : Text → List (List Piece × LineEnd) → List RowOf
rows_of old [] = []
rows_of old (r ∷ rows) = (segments old false r.0, r.1) ∷ rows_of old rows

abbrev pub AreLineCuts : List (List Piece × LineEnd) → Type 0
AreLineCuts [] = Unit {0}
AreLineCuts (r ∷ rows) = AreCut r.0 × IsUtf8 (joined r.0) × AreLineCuts rows

module _ (old new : Text) (utf8 : IsUtf8 new) where
  pub encode_plain : (ps : List Piece) (touched : Bool) → AreTexts ps → encodes (plain (segments old touched ps)) ≡ joined ps
  encode_plain [] touched t = refl
  encode_plain (p ∷ ps) touched t =
      encodes-append (chars p.1) (plain (segments old (touches p.0) ps)) ∙ (λ i. encodes-chars p.1 t.0 i ++ encode_plain ps (touches p.0) t.1 i)

  encode_if : (b : Bool) (x : Text) → IsUtf8 x → encodes (if b then chars new else chars x) ≡ (if b then new else x)
  encode_if true x t = encodes-chars new utf8
  encode_if false x t = encodes-chars x t

  encode_changed : (ps : List Piece) (touched : Bool) → AreTexts ps → encodes (changed (chars new) (segments old touched ps)) ≡ joined (renamed old new touched ps)
  encode_changed [] touched t = refl
  encode_changed (p ∷ ps) touched t =
      encodes-append (if is_at_place old touched p.0 p.1 then chars new else chars p.1) (changed (chars new) (segments old (touches p.0) ps))
      ∙ (λ i. encode_if (is_at_place old touched p.0 p.1) p.1 t.0 i ++ encode_changed ps (touches p.0) t.1 i)

  lines_by : (rows : List (List Piece × LineEnd)) → AreLineCuts rows →
      AreRenamedLines old new (map encodes (map (λ (r : RowOf). plain r.0) (rows_of old rows))) (map encodes (map (λ (r : RowOf). changed (chars new) r.0) (rows_of old rows)))
  lines_by [] c = tt
  lines_by (r ∷ rows) c =
      let texts = piece_texts r.0 c.0 c.1 in (
        record { pieces = r.0; cut = c.0; line_is = encode_plain r.0 false texts; other_is = encode_changed r.0 false texts },
        lines_by rows c.2,
      )

  -- Of a text by the pieces and ends of its lines: after the edits, from the last to the first, its lines are the renamed lines.
  pub text_kept : (solid : IsSolid (chars new)) (new_plain : IsPlain (chars new)) (rows : List (List Piece × LineEnd)) → AreLineCuts rows →
      AreSolidRows (chars new) solid new_plain (rows_of old rows) → AreRows (rows_of old rows) →
      AreRenamedLines old new (line_texts (rows_text (rows_of old rows))) (line_texts (put_in (rows_text (rows_of old rows)) (chars new) (spots 0 (whole (rows_of old rows)))))
  text_kept solid new_plain rows c s h =
      subst (λ l. AreRenamedLines old new (map encodes l) (line_texts (put_in (rows_text (rows_of old rows)) (chars new) (spots 0 (whole (rows_of old rows))))))
      (sym (lines_rows (rows_of old rows) h))
      (subst (λ l. AreRenamedLines old new (map encodes (map (λ (r : RowOf). plain r.0) (rows_of old rows))) (map encodes l))
      (sym (edited_lines (chars new) solid new_plain (rows_of old rows) s h)) (lines_by rows c))
