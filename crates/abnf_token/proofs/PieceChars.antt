-- The pieces of a text of UTF-8 are texts of UTF-8: each ends between two characters.
use Rattle.std.proofs.Common.{◌≡◌, ◌<◌, true, List, [], ◌∷◌, ◌++◌, length, take, ap, subst, ◌∙◌, arith, length-append}
use Rattle.std.specs.Str.{IsUtf8, IsCharBoundary, continuation_len}
use Rattle.std.proofs.lemmas.Bool.{eqb-true}
use Rattle.std.proofs.lemmas.Str.{IsUtf8-take, IsUtf8-drop}
use Rattle.std.proofs.Math.Seq.{take-append_seam, drop-append_seam}
use Rattle.abnf_token.specs.declared.token.Kind.{Kind}
use Rattle.abnf_token.specs.Classes.{Text, is_in, is_character}
use Rattle.abnf_token.specs.Renamed.{Piece, joined, AreCut}
use Rattle.abnf_token.proofs.Longest.{same_self}
use Rattle.abnf_token.proofs.Language.{is_kind, class_is}
use Rattle.abnf_token.proofs.Cuts.{found_cut, first_char, char_len}
use Rattle.abnf_token.proofs.LineLaw.{Fine, piece_fine, to_longer}
use Rattle.abnf_token.proofs.LineLaw.Fine.{in_class, is_bad}

char_size : (text rest : Text) → 0 < length text → is_character text ≡ true → char_len (text ++ rest) ≡ length text
char_size [] rest some is = absurd (omega (arith, some))
char_size (b ∷ bs) rest some is = omega (arith, eqb-true (length bs) (continuation_len b) is)

boundary : (kind : Kind) (text rest : Text) → 0 < length text → IsUtf8 (text ++ rest) → Fine kind text rest → IsCharBoundary (text ++ rest) (length text)
boundary kind text rest some utf8 (in_class acc q) =
    let is : is_in kind (take (length text) (text ++ rest)) ≡ true = ap (is_in kind) (take-append_seam text rest) ∙ (class_is kind text ∙ (ap (is_kind kind) acc ∙ same_self kind)) in
    found_cut (text ++ rest) (kind, length text) utf8 (some, omega (arith, length-append text rest), is, to_longer text rest q)
boundary kind text rest some utf8 (is_bad e c q) =
    subst (IsCharBoundary (text ++ rest)) (char_size text rest some c) (first_char (text ++ rest) utf8 (omega (arith, some, length-append text rest))).cut

abbrev pub AreTexts : List Piece → Type 0
AreTexts [] = Unit {0}
AreTexts (p ∷ ps) = IsUtf8 p.1 × AreTexts ps

pub piece_texts : (ps : List Piece) → AreCut ps → IsUtf8 (joined ps) → AreTexts ps
piece_texts [] cut utf8 = tt
piece_texts (p ∷ ps) cut utf8 =
    let at = boundary p.0 p.1 (joined ps) cut.0.some utf8 (piece_fine p ps cut) in (
      subst IsUtf8 (take-append_seam p.1 (joined ps)) (IsUtf8-take (p.1 ++ joined ps) (length p.1) utf8 at),
      piece_texts ps cut.1 (subst IsUtf8 (drop-append_seam p.1 (joined ps)) (IsUtf8-drop (p.1 ++ joined ps) (length p.1) utf8 at)),
    )
