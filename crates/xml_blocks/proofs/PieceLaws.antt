-- Laws of the pieces of a draft.
use Rattle.std.proofs.Common.{◌≡◌, ℕ, Bool, true, false, cond, ◌&&◌, eqb, List, [], ◌∷◌, drop, refl, ap, ◌∙◌}
use Rattle.std.specs.Prelude.{Option, Some, None, Result, Ok, Err}
use Rattle.std.proofs.lemmas.Bool.{both_ways}
use Rattle.xml_blocks.specs.declared.fault.XmlFault.{XmlFault}
use Rattle.xml_blocks.specs.declared.fault.XmlFault.TheVariants.{CommentWithoutEnd, SectionWithoutEnd, TagWithoutEnd}
use Rattle.xml_blocks.specs.declared.piece.Kind.{Kind}
use Rattle.xml_blocks.specs.declared.piece.Kind.TheVariants.{Text, Comment, Section, Tag, Reference}
use Rattle.xml_blocks.specs.declared.piece.Piece.{Piece}
use Rattle.xml_blocks.specs.own.Reading.{IsPieceOf}
use Rattle.std.specs.List.{prefix_len}
use Rattle.xml_blocks.specs.Xml.{begins_with_mark, is_plain_char, markup, piece_at, piece_of, reference, referred_piece, tag_len, until}

-- whether a piece is text
abbrev is_text : Kind → Bool
is_text (Text c) = true
is_text Comment = false
is_text Section = false
is_text Tag = false
is_text (Reference c) = false

-- the same of what may be a fault
abbrev reads_text : Result Piece XmlFault → Bool
reads_text (Ok piece) = is_text piece.kind
reads_text (Err fault) = false

-- how many characters it has
abbrev more_of : Result Piece XmlFault → ℕ
more_of (Ok piece) = piece.more
more_of (Err fault) = 0

-- a piece of another kind is none
no_text_of : (kind : Kind) (fault : XmlFault) (more : Option ℕ) (front : ℕ) → is_text kind ≡ false → reads_text (piece_of kind fault more front) ≡ false
no_text_of kind fault None front e = refl
no_text_of kind fault (Some n) front e = e

-- nor is one of three such
one_of : (x y : Bool) (a b c : Result Piece XmlFault) → reads_text a ≡ false → reads_text b ≡ false → reads_text c ≡ false → reads_text (cond x a (cond y b c)) ≡ false
one_of true y a b c e f g = e
one_of false true a b c e f g = f
one_of false false a b c e f g = g

-- markup is no text
no_markup : (at : ℕ) (t : List ℕ) → reads_text (markup at t) ≡ false
no_markup at t =
    one_of (begins_with_mark (33 ∷ 45 ∷ 45 ∷ []) t) (begins_with_mark (33 ∷ 91 ∷ 67 ∷ 68 ∷ 65 ∷ 84 ∷ 65 ∷ 91 ∷ []) t)
    (piece_of Comment (CommentWithoutEnd at) (until (45 ∷ 45 ∷ 62 ∷ []) (drop 3 t)) 6) (piece_of Section (SectionWithoutEnd at) (until (93 ∷ 93 ∷ 62 ∷ []) (drop 8 t)) 11) (piece_of Tag (TagWithoutEnd at) (tag_len t) 0)
    (no_text_of Comment (CommentWithoutEnd at) (until (45 ∷ 45 ∷ 62 ∷ []) (drop 3 t)) 6 refl) (no_text_of Section (SectionWithoutEnd at) (until (93 ∷ 93 ∷ 62 ∷ []) (drop 8 t)) 11 refl) (no_text_of Tag (TagWithoutEnd at) (tag_len t) 0 refl)

-- nor is a reference
no_reference : (at : ℕ) (r : Option (ℕ × ℕ)) → reads_text (referred_piece at r) ≡ false
no_reference at None = refl
no_reference at (Some r) = refl

-- text goes on as long as no markup begins, and in a block no reference
pub text_piece : (in_block : Bool) (at c : ℕ) (t : List ℕ) (piece : Piece) → Ok piece ≡ piece_at in_block at c t → IsPieceOf in_block piece t
text_piece in_block at c t piece is d e = by_tests (eqb c 60) (in_block && eqb c 38) is
  where
    by_tests : (x y : Bool) → Ok piece ≡ cond x (markup at t) (cond y (referred_piece at (reference t)) (Ok (record { kind = Text c; more = prefix_len (is_plain_char in_block) t }))) → piece.more ≡ prefix_len (is_plain_char in_block) t
    by_tests true y s = absurd (both_ways _ (ap reads_text s ∙ no_markup at t) (ap is_text e))
    by_tests false true s = absurd (both_ways _ (ap reads_text s ∙ no_reference at (reference t)) (ap is_text e))
    by_tests false false s = ap more_of s
