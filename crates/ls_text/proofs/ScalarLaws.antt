-- The characters of lines are Unicode scalar values.
use Rattle.std.proofs.Common.{◌≡◌, ℕ, ◌+◌, ◌<◌, true, List, [], ◌∷◌, ◌++◌, length, take, get_or, refl, sym, ap, subst, ◌∙◌}
use Rattle.std.specs.Prelude.{All, ◌&&◌}
use Rattle.std.specs.Arc.{arc_value}
use Rattle.std.specs.declared.sync.Arc.{Arc}
use Rattle.std.specs.Char.{IsScalar}
use Rattle.std.specs.List.{list_all, flat_map}
use Rattle.std.specs.Str.{chars, IsUtf8}
use Rattle.std.proofs.Math.Utf8.{scalar, scalars}
use Rattle.std.proofs.lemmas.List.Elements.{All-append}
use Rattle.std.proofs.lemmas.List.Sums.{AllPass-from_list_all}
use Rattle.std.proofs.lemmas.Str.{scalars-chars}
use Rattle.ls_text.specs.Cut.{Row, end_text, line_text, text_of}
use Rattle.ls_text.specs.own.Chunks.{lines_behind}
use Rattle.ls_text.specs.declared.chunk.Chunk.{Chunk}
use Rattle.ls_text.specs.declared.line_end.LineEnd.{LineEnd}
use Rattle.ls_text.specs.declared.line_end.LineEnd.TheVariants.{Eof, Lf, Cr, CrLf}
use Rattle.ls_text.proofs.HeldLaws.{text_of_append, text_of_one, held_more}

list_all_scalar : (cs : List ℕ) → list_all scalar cs ≡ scalars cs
list_all_scalar [] = refl
list_all_scalar (c ∷ cs) = ap (λ b. scalar c && b) (list_all_scalar cs)

end_scalars : (e : LineEnd) → list_all scalar (end_text e) ≡ true
end_scalars Eof = refl
end_scalars Lf = refl
end_scalars Cr = refl
end_scalars CrLf = refl

pub chars_scalars : (bs : List ℕ) → IsUtf8 bs → All IsScalar (chars bs)
chars_scalars bs u = AllPass-from_list_all scalar (chars bs) (list_all_scalar (chars bs) ∙ scalars-chars bs u)

pub no_scalars : All IsScalar []
no_scalars = AllPass-from_list_all scalar [] refl

line_scalars : (l : Row) → All IsScalar (line_text l) → All IsScalar (line_text l ++ end_text l.end)
line_scalars l h = All-append IsScalar (line_text l) (end_text l.end) h (AllPass-from_list_all scalar (end_text l.end) (end_scalars l.end))

-- one more of the lines
pub scalars_more : (ls : List Row) (i : ℕ) (x : Row) → i < length ls → x ≡ get_or ls i x → All IsScalar (line_text x) → All IsScalar (text_of (take i ls)) → All IsScalar (text_of (take (i + 1) ls))
scalars_more ls i x lt item line before =
    subst (λ z. All IsScalar (text_of z)) (sym (held_more ls i x lt item))
    (subst (All IsScalar) (sym (text_of_one (take i ls) x))
    (All-append IsScalar (text_of (take i ls)) (line_text x ++ end_text x.end) before (line_scalars x line)))

pub chunk_scalars : {Z : Type 0} (cs : List (Arc Chunk Z)) → All IsScalar (text_of (flat_map lines_behind cs))
chunk_scalars [] = no_scalars
chunk_scalars (c ∷ cs) =
    subst (All IsScalar) (sym (text_of_append (lines_behind c) (flat_map lines_behind cs)))
    (All-append IsScalar (text_of (lines_behind c)) (text_of (flat_map lines_behind cs)) (arc_value c).scalars (chunk_scalars cs))
