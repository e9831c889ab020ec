-- Laws of the lines that a snapshot holds, one after another.
use Rattle.std.proofs.Common.{◌≡◌, ℕ, ◌+◌, ◌<◌, ◌≤◌, List, [], ◌∷◌, ◌++◌, length, take, drop, get_or, refl, sym, ap, subst, ◌∙◌, arith, append_assoc, length-append, take-append-drop}
use Rattle.std.specs.Str.{chars, IsUtf8, encode_utf8_all as encodes}
use Rattle.std.specs.Char.{encode_utf8 as encode}
use Rattle.std.proofs.lemmas.Str.{encodes-append, encodes-chars, chars-append, length-le-encodes}
use Rattle.std.proofs.lemmas.List.{append-nil, take_more}
use Rattle.ls_text.specs.Cut.{end_text, line_text, text_of, IsIndex}
use Rattle.ls_text.specs.declared.line_end.LineEnd.{LineEnd}
use Rattle.ls_text.specs.declared.line_end.LineEnd.TheVariants.{Eof, Lf, Cr, CrLf}
use Rattle.ls_text.specs.Cut.{Row}
use Rattle.ls_text.proofs.CutLaws.{text_of_push, chars_end}
use Rattle.ls_text.proofs.OffsetLaws.{index_push}

pub text_of_append : (xs ys : List Row) → text_of (xs ++ ys) ≡ text_of xs ++ text_of ys
text_of_append [] ys = refl
text_of_append (x ∷ xs) ys =
    ap (λ t. line_text x ++ (end_text x.end ++ t)) (text_of_append xs ys)
    ∙ ap (λ t. line_text x ++ t) (sym (append_assoc (end_text x.end) (text_of xs) (text_of ys)))
    ∙ sym (append_assoc (line_text x) (end_text x.end ++ text_of xs) (text_of ys))

pub text_of_one : (ls : List Row) (l : Row) → text_of (ls ++ l ∷ []) ≡ text_of ls ++ (line_text l ++ end_text l.end)
text_of_one ls l = sym (append-nil (text_of (ls ++ l ∷ []))) ∙ text_of_push ls l [] ∙ ap (λ x. text_of ls ++ (line_text l ++ x)) (append-nil (end_text l.end))

bytes_end : (e : LineEnd) → length (encodes (end_text e)) ≡ length (end_text e)
unfolding encode
bytes_end Eof = refl
bytes_end Lf = refl
bytes_end Cr = refl
bytes_end CrLf = refl

pub bytes_push : (ls : List Row) (l : Row) → length (encodes (text_of (ls ++ l ∷ []))) ≡ length (encodes (text_of ls)) + (length (encodes (line_text l)) + length (end_text l.end))
bytes_push ls l =
    omega (arith, ap (λ x. length (encodes x)) (text_of_one ls l), ap length (encodes-append (text_of ls) (line_text l ++ end_text l.end)), length-append (encodes (text_of ls)) (encodes (line_text l ++ end_text l.end)), ap length (encodes-append (line_text l) (end_text l.end)), length-append (encodes (line_text l)) (encodes (end_text l.end)), bytes_end l.end)

-- a text has no fewer bytes than characters
pub chars_le : (bs : List ℕ) → IsUtf8 bs → length (chars bs) ≤ length bs
chars_le bs u = omega (arith, length-le-encodes (chars bs), ap length (encodes-chars bs u))

pub bytes_front : (xs ys : List Row) → length (encodes (text_of xs)) ≤ length (encodes (text_of (xs ++ ys)))
bytes_front xs ys = omega (arith, ap (λ x. length (encodes x)) (text_of_append xs ys), ap length (encodes-append (text_of xs) (text_of ys)), length-append (encodes (text_of xs)) (encodes (text_of ys)))

-- a line and its line end, after other bytes
pub line_spelled : (bs line end : List ℕ) (l : Row) → IsUtf8 bs → chars line ≡ line_text l → IsUtf8 line → end ≡ end_text l.end → chars ((bs ++ line) ++ end) ≡ chars bs ++ (line_text l ++ end_text l.end)
line_spelled bs line end l u text_is v end_is =
    ap chars (append_assoc bs line end) ∙ chars-append bs (line ++ end) u
    ∙ ap (λ z. chars bs ++ z) (chars-append line end v ∙ (λ i. text_is i ++ (ap chars end_is ∙ chars_end l.end) i))

module _ (ls : List Row) (i : ℕ) (x : Row) (lt : i < length ls) (item : x ≡ get_or ls i x) where
  pub held_more : take (i + 1) ls ≡ take i ls ++ x ∷ []
  held_more = take_more ls i x lt ∙ ap (λ z. take i ls ++ z ∷ []) (sym item)

  pub indexed_more : (starts next : List ℕ) (len count ends : ℕ) → IsIndex starts len (take i ls) → next ≡ starts ++ len ∷ [] → count ≡ length (line_text x) → ends ≡ length (end_text x.end) → IsIndex next (len + (count + ends)) (take (i + 1) ls)
  indexed_more starts next len count ends index next_is count_is ends_is =
      subst (λ z. IsIndex next (len + (count + ends)) z) (sym held_more) (subst (λ z. IsIndex z (len + (count + ends)) (take i ls ++ x ∷ [])) (sym next_is) (index_push starts len (take i ls) x (count + ends) index (omega (arith, count_is, ends_is))))

  pub held_bytes : length (encodes (text_of (take (i + 1) ls))) ≡ length (encodes (text_of (take i ls))) + (length (encodes (line_text x)) + length (end_text x.end))
  held_bytes = ap (λ z. length (encodes (text_of z))) held_more ∙ bytes_push (take i ls) x

  pub held_bytes_le : length (encodes (text_of (take (i + 1) ls))) ≤ length (encodes (text_of ls))
  held_bytes_le = subst (λ z. length (encodes (text_of (take (i + 1) ls))) ≤ length (encodes (text_of z))) (take-append-drop (i + 1) ls) (bytes_front (take (i + 1) ls) (drop (i + 1) ls))
