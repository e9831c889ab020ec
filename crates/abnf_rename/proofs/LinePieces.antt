-- Each line of UTF-8 has pieces.
use Rattle.std.proofs.Common.{◌≡◌, ℕ, zero, suc, ◌<◌, ◌≤◌, List, [], ◌∷◌, ◌++◌, length, take, drop, take-append-drop, Option, Some, None, sym, ap, subst, ◌∙◌, refl, arith, length-drop}
use Rattle.std.specs.Str.{IsUtf8, IsCharBoundary}
use Rattle.std.proofs.lemmas.Str.{IsUtf8-drop}
use Rattle.abnf_token.specs.declared.token.Kind.{Kind}
use Rattle.abnf_token.specs.declared.token.Kind.TheVariants as k
use Rattle.abnf_token.specs.Classes.{Text}
use Rattle.abnf_token.specs.Tokens.{IsNext}
use Rattle.abnf_token.specs.Renamed.{Piece, joined, AreCut}
use Rattle.abnf_token.proofs.Cuts.{found_next, found_cut, first_char, bad_next, char_len}
use Rattle.abnf_token.proofs.Longest.{IsLongest, longest}

pub record Pieces (line : Text) : Type 0 where
  pub pieces : List Piece
  pub cut : AreCut pieces
  pub is : joined pieces ≡ line

with_first : (kind : Kind) (n : ℕ) (line : Text) → IsNext kind (take n line) line → Pieces (drop n line) → Pieces line
with_first kind n line next rest =
    let all : take n line ++ joined rest.pieces ≡ line = ap (λ t. take n line ++ t) rest.is ∙ take-append-drop n line in
    record { pieces = (kind, take n line) ∷ rest.pieces; cut = (subst (IsNext kind (take n line)) (sym all) next, rest.cut); is = all }

pieces_by : (fuel : ℕ) (line : Text) → IsUtf8 line → length line ≤ fuel → Pieces line
pieces_by fuel [] utf8 le = record { pieces = []; cut = tt; is = refl }
pieces_by zero (b ∷ bs) utf8 le = absurd (omega (arith, le))
pieces_by (suc fuel) (b ∷ bs) utf8 le =
    first _ (longest (b ∷ bs))
    (λ n some at. pieces_by fuel (drop n (b ∷ bs)) (IsUtf8-drop (b ∷ bs) n utf8 at) (omega (arith, length-drop n (b ∷ bs), some, le)))
  where
    first : (r : Option (Kind × ℕ)) → IsLongest r (b ∷ bs) → ((n : ℕ) → 0 < n → IsCharBoundary (b ∷ bs) n → Pieces (drop n (b ∷ bs))) → Pieces (b ∷ bs)
    first (Some f) l more = with_first f.0 f.1 (b ∷ bs) (found_next (b ∷ bs) f l) (more f.1 l.0 (found_cut (b ∷ bs) f utf8 l))
    first None l more =
        let c = first_char (b ∷ bs) utf8 (omega arith) in
        with_first k.Bad (char_len (b ∷ bs)) (b ∷ bs) (bad_next (b ∷ bs) c l) (more (char_len (b ∷ bs)) (omega arith) c.cut)

pub line_pieces : (line : Text) → IsUtf8 line → Pieces line
line_pieces line utf8 = pieces_by (length line) line utf8 (omega arith)
