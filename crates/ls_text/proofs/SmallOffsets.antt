-- Offsets of positions are small.
use Rattle.std.proofs.Common.{◌≡◌, ℕ, zero, suc, ◌+◌, ◌≤◌, ◌<◌, ◌^◌, Bool, true, false, List, [], ◌∷◌, length, length-take, take, arith, encode_utf8_all}
use Rattle.std.specs.Prelude.{Option, None, Some, IfSome, if◌then◌else◌, unwrap_or}
use Rattle.std.proofs.lemmas.Str.{length-le-encodes}
use Rattle.ls_text.specs.Lines.{ends_line, greatest, is_within, line_at, line_ends, max_bytes, offset_of}

greatest_le : (p : ℕ → Bool) (n : ℕ) → IfSome (greatest p n) (λ k. k ≤ n)
unfolding greatest
greatest_le p zero = by (p 0)
  where
    by : (b : Bool) → IfSome (if b then Some 0 else None) (λ k. k ≤ 0)
    by true = omega arith
    by false = tt
greatest_le p (suc n) = by (p (suc n)) (greatest p n) (greatest_le p n)
  where
    by : (b : Bool) (o : Option ℕ) → IfSome o (λ k. k ≤ n) → IfSome (if b then Some (suc n) else o) (λ k. k ≤ suc n)
    by true o h = omega arith
    by false None h = tt
    by false (Some k) h = omega (arith, h)

pub offset_le : (width : ℕ → ℕ) (t : List ℕ) (l c : ℕ) → offset_of width t l c ≤ length t
unfolding offset_of
offset_le width t l c = by (greatest (is_within width t l c) (length t)) (greatest_le (is_within width t l c) (length t))
  where
    by : (o : Option ℕ) → IfSome o (λ k. k ≤ length t) → unwrap_or o (length t) ≤ length t
    by None h = omega arith
    by (Some k) h = h

-- in a text of a document
pub offset_small : (width : ℕ → ℕ) (t : List ℕ) (l c n : ℕ) → length (encode_utf8_all t) ≤ max_bytes → n ≡ offset_of width t l c → n < 2 ^ 63
offset_small width t l c n small is = omega (arith, small, is, offset_le width t l c, length-le-encodes t)

pub line_ends_le : (t : List ℕ) → line_ends t ≤ length t
unfolding line_ends
line_ends_le [] = omega arith
line_ends_le (c ∷ t) = by (ends_line c t) (line_ends_le t)
  where
    by : (b : Bool) → line_ends t ≤ length t → (if b then 1 else 0) + line_ends t ≤ suc (length t)
    by true h = omega (arith, h)
    by false h = omega (arith, h)

-- and so are lines
pub line_small : (t : List ℕ) (o n : ℕ) → length (encode_utf8_all t) ≤ max_bytes → n ≡ line_at t o → n ≤ max_bytes
line_small t o n small is = omega (arith, small, is, line_ends_le (take o t), length-take o t, length-le-encodes t)
