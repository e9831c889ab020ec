-- What is left to do in the walk, as a number that falls.
use Rattle.std.proofs.Common.{◌≡◌, ℕ, zero, suc, ◌+◌, ◌-◌, ◌*◌, ◌<◌, ◌≤◌, List, [], ◌∷◌, refl, sym, ap, ◌∙◌, arith, map, max}
use Rattle.std.specs.List.{AllByRecursion}
use Rattle.std.proofs.Math.Nat.{mul-le-mul_left, mul-le-mul_right}
use Rattle.abnf_cert.specs.declared.entry.Entry.{Entry}
use Rattle.abnf_cert.specs.declared.entry.Entry.TheVariants.{Nothing, Least}
use Rattle.abnf_cert.specs.Accepted.{top, cut, in_a_row, all_in_a_row}
use Rattle.abnf_least.specs.declared.work.Task.{Task}
use Rattle.abnf_least.specs.declared.work.Task.TheVariants.{Write, End}
use Rattle.abnf_least.specs.own.Walk.{keep, keep_by, keep_all, keep_times}

-- the steps that a part may take for each of its characters
abbrev pub room : ℕ → ℕ → ℕ → ℕ
room count n h = h * suc count + (count - n)

abbrev pub weight_of : ℕ → Entry → ℕ → ℕ
weight_of count Nothing n = 0
weight_of count (Least l h c) n = l * suc (room count n h)

module _ (at : ℕ → Entry) (count : ℕ) where
  abbrev pub weight : List Task → ℕ
  weight [] = 0
  weight (Write n ∷ ts) = weight_of count (at n) n + weight ts
  weight (End n start ∷ ts) = weight ts

  kept_weight : (e : Entry) (n : ℕ) (ts : List Task) → at n ≡ e → weight (keep_by e n ts) ≤ weight_of count e n + weight ts
  kept_weight Nothing n ts is = omega arith
  kept_weight (Least zero h c) n ts is = omega arith
  kept_weight (Least (suc l) h c) n ts is = let same = ap (λ e. weight_of count e n) is in omega arith

  pub keep_weight : (n : ℕ) (ts : List Task) → weight (keep at n ts) ≤ weight_of count (at n) n + weight ts
  keep_weight n ts = kept_weight (at n) n ts refl

  -- a part below another in the same tree has less room
  below_room : (n m j h : ℕ) → n < count → n < m → j ≤ h → suc (room count m j) ≤ room count n h
  below_room n m j h within after le = let less : j * suc count ≤ h * suc count = mul-le-mul_right (suc count) le in omega arith

  pub below_weight : (n m l j h d : ℕ) → n < count → n < m → j ≤ h → weight_of count (Least l j d) m ≤ l * room count n h
  below_weight n m l j h d within after le = mul-le-mul_left l (below_room n m j h within after le)

  -- the root of a rule has less room than a reference to it
  pub root_weight : (n m l h d : ℕ) → weight_of count (Least l h d) m ≤ l * room count n (h + 1)
  root_weight n m l h d =
      let more : (h + 1) * suc count ≡ h * suc count + suc count = omega arith in
      let less : suc (room count m h) ≤ room count n (h + 1) = omega arith in
      mul-le-mul_left l less

-- the entries of two parts in a row
pub record IsRow (e f : Entry) (l h : ℕ) : Type 0 where
  pub l_first : ℕ
  pub h_first : ℕ
  pub c_first : ℕ
  pub l_rest : ℕ
  pub h_rest : ℕ
  pub c_rest : ℕ
  pub first : e ≡ Least l_first h_first c_first
  pub rest : f ≡ Least l_rest h_rest c_rest
  pub sum : l_first + l_rest ≡ l
  pub low : h_first ≤ h
  pub low_rest : h_rest ≤ h

pub row_of : (e f : Entry) (l h c : ℕ) → in_a_row e f ≡ Least l h c → l < top → IsRow e f l h
row_of Nothing f l h c is below = absurd (cc)
row_of (Least a i x) Nothing l h c is below = absurd (cc)
row_of (Least a i x) (Least b j y) l h c is below =
    let lengths : cut (a + b) ≡ l = cc in
    let heights : max i j ≡ h = cc in
    record {
      l_first = a;
      h_first = i;
      c_first = x;
      l_rest = b;
      h_rest = j;
      c_rest = y;
      first = refl;
      rest = refl;
      sum = omega arith;
      low = omega arith;
      low_rest = omega arith;
    }

module _ (at : ℕ → Entry) (count n h : ℕ) (within : n < count) where
  pub row_weight : (ms : List ℕ) (ts : List Task) → AllByRecursion (λ m. n < m) ms → (l k c : ℕ) → all_in_a_row (map at ms) ≡ Least l k c → l < top → k ≤ h → weight at count (keep_all at ms ts) ≤ l * room count n h + weight at count ts
  row_weight [] ts after l k c is below low = omega arith
  row_weight (m ∷ ms) ts after l k c is below low =
      let row = row_of (at m) (all_in_a_row (map at ms)) l k c is below in
      let head = keep_weight at count m (keep_all at ms ts) in
      let same = ap (λ e. weight_of count e m) row.first in
      let one = below_weight at count n m row.l_first row.h_first h row.c_first within after.0 (omega (arith, row.low)) in
      let rest = row_weight ms ts after.1 row.l_rest row.h_rest row.c_rest row.rest (omega (arith, row.sum)) (omega (arith, row.low_rest)) in
      let both : l * room count n h ≡ row.l_first * room count n h + row.l_rest * room count n h = spread row.l_first row.l_rest l (room count n h) row.sum in
      omega arith
    where
      spread : (a b c r : ℕ) → a + b ≡ c → c * r ≡ a * r + b * r
      spread a b c r e = ap (λ x. x * r) (sym e) ∙ omega arith

  pub times_weight : (m l j d : ℕ) → at m ≡ Least l j d → n < m → j ≤ h → (k : ℕ) (ts : List Task) → weight at count (keep_times at k m ts) ≤ k * l * room count n h + weight at count ts
  times_weight m l j d is after low zero ts = omega arith
  times_weight m l j d is after low (suc k) ts =
      let head = keep_weight at count m (keep_times at k m ts) in
      let same = ap (λ e. weight_of count e m) is in
      let one = below_weight at count n m l j h d within after low in
      let rest = times_weight m l j d is after low k ts in
      let both : suc k * l * room count n h ≡ l * room count n h + k * l * room count n h = spread k l (room count n h) in
      omega arith
    where
      spread : (k l r : ℕ) → suc k * l * r ≡ l * r + k * l * r
      spread k l r = omega arith
