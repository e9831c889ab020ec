-- Seats by their numbers.
use Rattle.std.proofs.Common.{◌≡◌, ℕ, ◌+◌, ◌<◌, ◌≤◌, Bool, true, false, sym, length, length-append, List, [], ◌∷◌, ◌++◌, cond, ap, ◌∙◌, inl, inr, arith, rules}
use Rattle.std.proofs.Math.Nat.{eq-or-lt_of_le}
use Rattle.std.proofs.lemmas.Bool.Decides.{nat_tests}
use Rattle.std.specs.Prelude.{◌==◌, count_by, sum_by}
use Rattle.std.specs.List.{list_all}
use Rattle.std.proofs.lemmas.List.Sums.{sum_by-append}
use Rattle.std.proofs.lemmas.List.Folds.{list_all-append}

-- one number more below a bound
pub one_more : (f : ℕ → ℕ) (bound : ℕ) → ((number : ℕ) → number < bound → f number ≡ 1) → f bound ≡ 1 → (number : ℕ) → number < bound + 1 → f number ≡ 1
one_more f bound below here number less = elim (eq-or-lt_of_le {n = number} {m = bound} (omega arith)) [ inl same ↦ ap f same ∙ here | inr under ↦ below number under ]

-- Each number below the bound stands once, and no other.
pub record Numbered {X : Type 0} (number_of : X → ℕ) (xs : List X) (bound : ℕ) : Type 0 where
  pub once : (number : ℕ) → number < bound → count_by (λ x. number_of x == number) xs ≡ 1
  pub none : (number : ℕ) → bound ≤ number → count_by (λ x. number_of x == number) xs ≡ 0

sum_one : {X : Type 0} (f : X → ℕ) (x : X) → sum_by f (x ∷ []) ≡ f x
sum_one f x = search rules

count_by_push : {X : Type 0} (p : X → Bool) (xs : List X) (x : X) → count_by p (xs ++ x ∷ []) ≡ count_by p xs + cond (p x) 1 0
count_by_push p xs x = sum_by-append (λ y. cond (p y) 1 0) xs (x ∷ []) ∙ ap (λ n. count_by p xs + n) (sum_one (λ y. cond (p y) 1 0) x)

number_is : (n m : ℕ) → n ≡ m → (n == m) ≡ true
number_is n m same = grind (arith, nat_tests)

number_isnt : (n m : ℕ) → n < m → (m == n) ≡ false
number_isnt n m less = grind (arith, nat_tests)

number_isnt_above : (n m : ℕ) → n < m → (n == m) ≡ false
number_isnt_above n m less = grind (arith, nat_tests)

pub numbered_none : {X : Type 0} (number_of : X → ℕ) → Numbered number_of [] 0
numbered_none number_of = record { once = λ number less. absurd (omega arith); none = λ number least. search rules }

pub numbered_push : {X : Type 0} (number_of : X → ℕ) (xs : List X) (x : X) (bound : ℕ) → number_of x ≡ bound → Numbered number_of xs bound → Numbered number_of (xs ++ x ∷ []) (bound + 1)
numbered_push number_of xs x bound is known = record {
  once = λ number less. elim (eq-or-lt_of_le {n = number} {m = bound} (omega arith)) [
    | inl same ↦ (let e = count_by_push (λ y. number_of y == number) xs x in
        let z = known.none number (omega arith) in
        let t = ap (λ b. cond {A = ℕ} b 1 0) (number_is (number_of x) number (is ∙ sym same)) in
        omega arith)
    | inr under ↦ (let e = count_by_push (λ y. number_of y == number) xs x in
        let z = known.once number under in
        let t = ap (λ b. cond {A = ℕ} b 1 0) (number_isnt number (number_of x) (omega (arith, is, under))) in
        omega arith)
  ];
  none = λ number least.
      let e = count_by_push (λ y. number_of y == number) xs x in
      let z = known.none number (omega arith) in
      let t = ap (λ b. cond {A = ℕ} b 1 0) (number_isnt_above (number_of x) number (omega (arith, is, least))) in
      omega arith;
}

-- The first seats, in the order of their numbers: all have the mark, and nothing is counted in them.
pub record AreFirst {X : Type 0} (mark_of : X → ℕ) (number_of : X → ℕ) (took : X → ℕ) (returned : X → ℕ) (finished : X → ℕ) (mark : ℕ) (seats : List X) (bound : ℕ) : Type 0 where
  pub marks : list_all (λ seat. mark_of seat == mark) seats ≡ true
  pub count_is : length seats ≡ bound
  pub numbers : Numbered number_of seats bound
  pub took_none : sum_by took seats ≡ 0
  pub returned_none : sum_by returned seats ≡ 0
  pub finished_none : sum_by finished seats ≡ 0

pub first_none : {X : Type 0} (mark_of : X → ℕ) (number_of : X → ℕ) (took : X → ℕ) (returned : X → ℕ) (finished : X → ℕ) (mark : ℕ) → AreFirst mark_of number_of took returned finished mark [] 0
first_none mark_of number_of took returned finished mark = record {
  marks = search rules;
  count_is = search rules;
  numbers = numbered_none number_of;
  took_none = search rules;
  returned_none = search rules;
  finished_none = search rules;
}

sum_push : {X : Type 0} (f : X → ℕ) (xs : List X) (x : X) → sum_by f xs ≡ 0 → f x ≡ 0 → sum_by f (xs ++ x ∷ []) ≡ 0
sum_push f xs x none here = let e = sum_by-append f xs (x ∷ []) in let one = sum_one f x in omega arith

marks_push : {X : Type 0} (p : X → Bool) (xs : List X) (x : X) → list_all p xs ≡ true → p x ≡ true → list_all p (xs ++ x ∷ []) ≡ true
marks_push p xs x all here = let e = list_all-append p xs (x ∷ []) in search rules

pub first_push : {X : Type 0} (mark_of : X → ℕ) (number_of : X → ℕ) (took : X → ℕ) (returned : X → ℕ) (finished : X → ℕ) (mark : ℕ) (seats : List X) (seat : X) (bound : ℕ)
    → mark_of seat ≡ mark → number_of seat ≡ bound → took seat ≡ 0 → returned seat ≡ 0 → finished seat ≡ 0
    → AreFirst mark_of number_of took returned finished mark seats bound → AreFirst mark_of number_of took returned finished mark (seats ++ seat ∷ []) (bound + 1)
first_push mark_of number_of took returned finished mark seats seat bound m n t r f first = record {
  marks = marks_push (λ x. mark_of x == mark) seats seat first.marks (number_is (mark_of seat) mark m);
  count_is = length-append seats (seat ∷ []) ∙ ap (λ k. k + 1) first.count_is;
  numbers = numbered_push number_of seats seat bound n first.numbers;
  took_none = sum_push took seats seat first.took_none t;
  returned_none = sum_push returned seats seat first.returned_none r;
  finished_none = sum_push finished seats seat first.finished_none f;
}
