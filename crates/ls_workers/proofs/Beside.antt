-- A list that is walked beside a journal.
use Rattle.std.proofs.Common.{◌≡◌, ℕ, ◌≤◌, List, [], length, drop, sym, ap, ◌∙◌, arith, length-drop}
use Rattle.std.proofs.lemmas.List.{drop_all}
use Rattle.std.proofs.lemmas.Bool.Decides.{nat_tests}
use Rattle.std.specs.Prelude.{◌↔◌, Option, IsTrue, nat_eq, filter_map}

-- They agree just where what is left agrees.
pub record Rest {X Y : Type 0} (h : X → Option Y) (xs : List X) (ys : List Y) (i j : ℕ) : Type 0 where
  pub here : filter_map h xs ≡ ys → filter_map h (drop i xs) ≡ drop j ys
  pub back : filter_map h (drop i xs) ≡ drop j ys → filter_map h xs ≡ ys

rest_end : {X Y : Type 0} (h : X → Option Y) (xs : List X) (ys : List Y) (i j : ℕ) → length xs ≤ i → length ys ≤ j → Rest h xs ys i j → filter_map h xs ≡ ys
rest_end h xs ys i j all whole rest = rest.back (ap (filter_map h) (drop_all i xs all) ∙ sym (drop_all j ys whole))

rest_whole : {X Y : Type 0} (h : X → Option Y) (xs : List X) (ys : List Y) (i j : ℕ) → length xs ≤ i → j ≤ length ys → Rest h xs ys i j → filter_map h xs ≡ ys → j ≡ length ys
rest_whole h xs ys i j all within rest q =
    let e : [] ≡ drop j ys = sym (ap (filter_map h) (drop_all i xs all)) ∙ rest.here q in
    let l : 0 ≡ length (drop j ys) = ap length e in
    let m = length-drop j ys in
    omega arith

test_same : (a b : ℕ) → IsTrue (nat_eq a b) → a ≡ b
test_same a b t = grind (arith, nat_tests)

same_test : (a b : ℕ) → a ≡ b → IsTrue (nat_eq a b)
same_test a b e = grind (arith, nat_tests)

pub rest_done : {X Y : Type 0} (h : X → Option Y) (xs : List X) (ys : List Y) (i j : ℕ) → length xs ≤ i → j ≤ length ys → Rest h xs ys i j → IsTrue (nat_eq j (length ys)) ↔ (filter_map h xs ≡ ys)
rest_done h xs ys i j all within rest =
    ((λ t. let e = test_same j (length ys) t in rest_end h xs ys i j all (omega arith) rest), (λ q. same_test j (length ys) (rest_whole h xs ys i j all within rest q)))
