-- What stands at the first place that passes a test.
use Rattle.std.proofs.Common.{◌≡◌, ℕ, suc, zero, ◌<◌, Bool, true, false, cond, List, [], ◌∷◌, length, get_or, refl, sym, ap, ◌∙◌, arith}
use Rattle.std.specs.Prelude.{find, remove, slice_set, slice_get, position, Option, Some, None, is_some, nat_lt}
use Rattle.std.specs.List.{position_or_len}
use Rattle.std.proofs.lemmas.List.Quantifiers.{position-Some}
use Rattle.std.proofs.lemmas.List.Folds.{find_at}
use Rattle.std.proofs.lemmas.Option.{same_Some}
use Rattle.ls_machine.specs.declared.state.Waiting.{Waiting}
use Rattle.ls_machine.specs.Machine.{without_first_job, on_first}

record Found (p : Waiting → Bool) (xs : List Waiting) (i : ℕ) (x : Waiting) : Type 0 where
  pub found : find p xs ≡ Some x
  pub removed : remove xs i ≡ without_first_job p xs
  pub set : (f : Waiting → Waiting) → slice_set xs i (f x) ≡ on_first p f xs

found_at : (p : Waiting → Bool) (xs : List Waiting) (i : ℕ) (x : Waiting) → i < length xs → x ≡ get_or xs i x → p (get_or xs i x) ≡ true → ((k : ℕ) → k < i → p (get_or xs k x) ≡ false) → Found p xs i x
found_at p [] i x within is passes before = absurd (omega arith)
found_at p (y ∷ ys) zero x within is passes before = record {
  found = (λ j. cond (passes j) (Some y) (find p ys)) ∙ ap Some (sym is);
  removed = sym (λ j. cond (passes j) ys (y ∷ without_first_job p ys));
  set = λ f. ap (λ z. f z ∷ ys) is ∙ sym (λ j. cond (passes j) (f y ∷ ys) (y ∷ on_first p f ys));
}
found_at p (y ∷ ys) (suc i) x within is passes before =
    let first : p y ≡ false = before 0 (omega arith) in
    let t = found_at p ys i x (omega arith) is passes (λ k h. before (suc k) (omega arith)) in
    record {
      found = (λ j. cond (first j) (Some y) (find p ys)) ∙ t.found;
      removed = ap (λ zs. y ∷ zs) t.removed ∙ sym (λ j. cond (first j) ys (y ∷ without_first_job p ys));
      set = λ f. ap (λ zs. y ∷ zs) (t.set f) ∙ sym (λ j. cond (first j) (f y ∷ ys) (y ∷ on_first p f ys));
    }

pub found_found : (p : Waiting → Bool) (xs : List Waiting) (i : ℕ) (x : Waiting) → position p xs ≡ Some i → x ≡ get_or xs i x → find p xs ≡ Some x
found_found p xs i x at is = let h = position-Some p xs i x at in (found_at p xs i x h.0 is h.1 h.2).found

pub found_removed : (p : Waiting → Bool) (xs : List Waiting) (i : ℕ) (x : Waiting) → position p xs ≡ Some i → x ≡ get_or xs i x → remove xs i ≡ without_first_job p xs
found_removed p xs i x at is = let h = position-Some p xs i x at in (found_at p xs i x h.0 is h.1 h.2).removed

pub found_set : (p : Waiting → Bool) (f : Waiting → Waiting) (xs : List Waiting) (i : ℕ) (x : Waiting) → position p xs ≡ Some i → x ≡ get_or xs i x → slice_set xs i (f x) ≡ on_first p f xs
found_set p f xs i x at is = let h = position-Some p xs i x at in (found_at p xs i x h.0 is h.1 h.2).set f

some_at : (xs : List Waiting) (n : ℕ) → is_some (cond (nat_lt n (length xs)) (Some n) None) ≡ is_some (slice_get xs n)
some_at [] n = grind arith
some_at (x ∷ xs) zero = grind arith
some_at (x ∷ xs) (suc n) = grind (arith, some_at xs n)

-- there is a first place exactly where there is one that passes
pub position_find : (p : Waiting → Bool) (xs : List Waiting) → is_some (position p xs) ≡ is_some (find p xs)
position_find p xs = some_at xs (position_or_len p xs) ∙ sym (ap is_some (find_at p xs))

pub none_from : {A : Type 0} (o : Option A) → is_some o ≡ false → o ≡ None
none_from None h = refl
none_from (Some x) h = absurd (cc)

-- no place, nothing found
pub none_found : (p : Waiting → Bool) (xs : List Waiting) → position p xs ≡ None → find p xs ≡ None
none_found p xs h = none_from (find p xs) (sym (position_find p xs) ∙ ap is_some h)

-- what is found passes
found_by : {A : Type 0} (b : Bool) (p : A → Bool) (y : A) (o : Option A) (x : A) → (o ≡ Some x → p x ≡ true) → p y ≡ b → cond b (Some y) o ≡ Some x → p x ≡ true
found_by true p y o x later e g = ap p (same_Some x y (sym g)) ∙ e
found_by false p y o x later e g = later g

pub found_passes : {A : Type 0} (p : A → Bool) (xs : List A) (x : A) → find p xs ≡ Some x → p x ≡ true
found_passes p [] x h = absurd (cc)
found_passes p (y ∷ ys) x h = found_by (p y) p y (find p ys) x (found_passes p ys x) refl h
