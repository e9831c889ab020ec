-- A search finds all places that lead to the last one, and no others.
use Rattle.std.proofs.Common.{◌≡◌, ◌≤◌, ◌<◌, ◌+◌, ◌⊎◌, inl, inr, ⊎_elim, ℕ, zero, suc, Bool, true, false, List, [], ◌∷◌, ◌++◌, length, get_or, refl, sym, ap, subst, ◌∙◌, arith}
use Rattle.std.specs.Prelude.{◌==◌, ◌||◌, ◌↔◌, if◌then◌else◌, Option, Some, None, IfSome, fold, slice_get, slice_index_or, Contains}
use Rattle.std.specs.List.{list_any}
use Rattle.std.proofs.lemmas.Bool.{eq-eqb, eqb-true, or_cases, cases_lt, false≢true}
use Rattle.std.proofs.lemmas.List.{get_or_past, get_or_default, get_or_append_left, length_push}
use Rattle.std.proofs.lemmas.List.Elements.{Contains-append_left, Contains-push, Contains-push_cases}
use Rattle.std.proofs.lemmas.Option.{slice_get_within, get_or_from_slice_get}
use Rattle.std.proofs.Math.Bool.{or-true}
use Rattle.abnf_names.specs.own.Search.{users_at, LeadsBy, LeadsToLast, with_place, AreReachMarks, AreMarked}

-- what was found leads to the last place, which was found too; and so were all users of the first places that were found
pub record IsSearched (users : List (List ℕ)) (found : List ℕ) (first : ℕ) : Type 0 where
  pub right : (place : ℕ) → Contains found place → LeadsToLast users place
  pub last : (place : ℕ) → suc place ≡ length users → Contains found place
  pub closed : (k place : ℕ) → k < first → Contains (users_at users (slice_index_or found k 0)) place → Contains found place

any_at : (places : List ℕ) (place k : ℕ) → k < length places → get_or places k place ≡ place → list_any (λ p. p == place) places ≡ true
any_at [] place k l e = absurd (omega arith)
any_at (p ∷ places) place zero l e = ap (λ b. b || list_any (λ p. p == place) places) (eq-eqb p place e)
any_at (p ∷ places) place (suc k) l e = ap (λ b. p == place || b) (any_at places place k (omega arith) e) ∙ or-true (p == place)

contains_any : (places : List ℕ) (place : ℕ) → list_any (λ p. p == place) places ≡ true → Contains places place
contains_any [] place h = absurd (false≢true h)
contains_any (p ∷ places) place h =
    ⊎_elim (λ (e : (p == place) ≡ true). (0, omega arith, eqb-true p place e))
    (λ (e : list_any (λ p. p == place) places ≡ true). let c = contains_any places place e in (suc c.0, omega (arith, c.1), c.2))
    (or_cases (p == place) (list_any (λ p. p == place) places) h)

-- the marks are on the places that were found
pub marked_iff : (marks : List Bool) (places : List ℕ) → AreMarked marks places → (place : ℕ) → (get_or marks place false ≡ true) ↔ Contains places place
marked_iff marks places h place = (λ e. contains_any places place (h.each place ∙ e), λ c. sym (h.each place) ∙ any_at places place c.0 c.1 c.2)

marked_within : (marks : List Bool) (place : ℕ) → get_or marks place false ≡ true → place < length marks
marked_within marks place e =
    ⊎_elim (λ (l : place < length marks). l) (λ (l : length marks ≤ place). absurd (false≢true (sym (get_or_past marks place false l) ∙ e))) (cases_lt place (length marks))

pub found_within : (marks : List Bool) (places : List ℕ) → AreMarked marks places → (place : ℕ) → Contains places place → place < length marks
found_within marks places h place c = marked_within marks place ((marked_iff marks places h place).1 c)

pub contains_get : (places : List ℕ) (k place : ℕ) → slice_get places k ≡ Some place → Contains places place
contains_get places k place e = (k, slice_get_within places k place e, get_or_from_slice_get places k place place e)

pub get_within : (marks : List Bool) (places : List ℕ) → AreMarked marks places → (r : Option ℕ) (k : ℕ) → r ≡ slice_get places k → IfSome r (λ place. place < length marks)
get_within marks places h None k e = tt
get_within marks places h (Some place) k e = found_within marks places h place (contains_get places k place (sym e))

-- the new places are the old ones, and then those that were added
pub record AddsPlaces (old new added : List ℕ) : Type 0 where
  pub more : (x : ℕ) → Contains old x → Contains new x
  pub has : (x : ℕ) → Contains added x → Contains new x
  pub only : (x : ℕ) → Contains new x → Contains old x ⊎ Contains added x
  pub same : (k : ℕ) → k < length old → get_or new k 0 ≡ get_or old k 0
  pub longer : length old ≤ length new

one_only : (place x : ℕ) → Contains (place ∷ []) x → place ≡ x
one_only place x (zero, l, e) = e
one_only place x (suc k, l, e) = absurd (omega arith)

adds_by : (b : Bool) (places : List ℕ) (place : ℕ) → list_any (λ p. p == place) places ≡ b → AddsPlaces places (if b then places else places ++ place ∷ []) (place ∷ [])
adds_by true places place e = record {
  more = λ x c. c;
  has = λ x c. subst (λ y. Contains places y) (one_only place x c) (contains_any places place e);
  only = λ x c. inl c;
  same = λ k l. refl;
  longer = omega arith;
}
adds_by false places place e = record {
  more = λ x c. Contains-append_left places (place ∷ []) x c;
  has = λ x c. subst (λ y. Contains (places ++ place ∷ []) y) (one_only place x c) (Contains-push places place);
  only = λ x c. ⊎_elim (λ (o : Contains places x). inl o) (λ (s : place ≡ x). inr (0, omega arith, s)) (Contains-push_cases places place x c);
  same = λ k l. get_or_append_left places (place ∷ []) 0 k l;
  longer = omega (arith, length_push places place);
}

head_or : (place x : ℕ) (places : List ℕ) → Contains (place ∷ places) x → (place ≡ x) ⊎ Contains places x
head_or place x places (zero, l, e) = inl e
head_or place x places (suc k, l, e) = inr (k, omega arith, e)

pub adds_all : (old places : List ℕ) → AddsPlaces old (fold with_place old places) places
adds_all old [] = record {
  more = λ x c. c;
  has = λ x c. absurd (omega (arith, c.1));
  only = λ x c. inl c;
  same = λ k l. refl;
  longer = omega arith;
}
adds_all old (place ∷ places) =
    let one : AddsPlaces old (with_place old place) (place ∷ []) = adds_by (list_any (λ p. p == place) old) old place refl in
    let rest : AddsPlaces (with_place old place) (fold with_place (with_place old place) places) places = adds_all (with_place old place) places in
    record {
      more = λ x c. rest.more x (one.more x c);
      has = λ x c. ⊎_elim (λ (e : place ≡ x). rest.more x (one.has x (0, omega arith, e))) (λ (r : Contains places x). rest.has x r) (head_or place x places c);
      only = λ x c. ⊎_elim
          (λ (o : Contains (with_place old place) x). ⊎_elim (λ (p : Contains old x). inl p) (λ (p : Contains (place ∷ []) x). inr (0, omega arith, one_only place x p)) (one.only x o))
          (λ (r : Contains places x). inr (suc r.0, omega (arith, r.1), r.2)) (rest.only x c);
      same = λ k l. rest.same k (omega (arith, one.longer)) ∙ one.same k l;
      longer = omega (arith, one.longer, rest.longer);
    }

-- the search begins with the last place
pub searched_none : (users : List (List ℕ)) (last : ℕ) → suc last ≡ length users → IsSearched users (with_place [] last) 0
searched_none users last e = record {
  right = λ place c. (0, subst (λ p. suc p ≡ length users) (one_only last place c) e);
  last = λ place is. (0, omega arith, (let s : last ≡ place = omega arith in s));
  closed = λ k place l c. absurd (omega arith);
}

-- and goes on with the users of the next place that was found
pub searched_more : (users : List (List ℕ)) (found : List ℕ) (first place : ℕ) → IsSearched users found first → slice_get found first ≡ Some place →
    IsSearched users (fold with_place found (users_at users place)) (first + 1)
searched_more users found first place h is =
    let added : AddsPlaces found (fold with_place found (users_at users place)) (users_at users place) = adds_all found (users_at users place) in
    let here : Contains found place = contains_get found first place is in
    let steps : LeadsToLast users place = h.right place here in
    record {
      right = λ x c. ⊎_elim (λ (o : Contains found x). h.right x o) (λ (u : Contains (users_at users place) x). (suc steps.0, (place, u, steps.1))) (added.only x c);
      last = λ x e. added.more x (h.last x e);
      closed = λ k x l c. ⊎_elim
          (λ (before : k < first). added.more x (h.closed k x before (subst (λ p. Contains (users_at users p) x) (added.same k (omega (arith, slice_get_within found first place is))) c)))
          (λ (now : first ≤ k). added.has x (subst (λ p. Contains (users_at users p) x)
          (added.same k (let at : k ≡ first = omega arith in omega (arith, at, slice_get_within found first place is))
          ∙ (ap (λ n. get_or found n 0) (let at : k ≡ first = omega arith in at) ∙ get_or_from_slice_get found first place 0 is)) c))
          (cases_lt k first);
    }

found_by : (users : List (List ℕ)) (found : List ℕ) (first : ℕ) → IsSearched users found first → length found ≤ first → (steps place : ℕ) → LeadsBy users steps place → Contains found place
found_by users found first h le zero place e = h.last place e
found_by users found first h le (suc steps) place (next, user, rest) =
    let c = found_by users found first h le steps next rest in
    h.closed c.0 place (omega (arith, c.1)) (subst (λ p. Contains (users_at users p) place) (sym (get_or_default found c.0 0 next c.1 ∙ c.2)) user)

-- at its end it has found all
pub searched_all : (users : List (List ℕ)) (found : List ℕ) (first : ℕ) (marks : List Bool) → IsSearched users found first → slice_get found first ≡ None → length marks ≡ length users →
    ((place : ℕ) → (get_or marks place false ≡ true) ↔ Contains found place) → AreReachMarks users marks
searched_all users found first marks h none len on = record {
  one_each = len;
  each = λ place. (
    λ e. h.right place ((on place).0 e),
    λ leads. (on place).1 (found_by users found first h (past found first none) leads.0 place leads.1),
  );
}
  where
    past : (xs : List ℕ) (n : ℕ) → slice_get xs n ≡ None → length xs ≤ n
    past [] n e = omega arith
    past (x ∷ xs) zero e = absurd (cc e)
    past (x ∷ xs) (suc n) e = omega (arith, past xs n e)
