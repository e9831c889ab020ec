-- The nearest of known names is one of them, and there is one answer.
use Rattle.std.proofs.Common.{◌≡◌, ◌∙◌, ◌<◌, ◌≤◌, ℕ, Bool, true, false, List, [], ◌∷◌, ◌++◌, Option, Some, None, get_or, drop, refl, sym, ap, subst, arith, true≢false}
use Rattle.std.specs.Prelude.{All, ◌&&◌, if◌then◌else◌, nat_le}
use Rattle.std.proofs.lemmas.Bool.{leb-true, leb-false}
use Rattle.std.proofs.lemmas.List.Elements.{All-append, All-cons, All-head, All-nil, All-tail, All-weaker}
use Rattle.near_names.specs.Near.{IsNearAnswer, IsNear, IsNearest, distance, is_near, nearer, nearest}

-- what holds of all holds of one among them
among : {X : Type 0} (P : X → Type 0) (before after : List X) (x : X) → All P (before ++ x ∷ after) → P x
among P [] after x all = All-head P x after all
among P (b ∷ before) after x all = among P before after x (All-tail P b (before ++ x ∷ after) all)

module _ (name : List ℕ) where
  -- a name isn't near
  abbrev IsFar : List ℕ → Type 0
  IsFar other = IsNear name other → ⊥

  -- where a name is near it is farther than the one that is found
  abbrev IsBehind : List ℕ → List ℕ → Type 0
  IsBehind found other = IsNear name other → distance name found < distance name other

  -- where a name is near it is as far at least
  abbrev IsNoNearer : List ℕ → List ℕ → Type 0
  IsNoNearer found other = IsNear name other → distance name found ≤ distance name other

  -- ---- there is one

  ahead_of_none : (other : List ℕ) (known : List (List ℕ)) (near : Bool) → is_near name other ≡ near → All IsFar known
      → IsNearAnswer name (other ∷ known) (if near then Some other else None)
  ahead_of_none other known true e far = record {
    before = [];
    after = known;
    split = refl;
    near = e;
    first = All-nil (IsBehind other);
    least = All-weaker IsFar (IsNoNearer other) (λ x is_far near. absurd (is_far near)) known far;
  }
  ahead_of_none other known false e far = All-cons IsFar other known (λ near. absurd (true≢false (sym near ∙ e))) far

  -- all that stand around the nearest name are as far at least
  all_around : (known : List (List ℕ)) (found : List ℕ) → IsNearest name known found → All (IsNoNearer found) known
  all_around known found is =
      subst (All (IsNoNearer found)) (sym is.split)
      (All-append (IsNoNearer found) is.before (found ∷ is.after)
      (All-weaker (IsBehind found) (IsNoNearer found) (λ x behind near. let less = behind near in omega arith) is.before is.first)
      (All-cons (IsNoNearer found) found is.after (λ near. omega arith) is.least))

  passed : (other found : List ℕ) (known : List (List ℕ)) → IsBehind found other → IsNearest name known found → IsNearest name (other ∷ known) found
  passed other found known behind is = record {
    before = other ∷ is.before;
    after = is.after;
    split = ap (λ (l : List (List ℕ)). other ∷ l) is.split;
    near = is.near;
    first = All-cons (IsBehind found) other is.before behind is.first;
    least = is.least;
  }

  ahead_of_some : (other found : List ℕ) (known : List (List ℕ)) (near less : Bool) → is_near name other ≡ near → nat_le (distance name other) (distance name found) ≡ less
      → IsNearest name known found → IsNearAnswer name (other ∷ known) (if near && less then Some other else Some found)
  ahead_of_some other found known true true e le is = record {
    before = [];
    after = known;
    split = refl;
    near = e;
    first = All-nil (IsBehind other);
    least = All-weaker (IsNoNearer found) (IsNoNearer other)
        (λ x no_nearer near. let far = no_nearer near in let close = leb-true (distance name other) (distance name found) le in omega arith) known (all_around known found is);
  }
  ahead_of_some other found known true false e le is = passed other found known (λ near. leb-false (distance name other) (distance name found) le) is
  ahead_of_some other found known false less e le is = passed other found known (λ near. absurd (true≢false (sym near ∙ e))) is

  ahead_of : (other : List ℕ) (known : List (List ℕ)) (found : Option (List ℕ)) → IsNearAnswer name known found → IsNearAnswer name (other ∷ known) (nearer name other found)
  ahead_of other known None is = ahead_of_none other known (is_near name other) refl is
  ahead_of other known (Some found) is =
      ahead_of_some other found known (is_near name other) (nat_le (distance name other) (distance name found)) refl refl is

  pub is_nearest : (known : List (List ℕ)) → IsNearAnswer name known (nearest name known)
  is_nearest [] = All-nil IsFar
  is_nearest (other ∷ known) = ahead_of other known (nearest name known) (is_nearest known)

  -- ---- and only one

  not_both : (known : List (List ℕ)) (found : List ℕ) → All IsFar known → IsNearest name known found → ⊥
  not_both known found far is = among IsFar is.before is.after found (subst (All IsFar) is.split far) is.near

  -- a name can't be the first of the nearest where another one is ahead of it
  no_other : (a b : List ℕ) (aa ab bb : List (List ℕ)) → aa ≡ bb ++ b ∷ ab → IsNear name a → IsNear name b → All (IsNoNearer a) aa → IsBehind b a → ⊥
  no_other a b aa ab bb e near_a near_b least behind =
      let more = behind near_a in
      let fewer = among (IsNoNearer a) bb ab b (subst (All (IsNoNearer a)) e least) near_b in
      absurd (omega arith)

  one_split : (a b : List ℕ) (ba aa bb ab : List (List ℕ)) → ba ++ a ∷ aa ≡ bb ++ b ∷ ab → IsNear name a → IsNear name b
      → All (IsBehind a) ba → All (IsNoNearer a) aa → All (IsBehind b) bb → All (IsNoNearer b) ab → a ≡ b
  one_split a b [] aa [] ab e near_a near_b first_a least_a first_b least_b = ap (λ (l : List (List ℕ)). get_or l 0 a) e
  one_split a b [] aa (c ∷ bb) ab e near_a near_b first_a least_a first_b least_b =
      let same : a ≡ c = ap (λ (l : List (List ℕ)). get_or l 0 a) e in
      absurd (no_other a b aa ab bb (ap (drop 1) e) near_a near_b least_a (subst (IsBehind b) (sym same) (All-head (IsBehind b) c bb first_b)))
  one_split a b (c ∷ ba) aa [] ab e near_a near_b first_a least_a first_b least_b =
      let same : b ≡ c = ap (λ (l : List (List ℕ)). get_or l 0 a) (sym e) in
      absurd (no_other b a ab aa ba (ap (drop 1) (sym e)) near_b near_a least_b (subst (IsBehind a) (sym same) (All-head (IsBehind a) c ba first_a)))
  one_split a b (c ∷ ba) aa (d ∷ bb) ab e near_a near_b first_a least_a first_b least_b =
      one_split a b ba aa bb ab (ap (drop 1) e) near_a near_b (All-tail (IsBehind a) c ba first_a) least_a (All-tail (IsBehind b) d bb first_b) least_b

  pub one_nearest : (known : List (List ℕ)) (a b : Option (List ℕ)) → IsNearAnswer name known a → IsNearAnswer name known b → a ≡ b
  one_nearest known None None p q = refl
  one_nearest known None (Some b) p q = absurd (not_both known b p q)
  one_nearest known (Some a) None p q = absurd (not_both known a q p)
  one_nearest known (Some a) (Some b) p q =
      ap (λ x. Some x) (one_split a b p.before p.after q.before q.after (sym p.split ∙ q.split) p.near q.near p.first p.least q.first q.least)
