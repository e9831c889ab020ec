-- Things that are put under names.
use Rattle.std.proofs.Common.{◌≡◌, ℕ, suc, Bool, true, false, List, [], ◌∷◌, ◌++◌, length, set, get_or, refl, sym, ap, subst, ◌∙◌, append-nil, arith}
use Rattle.std.specs.Prelude.{position, Option, Some, None, option_map, if◌then◌else◌}
use Rattle.std.specs.Str.{bytes_eq}
use Rattle.abnf_parts.specs.Names.{Name}
use Rattle.abnf_parts.proofs.NameLaws.{never, same_is, same_refl, position_cons}
use Rattle.abnf_names.specs.own.Passes.{members_in, if_same}

some_is : (j k : ℕ) → Some j ≡ Some k → j ≡ k
some_is j k g = cc g

none_below : (o : Option ℕ) → option_map suc o ≡ None → o ≡ None
none_below None g = refl
none_below (Some j) g = absurd (cc g)

module _ {T : Type 0} (n : Name) (x : T) where
  here_by : (b c : Bool) (a m : Name) (list rest : List T) → bytes_eq n a ≡ true → bytes_eq m a ≡ b → bytes_eq n m ≡ c →
      (if b then list ++ x ∷ [] else rest) ≡ (if b then list else rest) ++ (if c then x ∷ [] else [])
  here_by true true a m list rest h e f = refl
  here_by true false a m list rest h e f = never (bytes_eq n m) (subst (λ k. bytes_eq n k ≡ true) (same_is n a h ∙ sym (same_is m a e)) (same_refl n)) f
  here_by false true a m list rest h e f = never (bytes_eq m a) (subst (λ k. bytes_eq k a ≡ true) (same_is n m f) h) e
  here_by false false a m list rest h e f = sym (append-nil rest)

  past_by : (b c : Bool) (a m : Name) (list rest now : List T) → bytes_eq n a ≡ false → bytes_eq m a ≡ b → bytes_eq n m ≡ c →
      now ≡ rest ++ (if c then x ∷ [] else []) → (if b then list else now) ≡ (if b then list else rest) ++ (if c then x ∷ [] else [])
  past_by true true a m list rest now h e f k = never (bytes_eq n a) (subst (λ o. bytes_eq o a ≡ true) (sym (same_is n m f)) e) h
  past_by true false a m list rest now h e f k = sym (append-nil list)
  past_by false c a m list rest now h e f k = k

  none_by : (c : Bool) (m : Name) → bytes_eq n m ≡ c → (if bytes_eq m n then x ∷ [] else []) ≡ (if c then x ∷ [] else [])
  none_by true m f = ap (λ b. if b then x ∷ [] else []) (subst (λ k. bytes_eq m k ≡ true) (sym (same_is n m f)) (same_refl m))
  none_by false m f = ap (λ b. if b then x ∷ [] else []) (turned (bytes_eq m n) refl)
    where
      turned : (b : Bool) → bytes_eq m n ≡ b → b ≡ false
      turned true e = never (bytes_eq n m) (subst (λ k. bytes_eq n k ≡ true) (sym (same_is m n e)) (same_refl n)) f
      turned false e = refl

  -- a thing is put under a name that is there
  hit_by : (b : Bool) (a : Name) (names : List Name) (list : List T) (members : List (List T)) (k : ℕ) (d : List T) → bytes_eq n a ≡ b → (if b then Some 0 else option_map suc (position (bytes_eq n) names)) ≡ Some k →
      ((j : ℕ) → position (bytes_eq n) names ≡ Some j → (m : Name) → members_in names (set members j (get_or members j d ++ x ∷ [])) m ≡ members_in names members m ++ if_same n m x) →
      (m : Name) → members_in (a ∷ names) (set (list ∷ members) k (get_or (list ∷ members) k d ++ x ∷ [])) m ≡ members_in (a ∷ names) (list ∷ members) m ++ if_same n m x
  hit_by true a names list members k d e h rest m =
      subst (λ j. members_in (a ∷ names) (set (list ∷ members) j (get_or (list ∷ members) j d ++ x ∷ [])) m ≡ members_in (a ∷ names) (list ∷ members) m ++ if_same n m x) (some_is 0 k h)
      (here_by (bytes_eq m a) (bytes_eq n m) a m list (members_in names members m) e refl refl)
  hit_by false a names list members k d e h rest m = next_by (position (bytes_eq n) names) refl h
    where
      next_by : (o : Option ℕ) → position (bytes_eq n) names ≡ o → option_map suc o ≡ Some k →
          members_in (a ∷ names) (set (list ∷ members) k (get_or (list ∷ members) k d ++ x ∷ [])) m ≡ members_in (a ∷ names) (list ∷ members) m ++ if_same n m x
      next_by None f g = absurd (cc g)
      next_by (Some j) f g =
          subst (λ i. members_in (a ∷ names) (set (list ∷ members) i (get_or (list ∷ members) i d ++ x ∷ [])) m ≡ members_in (a ∷ names) (list ∷ members) m ++ if_same n m x) (some_is (suc j) k g)
          (past_by (bytes_eq m a) (bytes_eq n m) a m list (members_in names members m) (members_in names (set members j (get_or members j d ++ x ∷ [])) m) e refl refl (rest j f m))

  pub hit : (names : List Name) (members : List (List T)) → length names ≡ length members → (k : ℕ) (d : List T) → position (bytes_eq n) names ≡ Some k →
      (m : Name) → members_in names (set members k (get_or members k d ++ x ∷ [])) m ≡ members_in names members m ++ if_same n m x
  hit [] members l k d h m = absurd (cc h)
  hit (a ∷ names) [] l k d h m = absurd (omega (arith, l))
  hit (a ∷ names) (list ∷ members) l k d h m =
      hit_by (bytes_eq n a) a names list members k d refl (sym (position_cons (bytes_eq n) a names) ∙ h) (λ j e. hit names members (omega (arith, l)) j d e) m

  miss_by : (b : Bool) (a : Name) (names : List Name) (list : List T) (members : List (List T)) → bytes_eq n a ≡ b → (if b then Some 0 else option_map suc (position (bytes_eq n) names)) ≡ None → (m : Name) →
      (position (bytes_eq n) names ≡ None → members_in (names ++ n ∷ []) (members ++ (x ∷ []) ∷ []) m ≡ members_in names members m ++ if_same n m x) →
      members_in (a ∷ (names ++ n ∷ [])) (list ∷ (members ++ (x ∷ []) ∷ [])) m ≡ members_in (a ∷ names) (list ∷ members) m ++ if_same n m x
  miss_by true a names list members e g m rest = absurd (cc g)
  miss_by false a names list members e g m rest =
      past_by (bytes_eq m a) (bytes_eq n m) a m list (members_in names members m) (members_in (names ++ n ∷ []) (members ++ (x ∷ []) ∷ []) m) e refl refl
      (rest (none_below (position (bytes_eq n) names) g))

  pub miss : (names : List Name) (members : List (List T)) → length names ≡ length members → position (bytes_eq n) names ≡ None →
      (m : Name) → members_in (names ++ n ∷ []) (members ++ (x ∷ []) ∷ []) m ≡ members_in names members m ++ if_same n m x
  miss [] [] l h m = none_by (bytes_eq n m) m refl
  miss [] (list ∷ members) l h m = absurd (omega (arith, l))
  miss (a ∷ names) [] l h m = absurd (omega (arith, l))
  miss (a ∷ names) (list ∷ members) l h m =
      miss_by (bytes_eq n a) a names list members refl (sym (position_cons (bytes_eq n) a names) ∙ h) m (λ e. miss names members (omega (arith, l)) e m)

-- the things under a name, by its place among the names
module _ {T : Type 0} (n : Name) where
  found_by : (b : Bool) (a : Name) (names : List Name) (list : List T) (members : List (List T)) (k : ℕ) (d : List T) → bytes_eq n a ≡ b → (if b then Some 0 else option_map suc (position (bytes_eq n) names)) ≡ Some k →
      ((j : ℕ) → position (bytes_eq n) names ≡ Some j → members_in names members n ≡ get_or members j d) → (if b then list else members_in names members n) ≡ get_or (list ∷ members) k d
  found_by true a names list members k d e h rest = ap (λ j. get_or (list ∷ members) j d) (some_is 0 k h)
  found_by false a names list members k d e h rest = next_by (position (bytes_eq n) names) refl h
    where
      next_by : (o : Option ℕ) → position (bytes_eq n) names ≡ o → option_map suc o ≡ Some k → members_in names members n ≡ get_or (list ∷ members) k d
      next_by None f g = absurd (cc g)
      next_by (Some j) f g = rest j f ∙ ap (λ i. get_or (list ∷ members) i d) (some_is (suc j) k g)

  pub found : (names : List Name) (members : List (List T)) → length names ≡ length members → (k : ℕ) (d : List T) → position (bytes_eq n) names ≡ Some k → members_in names members n ≡ get_or members k d
  found [] members l k d h = absurd (cc h)
  found (a ∷ names) [] l k d h = absurd (omega (arith, l))
  found (a ∷ names) (list ∷ members) l k d h =
      found_by (bytes_eq n a) a names list members k d refl (sym (position_cons (bytes_eq n) a names) ∙ h) (λ j e. found names members (omega (arith, l)) j d e)

  lost_by : (b : Bool) (names : List Name) (list : List T) (members : List (List T)) → (if b then Some 0 else option_map suc (position (bytes_eq n) names)) ≡ None →
      (position (bytes_eq n) names ≡ None → members_in names members n ≡ []) → (if b then list else members_in names members n) ≡ []
  lost_by true names list members h rest = absurd (cc h)
  lost_by false names list members h rest = rest (none_below (position (bytes_eq n) names) h)

  pub lost : (names : List Name) (members : List (List T)) → position (bytes_eq n) names ≡ None → members_in names members n ≡ []
  lost [] members h = refl
  lost (a ∷ names) [] h = refl
  lost (a ∷ names) (list ∷ members) h = lost_by (bytes_eq n a) names list members (sym (position_cons (bytes_eq n) a names) ∙ h) (λ e. lost names members e)
