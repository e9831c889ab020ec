-- A rename that meets no other name, over lists of names.
use Rattle.std.proofs.Common.{◌≡◌, ℕ, suc, ◌+◌, Bool, true, false, not, cond, ◌||◌, List, [], ◌∷◌, ◌++◌, length, map, Option, Some, None, option_map, refl, sym, ap, subst, ◌∙◌}
use Rattle.std.specs.Prelude.{if◌then◌else◌, filter, fold, position, slice_get}
use Rattle.std.specs.List.{list_any, AllByRecursion}
use Rattle.std.specs.Str.{bytes_eq}
use Rattle.std.proofs.lemmas.List.{length-map}
use Rattle.std.proofs.lemmas.Option.{same_Some}
use Rattle.abnf_token.specs.Classes.{Text}
use Rattle.abnf_token.specs.Folded.{lowercase}
use Rattle.abnf_parts.specs.Names.{Name, with_name, rule_number}
use Rattle.abnf_parts.proofs.NameLaws.{list_any_map, position_map, map_if, position_cons, position_append, behind, never, same_is, same_refl, same_sym, position_any}
use Rattle.abnf_rename.specs.Rules.{name_after}

module _ (old : Name) (new : Text) where
  -- The name is not the new one, unless the new one is the old one.
  abbrev pub Fresh : Name → Type 0
  Fresh name = name ≡ lowercase new → old ≡ lowercase new

  abbrev pub after : Name → Name
  after = name_after old new

  new_same : (m : Name) (b c : Bool) → Fresh m → bytes_eq old m ≡ false → bytes_eq (lowercase new) m ≡ b → bytes_eq old m ≡ c → b ≡ c
  new_same m true c f n e g = never (bytes_eq old m) (subst (λ o. bytes_eq o m ≡ true) (sym (f (sym (same_is (lowercase new) m e)))) e) n
  new_same m false c f n e g = sym n ∙ g

  -- names that are not the same stay so
  pub same_after : (n m : Name) → Fresh n → Fresh m → bytes_eq (after n) (after m) ≡ bytes_eq n m
  same_after n m fn fm = by (bytes_eq old n) (bytes_eq old m) refl refl
    where
      by : (b c : Bool) → bytes_eq old n ≡ b → bytes_eq old m ≡ c → bytes_eq (if bytes_eq old n then lowercase new else n) (if bytes_eq old m then lowercase new else m) ≡ bytes_eq n m
      by true true e f =
          rw (e, f) (same_refl (lowercase new) ∙ sym (subst (λ x. bytes_eq x m ≡ true) (same_is old n e) f))
      by true false e f =
          rw (e, f) (new_same m (bytes_eq (lowercase new) m) (bytes_eq old m) fm f refl refl ∙ ap (λ x. bytes_eq x m) (same_is old n e))
      by false true e f =
          rw (e, f) (same_sym n (lowercase new)
          ∙ (new_same n (bytes_eq (lowercase new) n) (bytes_eq old n) fn e refl refl
          ∙ (same_sym old n ∙ ap (bytes_eq n) (same_is old m f))))
      by false false e f = rw (e, f) refl

  abbrev pub AreFresh : List Name → Type 0
  AreFresh names = AllByRecursion Fresh names

  any_after : (n : Name) (names : List Name) → Fresh n → AreFresh names → list_any (λ m. bytes_eq (after n) (after m)) names ≡ list_any (bytes_eq n) names
  any_after n [] f g = refl
  any_after n (m ∷ names) f g = (λ i. same_after n m f g.0 i || any_after n names f g.1 i)

  pub there_after : (n : Name) (names : List Name) → Fresh n → AreFresh names → list_any (bytes_eq (after n)) (map after names) ≡ list_any (bytes_eq n) names
  there_after n names f g = list_any_map after (bytes_eq (after n)) names ∙ any_after n names f g

  pub with_after : (names : List Name) (n : Name) → Fresh n → AreFresh names → with_name (map after names) (after n) ≡ map after (with_name names n)
  with_after names n f g =
      ap (λ b. if b then map after names else map after names ++ after n ∷ []) (there_after n names f g)
      ∙ sym (map_if after (list_any (bytes_eq n) names) names n)

  fresh_push : (names : List Name) (n : Name) → AreFresh names → Fresh n → AreFresh (names ++ n ∷ [])
  fresh_push [] n g f = (f, tt)
  fresh_push (m ∷ names) n g f = (g.0, fresh_push names n g.1 f)

  fresh_if : (b : Bool) (names : List Name) (n : Name) → AreFresh names → Fresh n → AreFresh (if b then names else names ++ n ∷ [])
  fresh_if true names n g f = g
  fresh_if false names n g f = fresh_push names n g f

  pub fold_fresh : (ns names : List Name) → AreFresh ns → AreFresh names → AreFresh (fold with_name names ns)
  fold_fresh [] names f g = g
  fold_fresh (n ∷ ns) names f g = fold_fresh ns (with_name names n) f.1 (fresh_if (list_any (bytes_eq n) names) names n g f.0)

  pub fold_after : (ns names : List Name) → AreFresh ns → AreFresh names → fold with_name (map after names) (map after ns) ≡ map after (fold with_name names ns)
  fold_after [] names f g = refl
  fold_after (n ∷ ns) names f g =
      ap (λ l. fold with_name l (map after ns)) (with_after names n f.0 g)
      ∙ fold_after ns (with_name names n) f.1 (fresh_if (list_any (bytes_eq n) names) names n g f.0)

  -- ---- names that are defined nowhere

  kept_same : (b : Bool) (n : Name) (ns : List Name) → (b ≡ true → after n ≡ n) → cond b (after n ∷ ns) ns ≡ cond b (n ∷ ns) ns
  kept_same true n ns h = ap (λ m. m ∷ ns) (h refl)
  kept_same false n ns h = refl

  other_name : (n : Name) (names : List Name) → list_any (bytes_eq old) names ≡ true → not (list_any (bytes_eq n) names) ≡ true → after n ≡ n
  other_name n names is isnt = by (bytes_eq old n) refl
    where
      not_both : {A : Type 0} (b : Bool) → b ≡ true → not b ≡ true → A
      not_both true e f = absurd (cc (f))
      not_both false e f = absurd (cc (e))

      by : (b : Bool) → bytes_eq old n ≡ b → (if bytes_eq old n then lowercase new else n) ≡ n
      by true e = not_both (list_any (bytes_eq n) names) (subst (λ m. list_any (bytes_eq m) names ≡ true) (same_is old n e) is) isnt
      by false e = rw e refl

  pub filter_after : (ns names : List Name) → list_any (bytes_eq old) names ≡ true → AreFresh ns → AreFresh names →
      filter (λ name. not (list_any (bytes_eq name) (map after names))) (map after ns) ≡ filter (λ name. not (list_any (bytes_eq name) names)) ns
  filter_after [] names is f g = refl
  filter_after (n ∷ ns) names is f g =
      (λ i. cond (not (there_after n names f.0 g i)) (after n ∷ filter_after ns names is f.1 g i) (filter_after ns names is f.1 g i))
      ∙ kept_same (not (list_any (bytes_eq n) names)) n _ (other_name n names is)

  -- ---- the rule that a name stands for

  position_ext : (n : Name) (names : List Name) → Fresh n → AreFresh names → position (λ m. bytes_eq (after n) (after m)) names ≡ position (bytes_eq n) names
  position_ext n [] f g = refl
  position_ext n (m ∷ names) f g =
      position_cons (λ m. bytes_eq (after n) (after m)) m names
      ∙ ((λ i. if same_after n m f g.0 i then Some 0 else option_map suc (position_ext n names f g.1 i)) ∙ sym (position_cons (bytes_eq n) m names))

  position_after : (n : Name) (names : List Name) → Fresh n → AreFresh names → position (bytes_eq (after n)) (map after names) ≡ position (bytes_eq n) names
  position_after n names f g = position_map after (bytes_eq (after n)) names ∙ position_ext n names f g

  behind_same : (own core : List Name) (n m : Name) (o : Option ℕ) (l : ℕ) → ((o ≡ None) → m ≡ n) →
      behind (bytes_eq m) l o (position (bytes_eq m) core) ≡ behind (bytes_eq n) l o (position (bytes_eq n) core)
  behind_same own core n m (Some i) l h = refl
  behind_same own core n m None l h = ap (λ x. option_map (λ i. l + i) (position (bytes_eq x) core)) (h refl)

  -- the old name has a place among the own names
  name_stays : (own : List Name) (n : Name) → list_any (bytes_eq old) own ≡ true → position (bytes_eq n) own ≡ None → after n ≡ n
  name_stays own n is e = other_name n own is (ap not (position_any n own ∙ ap (λ o. is_there o) e))
    where
      is_there : Option ℕ → Bool
      is_there None = false
      is_there (Some k) = true

  pub number_after : (own core : List Name) (n : Name) → list_any (bytes_eq old) own ≡ true → Fresh n → AreFresh own →
      rule_number (map after own ++ core) (after n) ≡ rule_number (own ++ core) n
  number_after own core n is f g =
      position_append (bytes_eq (after n)) (map after own) core
      ∙ ((λ i. behind (bytes_eq (after n)) (length-map own after i) (position_after n own f g i) (position (bytes_eq (after n)) core))
      ∙ (behind_same own core n (after n) (position (bytes_eq n) own) (length own) (λ e. name_stays own n is e)
      ∙ sym (position_append (bytes_eq n) own core)))

-- a name stands where its number says
get_suc : (names : List Name) (a : Name) (o : Option ℕ) (q : ℕ) (n : Name) → ((k : ℕ) → o ≡ Some k → slice_get names k ≡ Some n) → option_map suc o ≡ Some q → slice_get (a ∷ names) q ≡ Some n
get_suc names a None q n h e = absurd (cc)
get_suc names a (Some k) q n h e = subst (λ j. slice_get (a ∷ names) j ≡ Some n) (let x : suc k ≡ q = cc in x) (h k refl)

pub number_get : (n : Name) (names : List Name) (q : ℕ) → position (bytes_eq n) names ≡ Some q → slice_get names q ≡ Some n
number_get n [] q e = absurd (cc)
number_get n (a ∷ names) q e = by (λ k f. number_get n names k f) (bytes_eq n a) refl (sym (position_cons (bytes_eq n) a names) ∙ e)
  where
    by : ((k : ℕ) → position (bytes_eq n) names ≡ Some k → slice_get names k ≡ Some n) → (b : Bool) → bytes_eq n a ≡ b → (if b then Some 0 else option_map suc (position (bytes_eq n) names)) ≡ Some q → slice_get (a ∷ names) q ≡ Some n
    by more true s h = subst (λ j. slice_get (a ∷ names) j ≡ Some n) (let x : 0 ≡ q = cc in x) (ap Some (sym (same_is n a s)))
    by more false s h = get_suc names a (position (bytes_eq n) names) q n more h

pub one_name : (n m : Name) (names : List Name) (q : ℕ) → position (bytes_eq n) names ≡ Some q → position (bytes_eq m) names ≡ Some q → n ≡ m
one_name n m names q e f = same_Some n m (sym (number_get n names q e) ∙ number_get m names q f)
