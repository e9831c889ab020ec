-- Which core rules are needed.
use Rattle.std.proofs.Common.{◌≡◌, ◌<◌, ◌⊎◌, ⊎_elim, inl, inr, ℕ, suc, Bool, true, false, cond, List, [], ◌∷◌, ◌++◌, refl, sym, ap, subst, ◌∙◌}
use Rattle.std.specs.Prelude.{Some, None, find, filter, fold, flat_map, not, ◌&&◌, ◌||◌, if◌then◌else◌, length}
use Rattle.std.specs.List.{list_any, AllByRecursion}
use Rattle.std.specs.Char.{to_ascii_lowercase}
use Rattle.std.proofs.lemmas.Bool.{lt-leb}
use Rattle.std.proofs.lemmas.List.{length-map}
use Rattle.std.proofs.lemmas.List.Folds.{list_any-append}
use Rattle.abnf_token.proofs.Language.{and_false}
use Rattle.abnf_token.specs.Folded.{lowercase}
use lib.Dec.{leb}
use Rattle.abnf_parts.specs.declared.core_rule.Core.{Core}
use Rattle.abnf_parts.specs.declared.core_rule.Core.TheVariants.{Alpha, Bit, Char, Cr, Crlf, Ctl, Digit, Dquote, Hexdig, Htab, Lf, Lwsp, Octet, Sp, Vchar, Wsp}
use Rattle.std.specs.Str.{bytes_eq}
use Rattle.std.proofs.Math.Bool.{or-false, or-true}
use Rattle.abnf_parts.specs.Names.{Name, names_beside, with_name}
use Rattle.abnf_parts.specs.Core.{CoreRule, core_rules, core_name, is_core_name, names_used, core_needs, is_needed}
use Rattle.abnf_parts.specs.CoreTable.{core_of, users_of, is_core_wanted}
use Rattle.abnf_parts.proofs.NameLaws.{same_is, same_sym, never}

-- for a core rule, at a name
abbrev Agrees : Core → Name → Type 0
Agrees core name = list_any (bytes_eq name) (users_of core) ≡ list_any (bytes_eq (core_name (core_of core))) (core_needs (length core_rules) name)

abbrev is_core : Name → CoreRule → Bool
is_core name core = bytes_eq (core_name core) name

agree_at : (core : Core) → AllByRecursion (λ c. Agrees core (core_name c)) core_rules
agree_at Alpha = (refl, (refl, (refl, (refl, (refl, (refl, (refl, (refl, (refl, (refl, (refl, (refl, (refl, (refl, (refl, (refl, tt))))))))))))))))
agree_at Bit = (refl, (refl, (refl, (refl, (refl, (refl, (refl, (refl, (refl, (refl, (refl, (refl, (refl, (refl, (refl, (refl, tt))))))))))))))))
agree_at Char = (refl, (refl, (refl, (refl, (refl, (refl, (refl, (refl, (refl, (refl, (refl, (refl, (refl, (refl, (refl, (refl, tt))))))))))))))))
agree_at Cr = (refl, (refl, (refl, (refl, (refl, (refl, (refl, (refl, (refl, (refl, (refl, (refl, (refl, (refl, (refl, (refl, tt))))))))))))))))
agree_at Crlf = (refl, (refl, (refl, (refl, (refl, (refl, (refl, (refl, (refl, (refl, (refl, (refl, (refl, (refl, (refl, (refl, tt))))))))))))))))
agree_at Ctl = (refl, (refl, (refl, (refl, (refl, (refl, (refl, (refl, (refl, (refl, (refl, (refl, (refl, (refl, (refl, (refl, tt))))))))))))))))
agree_at Digit = (refl, (refl, (refl, (refl, (refl, (refl, (refl, (refl, (refl, (refl, (refl, (refl, (refl, (refl, (refl, (refl, tt))))))))))))))))
agree_at Dquote = (refl, (refl, (refl, (refl, (refl, (refl, (refl, (refl, (refl, (refl, (refl, (refl, (refl, (refl, (refl, (refl, tt))))))))))))))))
agree_at Hexdig = (refl, (refl, (refl, (refl, (refl, (refl, (refl, (refl, (refl, (refl, (refl, (refl, (refl, (refl, (refl, (refl, tt))))))))))))))))
agree_at Htab = (refl, (refl, (refl, (refl, (refl, (refl, (refl, (refl, (refl, (refl, (refl, (refl, (refl, (refl, (refl, (refl, tt))))))))))))))))
agree_at Lf = (refl, (refl, (refl, (refl, (refl, (refl, (refl, (refl, (refl, (refl, (refl, (refl, (refl, (refl, (refl, (refl, tt))))))))))))))))
agree_at Lwsp = (refl, (refl, (refl, (refl, (refl, (refl, (refl, (refl, (refl, (refl, (refl, (refl, (refl, (refl, (refl, (refl, tt))))))))))))))))
agree_at Octet = (refl, (refl, (refl, (refl, (refl, (refl, (refl, (refl, (refl, (refl, (refl, (refl, (refl, (refl, (refl, (refl, tt))))))))))))))))
agree_at Sp = (refl, (refl, (refl, (refl, (refl, (refl, (refl, (refl, (refl, (refl, (refl, (refl, (refl, (refl, (refl, (refl, tt))))))))))))))))
agree_at Vchar = (refl, (refl, (refl, (refl, (refl, (refl, (refl, (refl, (refl, (refl, (refl, (refl, (refl, (refl, (refl, (refl, tt))))))))))))))))
agree_at Wsp = (refl, (refl, (refl, (refl, (refl, (refl, (refl, (refl, (refl, (refl, (refl, (refl, (refl, (refl, (refl, (refl, tt))))))))))))))))

covered : (core : Core) → AllByRecursion (λ user. list_any (is_core user) core_rules ≡ true) (users_of core)
covered Alpha = (refl, tt)
covered Bit = (refl, tt)
covered Char = (refl, tt)
covered Cr = (refl, (refl, (refl, tt)))
covered Crlf = (refl, (refl, tt))
covered Ctl = (refl, tt)
covered Digit = (refl, (refl, tt))
covered Dquote = (refl, tt)
covered Hexdig = (refl, tt)
covered Htab = (refl, (refl, (refl, tt)))
covered Lf = (refl, (refl, (refl, tt)))
covered Lwsp = (refl, tt)
covered Octet = (refl, tt)
covered Sp = (refl, (refl, (refl, tt)))
covered Vchar = (refl, tt)
covered Wsp = (refl, (refl, tt))

-- a name is that of a core rule, or none has it
module _ (P : Name → Type 0) (name : Name) where
  decide_by : (b : Bool) (c : CoreRule) (cs : List CoreRule) → is_core name c ≡ b → P (core_name c) → P name ⊎ ((find (is_core name) cs ≡ None) × (list_any (is_core name) cs ≡ false)) →
      P name ⊎ ((cond b (Some c) (find (is_core name) cs) ≡ None) × ((b || list_any (is_core name) cs) ≡ false))
  decide_by true c cs e p rest = inl (subst P (same_is (core_name c) name e) p)
  decide_by false c cs e p rest = rest

  decide : (cs : List CoreRule) → AllByRecursion (λ c. P (core_name c)) cs → P name ⊎ ((find (is_core name) cs ≡ None) × (list_any (is_core name) cs ≡ false))
  decide [] all = inr (refl, refl)
  decide (c ∷ cs) all = decide_by (is_core name c) c cs refl all.0 (decide cs all.1)

-- none has a long name
pub none_long : (name : List ℕ) → 6 < length name → leb (length name) 6 ≡ is_core_name (lowercase name)
none_long name more =
    let long = lt-leb (length name) 6 more in
    ⊎_elim (λ short. never (leb (length name) 6) (ap (λ n. leb n 6) (sym (length-map name to_ascii_lowercase)) ∙ short) long) (λ none. long ∙ sym none.1)
    (decide (λ n. leb (length n) 6 ≡ true) (lowercase name) core_rules
    (refl, (refl, (refl, (refl, (refl, (refl, (refl, (refl, (refl, (refl, (refl, (refl, (refl, (refl, (refl, (refl, tt)))))))))))))))))

none_by : (b : Bool) (name u : Name) (rest : Bool) → bytes_eq name u ≡ b → list_any (is_core u) core_rules ≡ true → list_any (is_core name) core_rules ≡ false → rest ≡ false → (b || rest) ≡ false
none_by true name u rest e all h r = never (list_any (is_core name) core_rules) (subst (λ n. list_any (is_core n) core_rules ≡ true) (sym (same_is name u e)) all) h
none_by false name u rest e all h r = r

none_of : (name : Name) (users : List Name) → AllByRecursion (λ user. list_any (is_core user) core_rules ≡ true) users → list_any (is_core name) core_rules ≡ false → list_any (bytes_eq name) users ≡ false
none_of name [] all h = refl
none_of name (u ∷ users) all h = none_by (bytes_eq name u) name u (list_any (bytes_eq name) users) refl all.0 h (none_of name users all.1 h)

first_false : (b rest : Bool) → (b || rest) ≡ false → b ≡ false
first_false true rest h = h
first_false false rest h = refl

own_false : (core : Core) (name : Name) → list_any (bytes_eq name) (users_of core) ≡ false → bytes_eq (core_name (core_of core)) name ≡ false
own_false Alpha name h = same_sym (core_name (core_of Alpha)) name ∙ first_false (bytes_eq name (core_name (core_of Alpha))) _ h
own_false Bit name h = same_sym (core_name (core_of Bit)) name ∙ first_false (bytes_eq name (core_name (core_of Bit))) _ h
own_false Char name h = same_sym (core_name (core_of Char)) name ∙ first_false (bytes_eq name (core_name (core_of Char))) _ h
own_false Cr name h = same_sym (core_name (core_of Cr)) name ∙ first_false (bytes_eq name (core_name (core_of Cr))) _ h
own_false Crlf name h = same_sym (core_name (core_of Crlf)) name ∙ first_false (bytes_eq name (core_name (core_of Crlf))) _ h
own_false Ctl name h = same_sym (core_name (core_of Ctl)) name ∙ first_false (bytes_eq name (core_name (core_of Ctl))) _ h
own_false Digit name h = same_sym (core_name (core_of Digit)) name ∙ first_false (bytes_eq name (core_name (core_of Digit))) _ h
own_false Dquote name h = same_sym (core_name (core_of Dquote)) name ∙ first_false (bytes_eq name (core_name (core_of Dquote))) _ h
own_false Hexdig name h = same_sym (core_name (core_of Hexdig)) name ∙ first_false (bytes_eq name (core_name (core_of Hexdig))) _ h
own_false Htab name h = same_sym (core_name (core_of Htab)) name ∙ first_false (bytes_eq name (core_name (core_of Htab))) _ h
own_false Lf name h = same_sym (core_name (core_of Lf)) name ∙ first_false (bytes_eq name (core_name (core_of Lf))) _ h
own_false Lwsp name h = same_sym (core_name (core_of Lwsp)) name ∙ first_false (bytes_eq name (core_name (core_of Lwsp))) _ h
own_false Octet name h = same_sym (core_name (core_of Octet)) name ∙ first_false (bytes_eq name (core_name (core_of Octet))) _ h
own_false Sp name h = same_sym (core_name (core_of Sp)) name ∙ first_false (bytes_eq name (core_name (core_of Sp))) _ h
own_false Vchar name h = same_sym (core_name (core_of Vchar)) name ∙ first_false (bytes_eq name (core_name (core_of Vchar))) _ h
own_false Wsp name h = same_sym (core_name (core_of Wsp)) name ∙ first_false (bytes_eq name (core_name (core_of Wsp))) _ h

needs_none : (steps : ℕ) (name : Name) → find (is_core name) core_rules ≡ None → core_needs (suc steps) name ≡ name ∷ []
needs_none steps name e = ap (λ o. name ∷ flat_map (core_needs steps) (names_used o)) e

agrees_other : (core : Core) (name : Name) → find (is_core name) core_rules ≡ None → list_any (is_core name) core_rules ≡ false → Agrees core name
agrees_other core name e f =
    let none = none_of name (users_of core) (covered core) f in
    none ∙ sym (ap (list_any (bytes_eq (core_name (core_of core)))) (needs_none 15 name e) ∙ ap (λ b. b || false) (own_false core name none))

agrees : (core : Core) (name : Name) → Agrees core name
agrees core name = ⊎_elim (λ h. h) (λ h. agrees_other core name h.0 h.1) (decide (Agrees core) name core_rules (agree_at core))

-- the users of which one is wanted, and the wanted names of which one needs the rule
or_split : (test other : Name → Bool) (users : List Name) → list_any (λ u. test u || other u) users ≡ (list_any test users || list_any other users)
or_split test other [] = refl
or_split test other (u ∷ users) = ap (λ b. (test u || other u) || b) (or_split test other users) ∙ by (test u) (other u) (list_any test users) (list_any other users)
  where
    by : (a b c d : Bool) → ((a || b) || (c || d)) ≡ ((a || c) || (b || d))
    by true b c d = refl
    by false true true d = refl
    by false true false d = refl
    by false false c d = refl

none_any : (users : List Name) → list_any (λ u. false) users ≡ false
none_any [] = refl
none_any (u ∷ users) = none_any users

any_sym : (n : Name) (users : List Name) → list_any (λ u. bytes_eq u n) users ≡ list_any (bytes_eq n) users
any_sym n [] = refl
any_sym n (u ∷ users) = ap (λ b. b || list_any (λ v. bytes_eq v n) users) (same_sym u n) ∙ ap (λ b. bytes_eq n u || b) (any_sym n users)

swapped : (core : Core) (unknown : List Name) → is_core_wanted unknown (users_of core) ≡ is_needed unknown (core_of core)
swapped core [] = none_any (users_of core)
swapped core (n ∷ unknown) =
    or_split (λ u. bytes_eq u n) (λ u. list_any (bytes_eq u) unknown) (users_of core)
    ∙ (ap (λ b. b || list_any (λ u. list_any (bytes_eq u) unknown) (users_of core)) (any_sym n (users_of core) ∙ agrees core n)
    ∙ ap (λ b. list_any (bytes_eq (core_name (core_of core))) (core_needs (length core_rules) n) || b) (swapped core unknown))

pub needed_is : (core : Core) (unknown users : List Name) (b : Bool) → users ≡ users_of core → b ≡ is_core_wanted unknown users → b ≡ is_needed unknown (core_of core)
needed_is core unknown users b u h = h ∙ (ap (is_core_wanted unknown) u ∙ swapped core unknown)

-- a test that passes for a name of a list or not tells no more names when they are there once each
module _ (test : Name → Bool) where
  kept_by : (b c : Bool) (x : Name) (names : List Name) → list_any (bytes_eq x) names ≡ b → test x ≡ c → (b ≡ true → c ≡ true → list_any test names ≡ true) →
      list_any test (if b then names else names ++ x ∷ []) ≡ (list_any test names || c)
  kept_by true true x names e f g = g refl refl ∙ sym (ap (λ b. b || true) (g refl refl))
  kept_by true false x names e f g = sym (or-false (list_any test names))
  kept_by false c x names e f g = list_any-append test names (x ∷ []) ∙ ap (λ b. list_any test names || b) (or-false (test x) ∙ f)

  there : (x : Name) (names : List Name) → list_any (bytes_eq x) names ≡ true → test x ≡ true → list_any test names ≡ true
  there x [] h t = absurd (cc h)
  there x (n ∷ names) h t = by (bytes_eq x n) refl h (λ rest. there x names rest t)
    where
      by : (b : Bool) → bytes_eq x n ≡ b → (b || list_any (bytes_eq x) names) ≡ true → (list_any (bytes_eq x) names ≡ true → list_any test names ≡ true) → (test n || list_any test names) ≡ true
      by true e g rest = ap (λ b. b || list_any test names) (subst (λ m. test m ≡ true) (same_is x n e) t)
      by false e g rest = ap (λ b. test n || b) (rest g) ∙ or-true (test n)

  pub any_folded : (names xs : List Name) → list_any test (fold with_name names xs) ≡ (list_any test names || list_any test xs)
  any_folded names [] = sym (or-false (list_any test names))
  any_folded names (x ∷ xs) =
      any_folded (with_name names x) xs
      ∙ (ap (λ b. b || list_any test xs) (kept_by (list_any (bytes_eq x) names) (test x) x names refl refl (there x names))
      ∙ or_assoc (list_any test names) (test x) (list_any test xs))
    where
      or_assoc : (a b c : Bool) → ((a || b) || c) ≡ (a || (b || c))
      or_assoc true b c = refl
      or_assoc false b c = refl

-- whether a name is among those of a list that aren't in another
module _ (n : Name) (own : List Name) where
  beside_by : (b c : Bool) (m : Name) (left found : Bool) → list_any (bytes_eq m) own ≡ b → bytes_eq n m ≡ c → found ≡ (left && not (list_any (bytes_eq n) own)) →
      (if not b then c || found else found) ≡ ((c || left) && not (list_any (bytes_eq n) own))
  beside_by false true m left found e f h = ap not (sym (subst (λ x. list_any (bytes_eq x) own ≡ false) (sym (same_is n m f)) e))
  beside_by false false m left found e f h = h
  beside_by true true m left found e f h =
      h ∙ (ap (λ b. left && not b) is ∙ (and_false left ∙ sym (ap not is)))
    where
      is : list_any (bytes_eq n) own ≡ true
      is = subst (λ x. list_any (bytes_eq x) own ≡ true) (sym (same_is n m f)) e
  beside_by true false m left found e f h = h

  moved : (b c : Bool) (m : Name) (rest : List Name) → list_any (bytes_eq n) (if b then m ∷ rest else rest) ≡ (if b then bytes_eq n m || list_any (bytes_eq n) rest else list_any (bytes_eq n) rest)
  moved true c m rest = refl
  moved false c m rest = refl

  pub beside_any : (names : List Name) → list_any (bytes_eq n) (names_beside own names) ≡ (list_any (bytes_eq n) names && not (list_any (bytes_eq n) own))
  beside_any [] = refl
  beside_any (m ∷ names) =
      moved (not (list_any (bytes_eq m) own)) true m (names_beside own names)
      ∙ beside_by (list_any (bytes_eq m) own) (bytes_eq n m) m (list_any (bytes_eq n) names) (list_any (bytes_eq n) (names_beside own names)) refl refl (beside_any names)

-- what passes one test among those that pass another
any_passed : (test kept : Name → Bool) (names : List Name) → list_any test (filter kept names) ≡ list_any (λ n. kept n && test n) names
any_passed test kept [] = refl
any_passed test kept (n ∷ names) = by (kept n) (any_passed test kept names)
  where
    by : (b : Bool) → list_any test (filter kept names) ≡ list_any (λ m. kept m && test m) names → list_any test (cond b (n ∷ filter kept names) (filter kept names)) ≡ ((b && test n) || list_any (λ m. kept m && test m) names)
    by true e = ap (λ b. test n || b) e
    by false e = e

needed_beside : (own xs : List Name) (core : CoreRule) → is_needed (names_beside own (fold with_name [] xs)) core ≡ is_needed (names_beside own xs) core
needed_beside own xs core =
    let kept : Name → Bool = λ name. not (list_any (bytes_eq name) own) in
    let test : Name → Bool = λ name. list_any (bytes_eq (core_name core)) (core_needs (length core_rules) name) in
    any_passed test kept (fold with_name [] xs) ∙ (any_folded (λ n. kept n && test n) [] xs ∙ sym (any_passed test kept xs))

-- a name that no core rule has needs none of them
none_needed : (core : Core) (name : Name) → is_core_name name ≡ false → list_any (bytes_eq (core_name (core_of core))) (core_needs (length core_rules) name) ≡ false
none_needed core name none = sym (agrees core name) ∙ none_of name (users_of core) (covered core) none

-- so the names of core rules among some need all that these need
module _ (core : Core) (kept : Name → Bool) where
  abbrev needs_it : Name → Bool
  needs_it name = list_any (bytes_eq (core_name (core_of core))) (core_needs (length core_rules) name)

  core_among : (names : List Name) → list_any needs_it (filter kept (filter is_core_name names)) ≡ list_any needs_it (filter kept names)
  core_among [] = refl
  core_among (n ∷ names) = by (is_core_name n) (kept n) refl refl (core_among names)
    where
      by : (b c : Bool) → is_core_name n ≡ b → kept n ≡ c → list_any needs_it (filter kept (filter is_core_name names)) ≡ list_any needs_it (filter kept names) →
          list_any needs_it (filter kept (cond b (n ∷ filter is_core_name names) (filter is_core_name names))) ≡ list_any needs_it (cond c (n ∷ filter kept names) (filter kept names))
      by true true e f rest = ap (λ k. list_any needs_it (cond k (n ∷ filter kept (filter is_core_name names)) (filter kept (filter is_core_name names)))) f ∙ ap (λ b. needs_it n || b) rest
      by true false e f rest = ap (λ k. list_any needs_it (cond k (n ∷ filter kept (filter is_core_name names)) (filter kept (filter is_core_name names)))) f ∙ rest
      by false true e f rest = rest ∙ sym (ap (λ b. b || list_any needs_it (filter kept names)) (none_needed core n e))
      by false false e f rest = rest

needed_at : (own xs : List Name) (core : Core) → is_needed (names_beside own (fold with_name [] (filter is_core_name xs))) (core_of core) ≡ is_needed (names_beside own xs) (core_of core)
needed_at own xs core = needed_beside own (filter is_core_name xs) (core_of core) ∙ core_among core (λ name. not (list_any (bytes_eq name) own)) xs

-- those that pass one test are those that pass the other
filter_each : (p q : CoreRule → Bool) (cores : List CoreRule) → AllByRecursion (λ core. p core ≡ q core) cores → filter p cores ≡ filter q cores
filter_each p q [] all = refl
filter_each p q (core ∷ cores) all = ap (λ b. cond b (core ∷ filter p cores) (filter p cores)) all.0 ∙ ap (λ rest. cond (q core) (core ∷ rest) rest) (filter_each p q cores all.1)

pub needed_core : (own xs : List Name) → filter (is_needed (names_beside own (fold with_name [] (filter is_core_name xs)))) core_rules ≡ filter (is_needed (names_beside own xs)) core_rules
needed_core own xs =
    let at = needed_at own xs in
    filter_each (is_needed (names_beside own (fold with_name [] (filter is_core_name xs)))) (is_needed (names_beside own xs)) core_rules
    (at Alpha, (at Bit, (at Char, (at Cr, (at Crlf, (at Ctl, (at Digit, (at Dquote, (at Hexdig, (at Htab, (at Lf, (at Lwsp, (at Octet, (at Sp, (at Vchar, (at Wsp, tt))))))))))))))))
