-- A table of entries that are settled one after the other, in the order of their pairs.
use Rattle.std.proofs.Common.{◌≡◌, ℕ, zero, suc, ◌+◌, ◌*◌, ◌<◌, ◌≤◌, ◌⊎◌, inl, inr, ⊎_elim, List, [], ◌∷◌, length, Some, refl, sym, ap, ◌∙◌, subst, arith, map, min, get_or}
use Rattle.std.proofs.lemmas.Option.{none-some, same_Some}
use Rattle.std.proofs.lemmas.Bool.{cases_lt, cases_eq}
use Rattle.std.proofs.Math.Nat.{mul-le-mul_right}
use Rattle.std.specs.Prelude.{slice_get}
use Rattle.std.specs.List.{AllByRecursion}
use Rattle.abnf_cert.specs.declared.entry.Entry.{Entry}
use Rattle.abnf_cert.specs.declared.entry.Entry.TheVariants.{Nothing, Least}
use Rattle.abnf_cert.specs.Accepted.{NotBefore, top, in_a_row, all_in_a_row, times, referred}
use Rattle.abnf_least.specs.own.Form.{Form, text, never, row, one_of, repeated, refers, needs, entry_given, first_least}
use Rattle.abnf_least.proofs.Choice.{FirstOf, first_is}
use Rattle.abnf_least.specs.Table.{InRange}
use Rattle.abnf_least.specs.own.Search.{Among, Settled, IsNextPart}

pub among : (m : ℕ) (ns : List ℕ) → Among m ns ⊎ (Among m ns → ⊥)
among m [] = inr (λ x. x)
among m (n ∷ ns) =
    ⊎_elim
    (λ e. inl (inl e))
    (λ ne. ⊎_elim (λ a. inl (inr a)) (λ na. inr (λ x. ⊎_elim ne na x)) (among m ns))
    (cases_eq m n)

-- neither Nothing ≡ Least
pub nothing_least : (l h c : ℕ) → Nothing ≡ Least l h c → ⊥
nothing_least l h c e = cc

pub not_before_nothing : (l h : ℕ) (e : Entry) → e ≡ Nothing → NotBefore l h e
not_before_nothing l h e is = subst (λ x. NotBefore l h x) (sym is) tt

itself : (l h c : ℕ) → NotBefore l h (Least l h c)
itself l h c = inr (refl, omega arith)

module _ (l h : ℕ) where
  row_first : (e x : Entry) → InRange e → NotBefore l h e → NotBefore l h (in_a_row e x)
  row_first Nothing x r n = tt
  row_first (Least a b c) Nothing r n = tt
  row_first (Least a b c) (Least m k d) r n =
      ⊎_elim
      (λ lt. ⊎_elim (λ y. inl (omega (arith, r))) (λ y. inl (omega (arith, r))) (cases_lt (a + m) top))
      (λ eq. ⊎_elim (λ y. inl (omega (arith, r, eq.0))) (λ y. inr (omega (arith, r, eq.0), omega (arith, eq.1))) (cases_lt l (min (a + m) top)))
      n

  row_rest : (e x : Entry) → InRange x → NotBefore l h x → NotBefore l h (in_a_row e x)
  row_rest Nothing x r n = tt
  row_rest (Least a b c) Nothing r n = tt
  row_rest (Least a b c) (Least m k d) r n =
      ⊎_elim
      (λ lt. inl (omega (arith, r)))
      (λ eq. ⊎_elim (λ y. inl y) (λ y. inr (omega (arith, r, eq.0), omega (arith, eq.1))) (cases_lt l (min (a + m) top)))
      n

  times_rest : (more : ℕ) (e : Entry) → InRange e → NotBefore l h e → NotBefore l h (times (suc more) e)
  times_rest more Nothing r n = tt
  times_rest more (Least a b c) r n =
      let one : 1 ≤ suc more = omega arith in
      let le : 1 * a ≤ suc more * a = mul-le-mul_right a one in
      ⊎_elim
      (λ lt. inl (omega (arith, r, le)))
      (λ eq. ⊎_elim (λ y. inl y) (λ y. inr (omega (arith, r, le, eq.0), omega (arith, eq.1))) (cases_lt l (min (suc more * a) top)))
      n

  referred_rest : (e : Entry) → NotBefore l h e → NotBefore l h (referred e)
  referred_rest Nothing n = tt
  referred_rest (Least a b c) n = ⊎_elim (λ x. inl x) (λ y. inr (y.0, omega (arith, y.1))) n

pub row_range : (es : List Entry) → InRange (all_in_a_row es)
row_range [] = omega arith
row_range (Nothing ∷ es) = tt
row_range (Least a b c ∷ es) = elim (all_in_a_row es) as (λ x. InRange (in_a_row (Least a b c) x)) [ Nothing ↦ tt | Least m k d ↦ omega arith ]

-- what a choice among numbered parts finds
pub record Finds (at : ℕ → Entry) (ns : List ℕ) (l h : ℕ) : Type 0 where
  pub part : ℕ
  pub among : Among part ns
  pub choice : ℕ
  pub is : at part ≡ Least l h choice
  pub least : (n : ℕ) → Among n ns → NotBefore l h (at n)

module _ (at : ℕ → Entry) where
  each_among : (P : Entry → Type 0) (ns : List ℕ) → AllByRecursion P (map at ns) → (n : ℕ) → Among n ns → P (at n)
  each_among P [] all n a = absurd a
  each_among P (k ∷ ns) all n a = ⊎_elim (λ e. subst (λ x. P (at x)) (sym e) all.0) (λ b. each_among P ns all.1 n b) a

  place_among : (ns : List ℕ) (j : ℕ) (e : Entry) → slice_get (map at ns) j ≡ Some e → (n : ℕ) × Among n ns × (at n ≡ e)
  place_among [] j e is = absurd (none-some e is)
  place_among (k ∷ ns) zero e is = (k, inl refl, same_Some (at k) e is)
  place_among (k ∷ ns) (suc j) e is = let r = place_among ns j e is in (r.0, inr r.1, r.2)

  found : (ns : List ℕ) (l h c : ℕ) → FirstOf 0 (map at ns) (Least l h c) → Finds at ns l h
  found ns l h c f =
      let p = place_among ns f.place (Least l h f.there.0) f.there.1 in
      record { part = p.0; among = p.1; choice = f.there.0; is = p.2; least = each_among (NotBefore l h) ns f.least }

  pub finds : (ns : List ℕ) (l h c : ℕ) → first_least 0 (map at ns) ≡ Least l h c → Finds at ns l h
  finds ns l h c e = found ns l h c (subst (λ r. FirstOf 0 (map at ns) r) e (first_is 0 (map at ns)))

  pub finds_nothing : (ns : List ℕ) → first_least 0 (map at ns) ≡ Nothing → (n : ℕ) → Among n ns → at n ≡ Nothing
  finds_nothing ns e = each_among (λ x. x ≡ Nothing) ns (subst (λ r. FirstOf 0 (map at ns) r) e (first_is 0 (map at ns)))

  row_nothing : (ns : List ℕ) (m : ℕ) → Among m ns → at m ≡ Nothing → all_in_a_row (map at ns) ≡ Nothing
  row_nothing [] m a is = absurd a
  row_nothing (n ∷ ns) m a is =
      ⊎_elim
      (λ e. ap (λ x. in_a_row x (all_in_a_row (map at ns))) (ap at (sym e) ∙ is))
      (λ b. ap (λ x. in_a_row (at n) x) (row_nothing ns m b is) ∙ (elim (at n) as (λ x. in_a_row x Nothing ≡ Nothing) [ Nothing ↦ refl | Least l h c ↦ refl ]))
      a

  pub row_at_nothing : (ns : List ℕ) (i : ℕ) → i < length ns → at (get_or ns i 0) ≡ Nothing → all_in_a_row (map at ns) ≡ Nothing
  row_at_nothing [] i within is = absurd (omega arith)
  row_at_nothing (n ∷ ns) zero within is = ap (λ x. in_a_row x (all_in_a_row (map at ns))) is
  row_at_nothing (n ∷ ns) (suc i) within is =
      ap (λ x. in_a_row (at n) x) (row_at_nothing ns i (omega arith) is) ∙ (elim (at n) as (λ x. in_a_row x Nothing ≡ Nothing) [ Nothing ↦ refl | Least l h c ↦ refl ])

  row_not_before : (ns : List ℕ) (m l h : ℕ) → Among m ns → InRange (at m) → NotBefore l h (at m) → NotBefore l h (all_in_a_row (map at ns))
  row_not_before [] m l h a r n = absurd a
  row_not_before (k ∷ ns) m l h a r n =
      ⊎_elim
      (λ e. row_first l h (at k) (all_in_a_row (map at ns)) (subst (λ x. InRange (at x)) e r) (subst (λ x. NotBefore l h (at x)) e n))
      (λ b. row_rest l h (at k) (all_in_a_row (map at ns)) (row_range (map at ns)) (row_not_before ns m l h b r n))
      a

-- two pairs, neither before the other
same_pair : (l h m k c : ℕ) → NotBefore l h (Least m k c) → NotBefore m k (Least l h c) → (m ≡ l) × (k ≡ h)
same_pair l h m k c a b =
    ⊎_elim
    (λ x. ⊎_elim (λ y. absurd (omega arith)) (λ y. absurd (omega (arith, y.0))) b)
    (λ x. ⊎_elim (λ y. absurd (omega (arith, x.0))) (λ y. (y.0, omega (arith, x.1, y.1))) b)
    a

pub moved_to : (e : Entry) (l h m k c : ℕ) → e ≡ Least m k c → m ≡ l → k ≡ h → e ≡ Least l h c
moved_to e l h m k c is p q = is ∙ ap (λ x. Least x k c) p ∙ ap (λ x. Least l x c) q

pub some_least : (e : Entry) → (e ≡ Nothing) ⊎ ((l : ℕ) × (h : ℕ) × (c : ℕ) × (e ≡ Least l h c))
some_least Nothing = inl refl
some_least (Least l h c) = inr (l, h, c, refl)

through : (l h m k a b : ℕ) → (l < m) ⊎ ((l ≡ m) × (h ≤ k)) → (m < a) ⊎ ((m ≡ a) × (k ≤ b)) → (l < a) ⊎ ((l ≡ a) × (h ≤ b))
through l h m k a b p q =
    ⊎_elim
    (λ x. inl (⊎_elim (λ y. omega arith) (λ y. omega (arith, y.0)) q))
    (λ x. ⊎_elim (λ y. inl (omega (arith, x.0))) (λ y. inr (x.0 ∙ y.0, omega (arith, x.1, y.1))) q)
    p

-- part m is settled
module _ (at next : ℕ → Entry) (m : ℕ) (was : at m ≡ Nothing) (others : (n : ℕ) → (n ≡ m → ⊥) → next n ≡ at n) where
  row_same : (ns : List ℕ) → (Among m ns → ⊥) → map next ns ≡ map at ns
  row_same [] unneeded = refl
  row_same (n ∷ ns) unneeded =
      ap (λ x. x ∷ map next ns) (others n (λ e. unneeded (inl (sym e)))) ∙ ap (λ xs. at n ∷ xs) (row_same ns (λ a. unneeded (inr a)))

  pub given_same : (f : Form) → (Among m (needs f) → ⊥) → entry_given next f ≡ entry_given at f
  given_same (text n) unneeded = refl
  given_same never unneeded = refl
  given_same (row ns) unneeded = ap all_in_a_row (row_same ns unneeded)
  given_same (one_of ns) unneeded = ap (first_least 0) (row_same ns unneeded)
  given_same (repeated more n) unneeded = ap (times (suc more)) (others n (λ e. unneeded (inl (sym e))))
  given_same (refers n) unneeded = ap referred (others n (λ e. unneeded (inl (sym e))))

  -- the settled parts keep their entries
  pub kept : (n l h c : ℕ) → at n ≡ Least l h c → next n ≡ Least l h c
  kept n l h c is = others n (λ e. nothing_least l h c (sym was ∙ ap at (sym e) ∙ is)) ∙ is

  choice_stays : (ns : List ℕ) (l h c : ℕ) → first_least 0 (map at ns) ≡ Least l h c → NotBefore l h (next m) → (d : ℕ) × (first_least 0 (map next ns) ≡ Least l h d)
  choice_stays ns l h c is later =
      let old = finds at ns l h c is in
      let part_is = kept old.part l h old.choice old.is in
      let least : (n : ℕ) → Among n ns → NotBefore l h (next n) =
      λ n a. ⊎_elim (λ e. subst (λ x. NotBefore l h (next x)) (sym e) later) (λ ne. subst (λ x. NotBefore l h x) (sym (others n ne)) (old.least n a)) (cases_eq n m) in
      ⊎_elim
      (λ none. absurd (nothing_least l h old.choice (sym (finds_nothing next ns none old.part old.among) ∙ part_is)))
      (λ some.
      let new = finds next ns some.0 some.1 some.2 some.3 in
      let one = subst (λ x. NotBefore l h x) new.is (least new.part new.among) in
      let two = subst (λ x. NotBefore some.0 some.1 x) part_is (new.least old.part old.among) in
      let e = same_pair l h some.0 some.1 0 one two in
      (some.2, moved_to (first_least 0 (map next ns)) l h some.0 some.1 some.2 some.3 e.0 e.1))
      (some_least (first_least 0 (map next ns)))

  -- so does what follows from them, where the new entry isn't before it
  pub given_stays : (f : Form) (l h c : ℕ) → entry_given at f ≡ Least l h c → NotBefore l h (next m) → (d : ℕ) × (entry_given next f ≡ Least l h d)
  given_stays (text n) l h c is later = (c, is)
  given_stays never l h c is later = (c, is)
  given_stays (row ns) l h c is later =
      (c, given_same (row ns) (λ a. nothing_least l h c (sym (row_nothing at ns m a was) ∙ is)) ∙ is)
  given_stays (one_of ns) l h c is later = choice_stays ns l h c is later
  given_stays (repeated more n) l h c is later =
      (c, given_same (repeated more n) (λ a. ⊎_elim (λ e. nothing_least l h c (ap (times (suc more)) (sym was ∙ ap at e) ∙ is)) (λ b. b) a) ∙ is)
  given_stays (refers n) l h c is later =
      (c, given_same (refers n) (λ a. ⊎_elim (λ e. nothing_least l h c (ap referred (sym was ∙ ap at e) ∙ is)) (λ b. b) a) ∙ is)

  -- the pair of a choice is that of the new entry, or it was given before
  pub choice_from : (ns : List ℕ) (l h c : ℕ) → first_least 0 (map next ns) ≡ Least l h c → ((d : ℕ) × (next m ≡ Least l h d)) ⊎ ((d : ℕ) × (first_least 0 (map at ns) ≡ Least l h d))
  choice_from ns l h c is =
      let new = finds next ns l h c is in
      ⊎_elim
      (λ e. inl (new.choice, ap next (sym e) ∙ new.is))
      (λ ne.
      let was_is : at new.part ≡ Least l h new.choice = sym (others new.part ne) ∙ new.is in
      ⊎_elim
      (λ none. absurd (nothing_least l h new.choice (sym (finds_nothing at ns none new.part new.among) ∙ was_is)))
      (λ old.
      let first = finds at ns old.0 old.1 old.2 old.3 in
      let first_is = kept first.part old.0 old.1 first.choice first.is in
      let p = subst (λ x. NotBefore old.0 old.1 x) was_is (first.least new.part new.among) in
      let q = subst (λ x. NotBefore l h x) first_is (new.least first.part first.among) in
      let e = same_pair l h old.0 old.1 0 q p in
      inr (old.2, moved_to (first_least 0 (map at ns)) l h old.0 old.1 old.2 old.3 e.0 e.1))
      (some_least (first_least 0 (map at ns))))
      (cases_eq new.part m)

  choice_not_before : (ns : List ℕ) (l h : ℕ) → NotBefore l h (first_least 0 (map at ns)) → NotBefore l h (next m) → NotBefore l h (first_least 0 (map next ns))
  choice_not_before ns l h before later =
      ⊎_elim
      (λ none. not_before_nothing l h (first_least 0 (map next ns)) none)
      (λ some.
      let new = finds next ns some.0 some.1 some.2 some.3 in
      ⊎_elim
      (λ e. subst (λ x. NotBefore l h x) (sym some.3) (subst (λ x. NotBefore l h x) new.is (subst (λ x. NotBefore l h (next x)) (sym e) later)))
      (λ ne.
      let is : at new.part ≡ Least some.0 some.1 new.choice = sym (others new.part ne) ∙ new.is in
      ⊎_elim
      (λ none. absurd (nothing_least some.0 some.1 new.choice (sym (finds_nothing at ns none new.part new.among) ∙ is)))
      (λ old.
      let was_least = finds at ns old.0 old.1 old.2 old.3 in
      let p = subst (λ x. NotBefore old.0 old.1 x) is (was_least.least new.part new.among) in
      let q = subst (λ x. NotBefore l h x) old.3 before in
      subst (λ x. NotBefore l h x) (sym some.3) (through l h old.0 old.1 some.0 some.1 q p))
      (some_least (first_least 0 (map at ns))))
      (cases_eq new.part m))
      (some_least (first_least 0 (map next ns)))

  -- what isn't settled doesn't come before the new entry, or before what it didn't come before
  pub given_not_before : (f : Form) (l h : ℕ) → InRange (next m) → NotBefore l h (entry_given at f) → NotBefore l h (next m) → NotBefore l h (entry_given next f)
  given_not_before (text n) l h r before later = before
  given_not_before never l h r before later = tt
  given_not_before (row ns) l h r before later =
      ⊎_elim
      (λ a. row_not_before next ns m l h a r later)
      (λ unneeded. subst (λ x. NotBefore l h x) (sym (given_same (row ns) unneeded)) before)
      (among m ns)
  given_not_before (one_of ns) l h r before later = choice_not_before ns l h before later
  given_not_before (repeated more n) l h r before later =
      ⊎_elim
      (λ e. subst (λ x. NotBefore l h (times (suc more) (next x))) e (times_rest l h more (next m) r later))
      (λ ne. subst (λ x. NotBefore l h x) (sym (ap (times (suc more)) (others n (λ e. ne (sym e))))) before)
      (cases_eq m n)
  given_not_before (refers n) l h r before later =
      ⊎_elim
      (λ e. subst (λ x. NotBefore l h (referred (next x))) e (referred_rest l h (next m) later))
      (λ ne. subst (λ x. NotBefore l h x) (sym (ap referred (others n (λ e. ne (sym e))))) before)
      (cases_eq m n)

pub same_least : (l h c m k d : ℕ) → Least l h c ≡ Least m k d → (l ≡ m) × (h ≡ k)
same_least l h c m k d e = (cc, cc)

pub none_settled : (form : ℕ → Form) (at : ℕ → Entry) → ((n : ℕ) → at n ≡ Nothing) → Settled form at
none_settled form at none =
    record {
      follows = λ n l h c is. absurd (nothing_least l h c (sym (none n) ∙ is));
      ordered = λ n k l h c is _. absurd (nothing_least l h c (sym (none n) ∙ is));
    }

-- one more is settled
pub settled_more :
    (form : ℕ → Form) (at next : ℕ → Entry) (m l h c d : ℕ) → Settled form at → at m ≡ Nothing → ((n : ℕ) → (n ≡ m → ⊥) → next n ≡ at n) →
    next m ≡ Least l h c → l ≤ top → entry_given at (form m) ≡ Least l h d → IsNextPart form at l h → Settled form next
settled_more form at next m l h c d s was others is range given least =
    let in_range : InRange (next m) = subst InRange (sym is) range in
    let new_is : NotBefore l h (next m) = subst (λ x. NotBefore l h x) (sym is) (itself l h c) in
    let after : (n a b e : ℕ) → at n ≡ Least a b e → NotBefore a b (next m) =
    λ n a b e n_is. subst (λ x. NotBefore a b x) (sym is) (subst (λ x. NotBefore a b x) given (s.ordered n m a b e n_is was)) in
    let was_nothing : (k : ℕ) → next k ≡ Nothing → at k ≡ Nothing =
    λ k none. ⊎_elim (λ e. ap at e ∙ was) (λ ne. sym (others k ne) ∙ none) (cases_eq k m) in
    record {
      follows = λ n a b e n_is.
          ⊎_elim
          (λ same.
          let p = same_least l h c a b e (sym is ∙ ap next (sym same) ∙ n_is) in
          let r = given_stays at next m was others (form m) l h d given new_is in
          (r.0, moved_to (entry_given next (form n)) a b l h r.0 (ap (λ x. entry_given next (form x)) same ∙ r.1) p.0 p.1))
          (λ other.
          let old_is : at n ≡ Least a b e = sym (others n other) ∙ n_is in
          let f = s.follows n a b e old_is in
          given_stays at next m was others (form n) a b f.0 f.1 (after n a b e old_is))
          (cases_eq n m);
      ordered = λ n k a b e n_is k_is.
          let k_was = was_nothing k k_is in
          ⊎_elim
          (λ same.
          let p = same_least l h c a b e (sym is ∙ ap next (sym same) ∙ n_is) in
          subst (λ x. NotBefore x b (entry_given next (form k))) p.0 (subst (λ x. NotBefore l x (entry_given next (form k))) p.1
          (given_not_before at next m was others (form k) l h in_range (least k k_was) new_is)))
          (λ other.
          let old_is : at n ≡ Least a b e = sym (others n other) ∙ n_is in
          given_not_before at next m was others (form k) a b in_range (s.ordered n k a b e old_is k_was) (after n a b e old_is))
          (cases_eq n m);
    }
