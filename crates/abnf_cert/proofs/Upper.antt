-- An accepted length is that of a string.
use Rattle.std.proofs.Common.{◌≡◌, ℕ, zero, suc, ◌+◌, ◌*◌, ◌<◌, ◌≤◌, ◌⊎◌, inl, inr, Bool, true, false, List, [], ◌∷◌, ◌++◌, length, Option, Some, None, refl, sym, ap, subst, arith, length-append, map, replicate}
use Rattle.std.proofs.lemmas.Option.{none-some, same_Some}
use Rattle.std.specs.List.{concat, AllByRecursion}
use Rattle.std.specs.Prelude.{slice_get, slice_index_or, take}
use Rattle.abnf_cert.specs.declared.entry.Entry.{Entry}
use Rattle.abnf_cert.specs.declared.entry.Entry.TheVariants.{Nothing, Least}
use Rattle.abnf_parts.specs.Part.{Part, Parts, quoted, series, span, seq, alt, rep, ref, opaque, end, next, subparts, parts_of, root_number, numbers}
use Rattle.abnf_parts.specs.Generates.{Spells, UpTo, Joins, Split, PartGen, EachGen, SomeGen, RuleGen, Gen}
use Rattle.abnf_cert.specs.Accepted.{top, in_a_row, all_in_a_row, times, referred, Exceeds, IsChoice, entry_at, IsAccepted}
use Rattle.abnf_cert.proofs.Below.{TreeFits, TreesFit, rule_fits}

-- a string with the property, of this length if that is below the top
abbrev pub HasString : (List ℕ → Type 0) → ℕ → Type 0
HasString P l = (s : List ℕ) × P s × (l < top → length s ≡ l)

-- there is one, if k isn't below the entry's height
abbrev pub Reached : ℕ → (List ℕ → Type 0) → Entry → Type 0
Reached k P Nothing = Unit {0}
Reached k P (Least l h c) = h ≤ k → HasString P l

module _ (k : ℕ) where
  quoted_upper : (text : List ℕ) (exact : Bool) → Reached k (Spells text exact) (Least (length text) 0 0)
  quoted_upper text true le = (text, refl, λ b. refl)
  quoted_upper text false le = (text, refl, λ b. refl)

  span_upper : (low high : ℕ) (e : Entry) → ((low ≤ high) × (e ≡ Least 1 0 0)) ⊎ ((high < low) × (e ≡ Nothing)) → Reached k (λ s. (c : ℕ) × (low ≤ c) × (c ≤ high) × (s ≡ c ∷ [])) e
  span_upper low high e (inl h) =
      subst (λ x. Reached k (λ s. (c : ℕ) × (low ≤ c) × (c ≤ high) × (s ≡ c ∷ [])) x) (sym h.1)
      (λ le. (low ∷ [], (low, omega arith, h.0, refl), λ b. refl))
  span_upper low high e (inr h) = subst (λ x. Reached k (λ s. (c : ℕ) × (low ≤ c) × (c ≤ high) × (s ≡ c ∷ [])) x) (sym h.1) tt

  in_a_row_upper : (A B : List ℕ → Type 0) (e f : Entry) → Reached k A e → Reached k B f → Reached k (Split A B) (in_a_row e f)
  in_a_row_upper A B Nothing f g i = tt
  in_a_row_upper A B (Least l h c) Nothing g i = tt
  in_a_row_upper A B (Least l h c) (Least m n d) g i = λ le.
      let a = g (omega arith) in
      let b = i (omega arith) in (
        a.0 ++ b.0,
        record { front = a.0; back = b.0; of_front = a.1; of_back = b.1; joined = refl },
        λ below.
            let la : length a.0 ≡ l = a.2 (omega arith) in
            let lb : length b.0 ≡ m = b.2 (omega arith) in
            omega (arith, length-append a.0 b.0),
      )

  choice_upper : (P : List ℕ → Type 0) (es : List Entry) (e : Entry) → IsChoice es e → ((c l h d : ℕ) → slice_get es c ≡ Some (Least l h d) → h ≤ k → HasString P l) → Reached k P e
  choice_upper P es Nothing ch g = tt
  choice_upper P es (Least l h c) ch g = λ le. g c l h ch.0.0 ch.0.1 le

  all_copies : (P : List ℕ → Type 0) (n : ℕ) (t : List ℕ) → P t → AllByRecursion P (replicate n t)
  all_copies P zero t x = tt
  all_copies P (suc n) t x = (x, all_copies P n t x)

  length_copies : (n : ℕ) (t : List ℕ) → length (replicate n t) ≡ n
  length_copies zero t = refl
  length_copies (suc n) t = ap suc (length_copies n t)

  pub length_joined : (n : ℕ) (t : List ℕ) → length (concat (replicate n t)) ≡ n * length t
  length_joined zero t = omega arith
  length_joined (suc n) t =
      let more : length (concat (replicate n t)) ≡ n * length t = length_joined n t in
      omega (arith, length-append t (concat (replicate n t)))

  pub joins_copies : (P : List ℕ → Type 0) (least : ℕ) (most : Option ℕ) (t : List ℕ) → UpTo most least → P t → Joins P least most (concat (replicate least t))
  joins_copies P least most t u x =
      record {
        strings = replicate least t;
        enough = omega (arith, length_copies least t);
        few = subst (λ n. UpTo most n) (sym (length_copies least t)) u;
        each = all_copies P least t x;
        joined = refl;
      }

  times_upper : (P : List ℕ → Type 0) (least : ℕ) (most : Option ℕ) (e : Entry) → UpTo most least → Reached k P e → Reached k (Joins P least most) (times least e)
  times_upper P zero most e u g = λ le.
      ([], record { strings = []; enough = omega arith; few = u; each = tt; joined = refl }, λ b. refl)
  times_upper P (suc n) most Nothing u g = tt
  times_upper P (suc n) most (Least l h c) u g = λ le.
      let t = g le in (
        concat (replicate (suc n) t.0),
        joins_copies P (suc n) most t.0 u t.1,
        λ below.
            let short : l < top = omega arith in
            let lt : length t.0 ≡ l = t.2 short in
            let all : length (concat (replicate (suc n) t.0)) ≡ suc n * length t.0 = length_joined (suc n) t.0 in
            let same : suc n * length t.0 ≡ suc n * l = ap (λ x. suc n * x) lt in
            omega arith,
      )

  rep_upper : (P : List ℕ → Type 0) (least : ℕ) (most : Option ℕ) (e f : Entry) → Reached k P e → (UpTo most least × (f ≡ times least e)) ⊎ (Exceeds most least × (f ≡ Nothing)) → Reached k (Joins P least most) f
  rep_upper P least most e f g (inl h) = subst (λ x. Reached k (Joins P least most) x) (sym h.1) (times_upper P least most e h.0 g)
  rep_upper P least most e f g (inr h) = subst (λ x. Reached k (Joins P least most) x) (sym h.1) tt

module _ (at : ℕ → Entry) (root : ℕ → ℕ) (k : ℕ) (Rule : ℕ → List ℕ → Type 0) (of_rule : (r : ℕ) → Reached k (Rule r) (referred (at (root r)))) where
  -- an entry that is known
  at_entry : (n l h d : ℕ) (P : List ℕ → Type 0) → at n ≡ Least l h d → h ≤ k → Reached k P (at n) → HasString P l
  at_entry n l h d P is le g = let f : Reached k P (Least l h d) = subst (λ x. Reached k P x) is g in f le

  mutual
    pub upper : (n : ℕ) (p : Part) → TreeFits at root n p → Reached k (PartGen Rule p) (at n)
    upper n (quoted text exact) h = subst (λ x. Reached k (Spells text exact) x) (sym h) (quoted_upper k text exact)
    upper n (series characters) h = subst (λ x. Reached k (λ s. s ≡ characters) x) (sym h) (λ le. (characters, refl, λ b. refl))
    upper n (span low high) h = span_upper k low high (at n) h
    upper n (seq ps) h = subst (λ x. Reached k (EachGen Rule ps) x) (sym h.0) (upper_each (suc n) ps h.1)
    upper n (alt ps) h = choice_upper k (SomeGen Rule ps) (map at (numbers (suc n) ps)) (at n) h.0 (λ c l j d is le. upper_some (suc n) ps h.1 c l j d is le)
    upper n (rep least most p) h = rep_upper k (PartGen Rule p) least most (at (suc n)) (at n) (upper (suc n) p h.1) h.0
    upper n (ref name None) h = subst (λ x. Reached k (λ s. ⊥) x) (sym h) tt
    upper n (ref name (Some r)) h = subst (λ x. Reached k (Rule r) x) (sym h) (of_rule r)
    upper n opaque h = subst (λ x. Reached k (λ s. ⊥) x) (sym h) tt

    upper_each : (n : ℕ) (ps : Parts) → TreesFit at root n ps → Reached k (EachGen Rule ps) (all_in_a_row (map at (numbers n ps)))
    upper_each n end h = λ le. ([], refl, λ b. refl)
    upper_each n (next p ps) h =
        in_a_row_upper k (PartGen Rule p) (EachGen Rule ps) (at n) (all_in_a_row (map at (numbers (n + length (subparts p)) ps)))
        (upper n p h.0)
        (upper_each (n + length (subparts p)) ps h.1)

    upper_some : (n : ℕ) (ps : Parts) → TreesFit at root n ps → (c l h d : ℕ) → slice_get (map at (numbers n ps)) c ≡ Some (Least l h d) → h ≤ k → HasString (SomeGen Rule ps) l
    upper_some n end f c l h d is le = absurd (none-some (Least l h d) is)
    upper_some n (next p ps) f zero l h d is le =
        let s = at_entry n l h d (PartGen Rule p) (same_Some (at n) (Least l h d) is) le (upper n p f.0) in
        (s.0, inl s.1, s.2)
    upper_some n (next p ps) f (suc c) l h d is le =
        let s = upper_some (n + length (subparts p)) ps f.1 c l h d is le in
        (s.0, inr s.1, s.2)

-- one reference more
refers : (k : ℕ) (P Q : List ℕ → Type 0) (e : Entry) → ((s : List ℕ) → P s → Q s) → Reached k P e → Reached (suc k) Q (referred e)
refers k P Q Nothing f g = tt
refers k P Q (Least l h c) f g = λ le. let s = g (omega arith) in (s.0, f s.0 s.1, s.2)

no_height : (P : List ℕ → Type 0) (e : Entry) → Reached 0 P (referred e)
no_height P Nothing = tt
no_height P (Least l h c) = λ le. absurd (omega arith)

nothing_reached : (k : ℕ) (P : List ℕ → Type 0) (e : Entry) → e ≡ Nothing → Reached k P (referred e)
nothing_reached k P e is = subst (λ x. Reached k P (referred x)) (sym is) tt

pub past_end : (es : List Entry) (n : ℕ) → length es ≤ n → slice_index_or es n Nothing ≡ Nothing
past_end [] n le = refl
past_end (e ∷ es) zero le = absurd (omega arith)
past_end (e ∷ es) (suc n) le = past_end es n (omega arith)

pub no_rule : (roots : List Part) (r : ℕ) → slice_get roots r ≡ None → take r roots ≡ roots
no_rule [] zero is = refl
no_rule [] (suc r) is = refl
no_rule (p ∷ roots) zero is = absurd (none-some p (sym is))
no_rule (p ∷ roots) (suc r) is = ap (λ x. p ∷ x) (no_rule roots r is)

module _ (roots : List Part) (cert : List Entry) (accepted : IsAccepted roots cert) where
  -- what rule r reaches, if the roots' entries are known to be reached with one reference less
  at_rule : (k r : ℕ) → ((s : ℕ) → Reached k (RuleGen roots k s) (referred (entry_at cert (root_number roots s)))) → (o : Option Part) → slice_get roots r ≡ o → Reached (suc k) (RuleGen roots (suc k) r) (referred (entry_at cert (root_number roots r)))
  at_rule k r g None is =
      nothing_reached (suc k) (RuleGen roots (suc k) r) (entry_at cert (root_number roots r))
      (past_end cert (root_number roots r) (omega (arith, accepted.one_each, ap (λ x. length (parts_of x)) (no_rule roots r is))))
  at_rule k r g (Some p) is =
      refers k (Gen roots k p) (RuleGen roots (suc k) r) (entry_at cert (root_number roots r)) (λ s x. (p, is, x))
      (upper (entry_at cert) (root_number roots) k (RuleGen roots k) g (root_number roots r) p (rule_fits roots cert accepted r p is))

  pub rule_upper : (k r : ℕ) → Reached k (RuleGen roots k r) (referred (entry_at cert (root_number roots r)))
  rule_upper zero r = no_height (RuleGen roots 0 r) (entry_at cert (root_number roots r))
  rule_upper (suc k) r = at_rule k r (rule_upper k) (slice_get roots r) refl
