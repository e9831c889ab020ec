-- Of each rule of a grammar one of two holds: it leads to an opaque part, or it doesn't. Rules are marked that hold an opaque part or a
-- reference to a marked rule, until there is none left to mark.
use Rattle.std.proofs.Common.{◌≡◌, ◌≤◌, ◌<◌, ◌+◌, ◌⊎◌, inl, inr, ⊎_elim, ℕ, zero, suc, Bool, true, false, List, [], ◌∷◌, length, refl, sym, subst, ◌∙◌, arith, set, get_or-set_other}
use Rattle.std.specs.Prelude.{Option, Some, None, slice_get, slice_index_or, Contains, replicate}
use Rattle.std.proofs.lemmas.Bool.{cases_Bool, cases_eq, false≢true}
use Rattle.std.proofs.lemmas.List.{length-set, length-replicate}
use Rattle.std.proofs.lemmas.Option.{none-some, same_Some, slice_get_within}
use Rattle.abnf_parts.specs.Part.{Part, quoted, series, span, seq, alt, rep, ref, opaque, subparts}
use Rattle.abnf_parts.specs.Reach.{ReachesOpaque}
use Rattle.abnf_names.proofs.ReachLaws.{marked, reaches_first, reaches_more}
use Rattle.abnf_least.proofs.Exist.{below_more}

abbrev mark_at : List Bool → ℕ → Bool
mark_at marks r = slice_index_or marks r false

abbrev unmarked : List Bool → ℕ
unmarked [] = 0
unmarked (true ∷ marks) = unmarked marks
unmarked (false ∷ marks) = suc (unmarked marks)

unmarked_up : (marks : List Bool) → unmarked marks ≤ length marks
unmarked_up [] = omega arith
unmarked_up (true ∷ marks) = omega (arith, unmarked_up marks)
unmarked_up (false ∷ marks) = omega (arith, unmarked_up marks)

mark_one : (marks : List Bool) (r : ℕ) → r < length marks → mark_at marks r ≡ false → unmarked (set marks r true) + 1 ≡ unmarked marks
mark_one [] r within is = absurd (omega (arith, within))
mark_one (false ∷ marks) zero within is = omega arith
mark_one (true ∷ marks) zero within is = absurd (false≢true (sym is))
mark_one (false ∷ marks) (suc r) within is = omega (arith, mark_one marks r (omega (arith, within)) is)
mark_one (true ∷ marks) (suc r) within is = mark_one marks r (omega (arith, within)) is

none_marked : (count r : ℕ) → mark_at (replicate count false) r ≡ false
none_marked zero r = refl
none_marked (suc count) zero = refl
none_marked (suc count) (suc r) = none_marked count r

-- ---- the parts that lead to an opaque part or to a marked rule

-- the part does
abbrev Leads : List Bool → Part → Type 0
Leads marks opaque = Unit {0}
Leads marks (ref name (Some q)) = mark_at marks q ≡ true
Leads marks _ = ⊥

leads_or_not : (marks : List Bool) (p : Part) → Leads marks p ⊎ (Leads marks p → ⊥)
leads_or_not marks (quoted text exact) = inr (λ x. x)
leads_or_not marks (series characters) = inr (λ x. x)
leads_or_not marks (span low high) = inr (λ x. x)
leads_or_not marks (seq ps) = inr (λ x. x)
leads_or_not marks (alt ps) = inr (λ x. x)
leads_or_not marks (rep least most p) = inr (λ x. x)
leads_or_not marks (ref name None) = inr (λ x. x)
leads_or_not marks (ref name (Some q)) = ⊎_elim (λ t. inl t) (λ f. inr (λ t. false≢true (sym f ∙ t))) (cases_Bool (mark_at marks q))
leads_or_not marks opaque = inl tt

abbrev SomeLeads : List Bool → List Part → Type 0
SomeLeads marks ps = (p : Part) × Contains ps p × Leads marks p

abbrev NoneLeads : List Bool → List Part → Type 0
NoneLeads marks ps = (p : Part) → Contains ps p → Leads marks p → ⊥

first_or_rest : (q : Part) (ps : List Part) (p : Part) → Contains (q ∷ ps) p → (q ≡ p) ⊎ Contains ps p
first_or_rest q ps p (zero, within, is) = inl is
first_or_rest q ps p (suc k, within, is) = inr (k, omega (arith, within), is)

some_leads : (marks : List Bool) (ps : List Part) → SomeLeads marks ps ⊎ NoneLeads marks ps
some_leads marks [] = inr (λ p has leads. absurd (omega (arith, has.1)))
some_leads marks (q ∷ ps) =
    ⊎_elim
    (λ leads. inl (q, (0, omega arith, refl), leads))
    (λ not. ⊎_elim
    (λ some. inl (some.0, (suc some.1.0, omega (arith, some.1.1), some.1.2), some.2))
    (λ none. inr (λ p has leads. ⊎_elim (λ is. not (subst (Leads marks) (sym is) leads)) (λ rest. none p rest leads) (first_or_rest q ps p has)))
    (some_leads marks ps))
    (leads_or_not marks q)

-- ---- rule after rule is marked

module _ (rules : List Part) where
  abbrev AreRight : List Bool → Type 0
  AreRight marks = (r : ℕ) → mark_at marks r ≡ true → ReachesOpaque rules r

  -- an unmarked rule that is to be marked
  record Next (marks : List Bool) : Type 0 where
    rule : ℕ
    waits : mark_at marks rule ≡ false
    root : Part
    is : slice_get rules rule ≡ Some root
    leads : SomeLeads marks (subparts root)

  -- the rule is none
  abbrev IsNone : List Bool → ℕ → Type 0
  IsNone marks r = mark_at marks r ≡ false → (root : Part) → slice_get rules r ≡ Some root → NoneLeads marks (subparts root)

  reaches_by : (marks : List Bool) → AreRight marks → (r : ℕ) (root : Part) → slice_get rules r ≡ Some root → (p : Part) → Contains (subparts root) p → Leads marks p → ReachesOpaque rules r
  reaches_by marks right r root is (quoted text exact) has leads = absurd leads
  reaches_by marks right r root is (series characters) has leads = absurd leads
  reaches_by marks right r root is (span low high) has leads = absurd leads
  reaches_by marks right r root is (seq ps) has leads = absurd leads
  reaches_by marks right r root is (alt ps) has leads = absurd leads
  reaches_by marks right r root is (rep least most p) has leads = absurd leads
  reaches_by marks right r root is (ref name None) has leads = absurd leads
  reaches_by marks right r root is (ref name (Some q)) has leads = reaches_more rules r root name q is has (right q leads)
  reaches_by marks right r root is opaque has leads = reaches_first rules r root is has

  rule_by : (marks : List Bool) (r : ℕ) → (mark_at marks r ≡ true) ⊎ (mark_at marks r ≡ false) → (o : Option Part) → slice_get rules r ≡ o → IsNone marks r ⊎ Next marks
  rule_by marks r (inl t) o is = inl (λ f. absurd (false≢true (sym f ∙ t)))
  rule_by marks r (inr f) None is = inl (λ waits root there. absurd (none-some root (sym is ∙ there)))
  rule_by marks r (inr f) (Some root) is =
      ⊎_elim
      (λ some. inr (record { rule = r; waits = f; root = root; is = is; leads = some }))
      (λ none. inl (λ waits other there. subst (λ x. NoneLeads marks (subparts x)) (same_Some root other (sym is ∙ there)) none))
      (some_leads marks (subparts root))

  next_below : (marks : List Bool) (n : ℕ) → ((r : ℕ) → r < n → IsNone marks r) ⊎ Next marks
  next_below marks zero = inl (λ r less. absurd (omega (arith, less)))
  next_below marks (suc n) =
      ⊎_elim
      (λ none. ⊎_elim (λ here. inl (below_more (IsNone marks) n none here)) (λ next. inr next) (rule_by marks n (cases_Bool (mark_at marks n)) (slice_get rules n) refl))
      (λ next. inr next)
      (next_below marks n)

  -- right marks to which none is to be added
  record AreAll (marks : List Bool) : Type 0 where
    right : AreRight marks
    closed : (r : ℕ) → r < length rules → IsNone marks r

  mark_next : (marks : List Bool) → length marks ≡ length rules → AreRight marks → (next : Next marks) → AreRight (set marks next.rule true)
  mark_next marks one_each right next r t =
      ⊎_elim
      (λ same. subst (ReachesOpaque rules) (sym same) (reaches_by marks right next.rule next.root next.is next.leads.0 next.leads.1 next.leads.2))
      (λ other. right r (sym (get_or-set_other marks next.rule r true false other) ∙ t))
      (cases_eq r next.rule)

  within : (marks : List Bool) → length marks ≡ length rules → (next : Next marks) → next.rule < length marks
  within marks one_each next = omega (arith, one_each, slice_get_within rules next.rule next.root next.is)

  mark_all : (fuel : ℕ) (marks : List Bool) → unmarked marks ≤ fuel → length marks ≡ length rules → AreRight marks → (all : List Bool) × AreAll all
  mark_all zero marks few one_each right =
      ⊎_elim
      (λ none. (marks, record { right = right; closed = none }))
      (λ next. absurd (omega (arith, few, mark_one marks next.rule (within marks one_each next) next.waits)))
      (next_below marks (length rules))
  mark_all (suc fuel) marks few one_each right =
      ⊎_elim
      (λ none. (marks, record { right = right; closed = none }))
      (λ next.
      let fewer = mark_one marks next.rule (within marks one_each next) next.waits in
      mark_all fuel (set marks next.rule true) (omega (arith, few, fewer)) (length-set marks next.rule true ∙ one_each) (mark_next marks one_each right next))
      (next_below marks (length rules))

  is_marked : (marks : List Bool) → AreAll marks → (r : ℕ) → ReachesOpaque rules r → mark_at marks r ≡ true
  is_marked marks all =
      let by : (r : ℕ) (root : Part) → slice_get rules r ≡ Some root → (p : Part) → Contains (subparts root) p → Leads marks p → mark_at marks r ≡ true =
      λ r root is p has leads. ⊎_elim (λ t. t) (λ f. absurd (all.closed r (slice_get_within rules r root is) f root is p has leads)) (cases_Bool (mark_at marks r)) in
      marked rules (λ r. mark_at marks r ≡ true) (λ r root is has. by r root is opaque has tt) (λ r root name q is has leads. by r root is (ref name (Some q)) has leads)

  pub reaches_or_not : (r : ℕ) → ReachesOpaque rules r ⊎ (ReachesOpaque rules r → ⊥)
  reaches_or_not r =
      let start = replicate (length rules) false in
      let all = mark_all (length start) start (unmarked_up start) (length-replicate (length rules) false) (λ q t. absurd (false≢true (sym (none_marked (length rules) q) ∙ t))) in
      ⊎_elim (λ t. inl (all.1.right r t)) (λ f. inr (λ h. false≢true (sym f ∙ is_marked all.0 all.1 r h))) (cases_Bool (mark_at all.0 r))
