-- What yields something generates a string, and what generates one yields something.
use Rattle.std.proofs.Common.{◌≡◌, ℕ, zero, suc, ◌≤◌, ◌⊎◌, inl, inr, Bool, true, false, Option, Some, None, List, [], ◌∷◌, ◌++◌, length, replicate, refl, subst, arith}
use Rattle.std.specs.List.{concat, AllByRecursion}
use Rattle.abnf_parts.specs.Part.{Part, Parts, quoted, series, span, seq, alt, rep, ref, opaque, end, next}
use Rattle.abnf_parts.specs.Generates.{Spells, UpTo, Joins, PartGen, EachGen, SomeGen, RuleGen}
use Rattle.abnf_cert.proofs.Upper.{joins_copies}
use Rattle.abnf_lint.specs.Yields.{Yields, EachYields, SomeYields, RuleYields, YieldingIsGenerating}

up_to_fewer : (most : Option ℕ) (m n : ℕ) → m ≤ n → UpTo most n → UpTo most m
up_to_fewer None m n le u = tt
up_to_fewer (Some most) m n le u = omega (arith, u)

first_or_none : (Each : List ℕ → Type 0) (P : Type 0) → ((s : List ℕ) → Each s → P) → (least : ℕ) (strings : List (List ℕ)) → least ≤ length strings → AllByRecursion Each strings → (least ≡ 0) ⊎ P
first_or_none Each P to least [] le each = inl (omega (arith, le))
first_or_none Each P to least (s ∷ strings) le each = inr (to s each.0)

module _ (Rule : ℕ → List ℕ → Type 0) (Yes : ℕ → Type 0) (of_rule : (r : ℕ) (s : List ℕ) → Rule r s → Yes r) where
  mutual
    pub yields : (p : Part) (s : List ℕ) → PartGen Rule p s → Yields Yes p
    yields (quoted text exact) s g = tt
    yields (series characters) s g = tt
    yields (span low high) s g = omega (arith, g.1, g.2)
    yields (seq ps) s g = each_yields ps s g
    yields (alt ps) s g = some_yields ps s g
    yields (rep least most p) s g = (up_to_fewer most least (length g.strings) g.enough g.few, first_or_none (PartGen Rule p) (Yields Yes p) (λ t h. yields p t h) least g.strings g.enough g.each)
    yields (ref name None) s g = g
    yields (ref name (Some r)) s g = of_rule r s g
    yields opaque s g = g

    each_yields : (ps : Parts) (s : List ℕ) → EachGen Rule ps s → EachYields Yes ps
    each_yields end s g = tt
    each_yields (next p ps) s g = (yields p g.front g.of_front, each_yields ps g.back g.of_back)

    some_yields : (ps : Parts) (s : List ℕ) → SomeGen Rule ps s → SomeYields Yes ps
    some_yields end s g = g
    some_yields (next p ps) s (inl g) = inl (yields p s g)
    some_yields (next p ps) s (inr g) = inr (some_yields ps s g)

module _ (Rule : ℕ → List ℕ → Type 0) (Yes : ℕ → Type 0) (of_rule : (r : ℕ) → Yes r → (s : List ℕ) × Rule r s) where
  spelled : (text : List ℕ) (exact : Bool) → (s : List ℕ) × Spells text exact s
  spelled text true = (text, refl)
  spelled text false = (text, refl)

  no_string : (Each : List ℕ → Type 0) (least : ℕ) (most : Option ℕ) → UpTo most least → least ≡ 0 → Joins Each least most []
  no_string Each least most u z =
      record { strings = []; enough = omega arith; few = subst (λ n. UpTo most n) z u; each = tt; joined = refl }

  repeated : (Each : List ℕ → Type 0) (P : Type 0) → (P → (s : List ℕ) × Each s) → (least : ℕ) (most : Option ℕ) → UpTo most least → (least ≡ 0) ⊎ P → (s : List ℕ) × Joins Each least most s
  repeated Each P from least most u (inl z) = ([], no_string Each least most u z)
  repeated Each P from least most u (inr y) =
      let s = from y in
      (concat (replicate least s.0), joins_copies 0 Each least most s.0 u s.1)

  mutual
    pub string_of : (p : Part) → Yields Yes p → (s : List ℕ) × PartGen Rule p s
    string_of (quoted text exact) y = spelled text exact
    string_of (series characters) y = (characters, refl)
    string_of (span low high) y = (low ∷ [], (low, omega arith, y, refl))
    string_of (seq ps) y = string_of_each ps y
    string_of (alt ps) y = string_of_one ps y
    string_of (rep least most p) y = repeated (PartGen Rule p) (Yields Yes p) (λ z. string_of p z) least most y.0 y.1
    string_of (ref name None) y = absurd y
    string_of (ref name (Some r)) y = of_rule r y
    string_of opaque y = absurd y

    string_of_each : (ps : Parts) → EachYields Yes ps → (s : List ℕ) × EachGen Rule ps s
    string_of_each end y = ([], refl)
    string_of_each (next p ps) y =
        let front = string_of p y.0 in
        let back = string_of_each ps y.1 in
        (front.0 ++ back.0, record { front = front.0; back = back.0; of_front = front.1; of_back = back.1; joined = refl })

    string_of_one : (ps : Parts) → SomeYields Yes ps → (s : List ℕ) × SomeGen Rule ps s
    string_of_one end y = absurd y
    string_of_one (next p ps) (inl y) = let s = string_of p y in (s.0, inl s.1)
    string_of_one (next p ps) (inr y) = let s = string_of_one ps y in (s.0, inr s.1)

module _ (rules : List Part) where
  pub rule_yields : (k r : ℕ) (s : List ℕ) → RuleGen rules k r s → RuleYields rules k r
  rule_yields zero r s g = g
  rule_yields (suc k) r s g = (g.0, g.1, yields (RuleGen rules k) (RuleYields rules k) (rule_yields k) g.0 s g.2)

  pub string_of_rule : (k r : ℕ) → RuleYields rules k r → (s : List ℕ) × RuleGen rules k r s
  string_of_rule zero r y = absurd y
  string_of_rule (suc k) r y =
      let s = string_of (RuleGen rules k) (RuleYields rules k) (string_of_rule k) y.0 y.2 in
      (s.0, (y.0, y.1, s.1))

pub yielding_is_generating : YieldingIsGenerating
yielding_is_generating rules k r = (string_of_rule rules k r, λ s. rule_yields rules k r s.0 s.1)
