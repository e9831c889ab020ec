-- What a part generates.
use Rattle.std.specs.Prelude.{◌≡◌, ℕ, zero, suc, ◌≤◌, ◌<◌, ◌⊎◌, Bool, true, false, Option, Some, None, List, [], ◌∷◌, ◌++◌, length, map, slice_get}
use Rattle.std.specs.List.{concat, AllByRecursion}
use Rattle.std.specs.Char.{to_ascii_lowercase}
use Rattle.abnf_parts.specs.Part.{Part, Parts, quoted, series, span, seq, alt, rep, ref, opaque, end, next}

-- the string is a quoted text: the text itself where it is exact, else the text but for ASCII case (RFC 5234 section 2.3; RFC
-- 7405 section 2.1)
abbrev pub Spells : List ℕ → Bool → List ℕ → Type 0
Spells text true s = s ≡ text
Spells text false s = map to_ascii_lowercase s ≡ map to_ascii_lowercase text

-- at most so many, if there is a most
abbrev pub UpTo : Option ℕ → ℕ → Type 0
UpTo None n = Unit {0}
UpTo (Some most) n = n ≤ most

-- at least so many strings, and at most so many, that all have a property, joined
pub record Joins (Each : List ℕ → Type 0) (least : ℕ) (most : Option ℕ) (s : List ℕ) : Type 0 where
  pub strings : List (List ℕ)
  pub enough : least ≤ length strings
  pub few : UpTo most (length strings)
  pub each : AllByRecursion Each strings
  pub joined : s ≡ concat strings

-- a string that is cut in two, of which each part has a property
pub record Split (A B : List ℕ → Type 0) (s : List ℕ) : Type 0 where
  pub front : List ℕ
  pub back : List ℕ
  pub of_front : A front
  pub of_back : B back
  pub joined : s ≡ front ++ back

-- What a part generates, where it is known what each rule generates (RFC 5234 sections 2.3 and 3). What is opaque, and a name
-- that stands for no rule, generates nothing.
abbrev mutual
  pub PartGen : (ℕ → List ℕ → Type 0) → Part → List ℕ → Type 0
  PartGen Rule (quoted text exact) s = Spells text exact s
  PartGen Rule (series characters) s = s ≡ characters
  PartGen Rule (span low high) s = (c : ℕ) × (low ≤ c) × (c ≤ high) × (s ≡ c ∷ [])
  PartGen Rule (seq ps) s = EachGen Rule ps s
  PartGen Rule (alt ps) s = SomeGen Rule ps s
  PartGen Rule (rep least most p) s = Joins (PartGen Rule p) least most s
  PartGen Rule (ref name None) s = ⊥
  PartGen Rule (ref name (Some r)) s = Rule r s
  PartGen Rule opaque s = ⊥

  -- strings of the parts in their order, joined
  pub EachGen : (ℕ → List ℕ → Type 0) → Parts → List ℕ → Type 0
  EachGen Rule end s = s ≡ []
  EachGen Rule (next p ps) s = Split (PartGen Rule p) (EachGen Rule ps) s

  -- a string of one of the parts
  pub SomeGen : (ℕ → List ℕ → Type 0) → Parts → List ℕ → Type 0
  SomeGen Rule end s = ⊥
  SomeGen Rule (next p ps) s = PartGen Rule p s ⊎ SomeGen Rule ps s

-- rule r generates s with fewer than k nested references
abbrev pub RuleGen : List Part → ℕ → ℕ → List ℕ → Type 0
RuleGen roots zero r s = ⊥
RuleGen roots (suc k) r s = (root : Part) × (slice_get roots r ≡ Some root) × PartGen (RuleGen roots k) root s

-- part p generates s with at most k nested references
abbrev pub Gen : List Part → ℕ → Part → List ℕ → Type 0
Gen roots k p s = PartGen (RuleGen roots k) p s

-- a part generates s, with any number of nested references
abbrev pub Generates : List Part → Part → List ℕ → Type 0
Generates roots p s = (k : ℕ) × Gen roots k p s

-- n is the least length of a string that the part generates
pub record IsLeastLength (roots : List Part) (p : Part) (n : ℕ) : Type 0 where
  pub reached : (s : List ℕ) × Generates roots p s × (length s ≡ n)
  pub least : (s : List ℕ) → Generates roots p s → n ≤ length s

-- (n, k) is the least pair of the length of a string that the part generates and the number of nested references that it
-- takes, the length compared first
pub record IsLeastPair (roots : List Part) (p : Part) (n k : ℕ) : Type 0 where
  pub reached : (s : List ℕ) × Gen roots k p s × (length s ≡ n)
  pub least : (s : List ℕ) (j : ℕ) → Gen roots j p s → (n < length s) ⊎ ((n ≡ length s) × (k ≤ j))
