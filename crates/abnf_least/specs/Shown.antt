-- What is shown of a rule.
use Rattle.std.specs.Prelude.{◌≡◌, ℕ, ◌≤◌, ◌<◌, Some, List, length, slice_get}
use Rattle.abnf_parts.specs.Part.{Part}
use Rattle.abnf_parts.specs.Generates.{Generates, IsLeastLength}
use Rattle.abnf_parts.specs.Reach.{ReachesOpaque}
use Rattle.abnf_cert.specs.Accepted.{top}
use Rattle.abnf_least.specs.declared.shortest.Shortest.{Shortest}
use Rattle.abnf_least.specs.declared.shortest.Shortest.TheVariants.{Shown, Long, Huge, Nothing, NotKnown}
use Rattle.abnf_least.specs.Sentence.{IsSentence}

-- What is known of a rule with this root, if it leads to no opaque part: an example is the rule's sentence, which the rule
-- generates and which has the least length, at most 4,096 characters. From there on it is the least length alone, and from
-- the top on that there is a string and none shorter.
abbrev pub IsKnownOf : List Part → ℕ → Part → Shortest → Type 0
IsKnownOf roots r root (Shown n text) =
    IsLeastLength roots root n × (n ≤ 4096) × IsSentence roots r text × Generates roots root text × (length text ≡ n)
IsKnownOf roots r root (Long n) = IsLeastLength roots root n × (4096 < n) × (n < top)
IsKnownOf roots r root Huge = ((s : List ℕ) × Generates roots root s) × ((s : List ℕ) → Generates roots root s → top ≤ length s)
IsKnownOf roots r root Nothing = (s : List ℕ) → Generates roots root s → ⊥
IsKnownOf roots r root NotKnown = ⊥

-- this is known of rule r, by what it generates
abbrev pub IsKnown : List Part → ℕ → Shortest → Type 0
IsKnown roots r shown = (root : Part) × (slice_get roots r ≡ Some root) × IsKnownOf roots r root shown

-- Rule r generates strings, of which the shortest have at most 4,096 characters.
abbrev pub HasShortString : List Part → ℕ → Type 0
HasShortString roots r = (root : Part) × (slice_get roots r ≡ Some root) × (n : ℕ) × IsLeastLength roots root n × (n ≤ 4096)

-- What is shown of rule r: not known exactly where the rule leads to an opaque part, and else what is known.
abbrev pub IsShown : List Part → ℕ → Shortest → Type 0
IsShown roots r NotKnown = ReachesOpaque roots r
IsShown roots r shown = (ReachesOpaque roots r → ⊥) × IsKnown roots r shown

-- of a rule one thing is shown
abbrev pub AtMostOneShown : Type 0
AtMostOneShown = (roots : List Part) (r : ℕ) (a b : Shortest) → IsShown roots r a → IsShown roots r b → a ≡ b
