-- What is known of parts of which nothing is known, and of least lengths.
use Rattle.std.proofs.Common.{◌≡◌, ℕ, List, [], ◌∷◌, None, refl, ◌∙◌, arith, inl, inr}
use Rattle.std.specs.Prelude.{◌↔◌}
use Rattle.std.specs.List.{concat, AllByRecursion}
use Rattle.abnf_parts.specs.Part.{Part, rep, ref}
use Rattle.abnf_parts.specs.Generates.{Generates, IsLeastLength, IsLeastPair}

-- strings that a property rules out join to nothing
none_join : (Each : List ℕ → Type 0) (strings : List (List ℕ)) → ((s : List ℕ) → Each s → ⊥) → AllByRecursion Each strings → concat strings ≡ []
none_join Each [] none all = refl
none_join Each (s ∷ strings) none all = absurd (none s all.0)

pub repeated_unknown : (roots : List Part) (name s : List ℕ) → Generates roots (rep 0 None (ref name None)) s ↔ (s ≡ [])
repeated_unknown roots name s = (
  λ g. g.1.joined ∙ none_join (λ _. ⊥) g.1.strings (λ t none. none) g.1.each,
  λ empty. (0, record { strings = []; enough = omega arith; few = tt; each = tt; joined = empty }),
)

pub value_length : (roots : List Part) (p : Part) (n k : ℕ) → IsLeastPair roots p n k → IsLeastLength roots p n
value_length roots p n k v = record {
  reached = (v.reached.0, (k, v.reached.1), v.reached.2);
  least = λ s g. elim (v.least s g.0 g.1) [ inl longer ↦ omega (arith, longer) | inr same ↦ omega (arith, same.0) ];
}
