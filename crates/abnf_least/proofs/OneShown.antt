-- Of a rule one thing is shown.
use Rattle.std.proofs.Common.{◌≡◌, ℕ, List, refl, sym, ap, ◌∙◌, subst, arith}
use Rattle.std.proofs.lemmas.Option.{same_Some}
use Rattle.abnf_parts.specs.Part.{Part}
use Rattle.abnf_parts.specs.Generates.{IsLeastLength}
use Rattle.abnf_parts.specs.Reach.{ReachesOpaque}
use Rattle.abnf_least.specs.declared.shortest.Shortest.{Shortest}
use Rattle.abnf_least.specs.declared.shortest.Shortest.TheVariants.{Shown, Long, Huge, Nothing, NotKnown}
use Rattle.abnf_least.specs.Shown.{IsKnownOf, IsKnown, IsShown}
use Rattle.abnf_least.proofs.One.{one_sentence}

module _ (roots : List Part) (r : ℕ) (root : Part) where
  same_length : (n m : ℕ) → IsLeastLength roots root n → IsLeastLength roots root m → n ≡ m
  same_length n m a b =
      omega (arith, a.least b.reached.0 b.reached.1, b.least a.reached.0 a.reached.1, a.reached.2, b.reached.2)

  one_known : (a b : Shortest) → IsKnownOf roots r root a → IsKnownOf roots r root b → a ≡ b
  one_known NotKnown b h g = absurd h
  one_known Nothing Nothing h g = refl
  one_known Nothing (Shown n t) h g = absurd (h g.0.reached.0 g.0.reached.1)
  one_known Nothing (Long n) h g = absurd (h g.0.reached.0 g.0.reached.1)
  one_known Nothing Huge h g = absurd (h g.0.0 g.0.1)
  one_known (Shown n t) Nothing h g = absurd (g h.0.reached.0 h.0.reached.1)
  one_known (Long n) Nothing h g = absurd (g h.0.reached.0 h.0.reached.1)
  one_known Huge Nothing h g = absurd (g h.0.0 h.0.1)
  one_known (Shown n t) (Shown m u) h g =
      ap (λ x. Shown x t) (same_length n m h.0 g.0) ∙ ap (λ x. Shown m x) (one_sentence roots r t u h.2 g.2)
  one_known (Long n) (Long m) h g = ap Long (same_length n m h.0 g.0)
  one_known Huge Huge h g = refl
  one_known (Shown n t) (Long m) h g = absurd (omega (arith, same_length n m h.0 g.0, h.1, g.1))
  one_known (Long n) (Shown m t) h g = absurd (omega (arith, same_length n m h.0 g.0, h.1, g.1))
  one_known (Shown n t) Huge h g = absurd (omega (arith, h.0.reached.2, h.1, g.1 h.0.reached.0 h.0.reached.1))
  one_known Huge (Shown n t) h g = absurd (omega (arith, g.0.reached.2, g.1, h.1 g.0.reached.0 g.0.reached.1))
  one_known (Long n) Huge h g = absurd (omega (arith, h.0.reached.2, h.2, g.1 h.0.reached.0 h.0.reached.1))
  one_known Huge (Long n) h g = absurd (omega (arith, g.0.reached.2, g.2, h.1 g.0.reached.0 g.0.reached.1))
  one_known Nothing NotKnown h g = absurd g
  one_known (Shown n t) NotKnown h g = absurd g
  one_known (Long n) NotKnown h g = absurd g
  one_known Huge NotKnown h g = absurd g

module _ (roots : List Part) (r : ℕ) where
  -- what is shown where the rule leads to no opaque part
  abbrev Known : Shortest → Type 0
  Known a = (ReachesOpaque roots r → ⊥) × IsKnown roots r a

  both_known : (a b : Shortest) → Known a → Known b → a ≡ b
  both_known a b h g =
      let same : g.1.0 ≡ h.1.0 = same_Some g.1.0 h.1.0 (sym g.1.1 ∙ h.1.1) in
      one_known roots r h.1.0 a b h.1.2 (subst (λ p. IsKnownOf roots r p b) same g.1.2)

  pub one_shown : (a b : Shortest) → IsShown roots r a → IsShown roots r b → a ≡ b
  one_shown NotKnown NotKnown h g = refl
  one_shown NotKnown Nothing h g = absurd (g.0 h)
  one_shown Nothing NotKnown h g = absurd (h.0 g)
  one_shown NotKnown (Shown n t) h g = absurd (g.0 h)
  one_shown (Shown n t) NotKnown h g = absurd (h.0 g)
  one_shown NotKnown (Long n) h g = absurd (g.0 h)
  one_shown (Long n) NotKnown h g = absurd (h.0 g)
  one_shown NotKnown Huge h g = absurd (g.0 h)
  one_shown Huge NotKnown h g = absurd (h.0 g)
  one_shown Nothing Nothing h g = both_known Nothing Nothing h g
  one_shown Nothing (Shown m u) h g = both_known Nothing (Shown m u) h g
  one_shown Nothing (Long m) h g = both_known Nothing (Long m) h g
  one_shown Nothing Huge h g = both_known Nothing Huge h g
  one_shown (Shown n t) Nothing h g = both_known (Shown n t) Nothing h g
  one_shown (Shown n t) (Shown m u) h g = both_known (Shown n t) (Shown m u) h g
  one_shown (Shown n t) (Long m) h g = both_known (Shown n t) (Long m) h g
  one_shown (Shown n t) Huge h g = both_known (Shown n t) Huge h g
  one_shown (Long n) Nothing h g = both_known (Long n) Nothing h g
  one_shown (Long n) (Shown m u) h g = both_known (Long n) (Shown m u) h g
  one_shown (Long n) (Long m) h g = both_known (Long n) (Long m) h g
  one_shown (Long n) Huge h g = both_known (Long n) Huge h g
  one_shown Huge Nothing h g = both_known Huge Nothing h g
  one_shown Huge (Shown m u) h g = both_known Huge (Shown m u) h g
  one_shown Huge (Long m) h g = both_known Huge (Long m) h g
  one_shown Huge Huge h g = both_known Huge Huge h g

  -- what is known is shown, where the rule leads to no opaque part
  pub shown_if : (a : Shortest) → (ReachesOpaque roots r → ⊥) → IsKnown roots r a → IsShown roots r a
  shown_if (Shown n t) closed known = (closed, known)
  shown_if (Long n) closed known = (closed, known)
  shown_if Huge closed known = (closed, known)
  shown_if Nothing closed known = (closed, known)
  shown_if NotKnown closed known = absurd known.2
