-- Marks of rules, one more at a time.
use Rattle.std.proofs.Common.{◌≡◌, ◌∙◌, ◌<◌, ◌≤◌, ◌+◌, ℕ, Bool, false, List, [], ◌∷◌, ◌++◌, length, sym, ap, subst, arith, get_or, length-append, inl, inr}
use Rattle.std.specs.Prelude.{◌↔◌, IsTrue, slice_index_or}
use Rattle.std.proofs.Math.Nat.{eq-or-lt_of_le}
use Rattle.std.proofs.lemmas.Grind.{common_steps}

mark_before : (marks : List Bool) (b : Bool) (k : ℕ) → k < length marks → get_or (marks ++ b ∷ []) k false ≡ get_or marks k false
mark_before marks b k h = grind (arith, common_steps)

mark_last : (marks : List Bool) (b : Bool) → get_or (marks ++ b ∷ []) (length marks) false ≡ b
mark_last marks b = grind (arith, common_steps)

module _ (P : ℕ → Type 0) where
  pub each_more : (marks now : List Bool) (r : ℕ) (b : Bool) → length marks ≡ r → ((k : ℕ) → k < r → IsTrue (slice_index_or marks k false) ↔ P k) → (IsTrue b ↔ P r) → now ≡ marks ++ b ∷ [] →
      (length now ≡ r + 1) × ((k : ℕ) → k < r + 1 → IsTrue (slice_index_or now k false) ↔ P k)
  each_more marks now r b len each here is =
      let Marked : List Bool → ℕ → Type 0 = λ xs k. IsTrue (get_or xs k false) ↔ P k in
      let whole : length (marks ++ b ∷ []) ≡ r + 1 = length-append marks (b ∷ []) ∙ ap (λ n. n + 1) len in
      let last : Marked (marks ++ b ∷ []) r = subst (λ k. Marked (marks ++ b ∷ []) k) len
      (let at : IsTrue b ↔ P (length marks) = subst (λ k. IsTrue b ↔ P k) (sym len) here in subst (λ x. IsTrue x ↔ P (length marks)) (sym (mark_last marks b)) at) in
      let before : (k : ℕ) → k < r → Marked (marks ++ b ∷ []) k = λ k h. subst (λ x. IsTrue x ↔ P k) (sym (mark_before marks b k (subst (λ n. k < n) (sym len) h))) (each k h) in
      (ap length is ∙ whole, λ k h. subst (λ xs. Marked xs k) (sym is) (elim (eq-or-lt_of_le (let most : k ≤ r = omega arith in most)) [ inl x ↦ subst (λ n. Marked (marks ++ b ∷ []) n) (sym x) last | inr x ↦ before k x ]))
