-- Laws of the lines of what can't be read.
use Rattle.std.proofs.Common.{◌≡◌, ℕ, List, [], ◌∷◌, ◌++◌, drop, take, sym, ap, ◌∙◌, append_assoc}
use Rattle.ls_text.specs.declared.position.Position.{Position}
use Rattle.origins.specs.declared.unread.Unread.{Unread}
use Rattle.draft_findings.specs.Reports.{Remarked}
use Rattle.findings_text.specs.Unread.{count_before, merged, unread_lines}

module _ (file : List ℕ) (place : Unread → Position) (begin : Remarked → Position) (line : Remarked → List ℕ) (lines : List ℕ) (left : List Unread) (told : List Remarked) {whole : List ℕ} (was : lines ++ merged file place begin line left told ≡ whole) where
  -- the lines of a finding are put behind those of what can't be read and begins before it
  pub line_put : (r : Remarked) (rs : List Remarked) (front both : List ℕ) (next : List Unread) → told ≡ r ∷ rs
      → front ≡ lines ++ unread_lines file place (take (count_before place (begin r) left) left) → both ≡ front ++ line r → next ≡ drop (count_before place (begin r) left) left
      → both ++ merged file place begin line next rs ≡ whole
  line_put r rs front both next is front_is both_is next_is =
      let before = unread_lines file place (take (count_before place (begin r) left) left) in
      (λ i. both_is i ++ merged file place begin line (next_is i) rs)
      ∙ (λ i. (front_is i ++ line r) ++ merged file place begin line (drop (count_before place (begin r) left) left) rs)
      ∙ append_assoc (lines ++ before) (line r) (merged file place begin line (drop (count_before place (begin r) left) left) rs)
      ∙ append_assoc lines before (line r ++ merged file place begin line (drop (count_before place (begin r) left) left) rs)
      ∙ ap (λ rs'. lines ++ merged file place begin line left rs') (sym is)
      ∙ was

  -- behind the last finding those are put that are left
  pub rest_put : (all : List ℕ) → told ≡ [] → all ≡ lines ++ unread_lines file place left → all ≡ whole
  rest_put all is all_is = all_is ∙ ap (λ rs. lines ++ merged file place begin line left rs) (sym is) ∙ was
