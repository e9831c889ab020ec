-- The lines of rules, one more at a time.
use Rattle.std.proofs.Common.{◌≡◌, ◌∙◌, ◌<◌, ◌+◌, ℕ, List, [], ◌∷◌, ◌++◌, length, map, take, get_or, refl, sym, ap, subst, append_assoc, append-nil}
use Rattle.std.proofs.lemmas.List.{map-append, take_more}
use Rattle.abnf_names.specs.Places.{Named}
use Rattle.abnf_names.specs.Rules.{Grammar}
use Rattle.findings_text.specs.declared.rules.Head.{Head}
use Rattle.findings_text.specs.Print.{Locator}
use Rattle.findings_text.specs.Rules.{AreRuleLines, IsRuleLine, head_at}

module _ (locate : Locator) (file : List ℕ) (g : Grammar) where
  lines_more : (done : List (Named × ℕ)) (lines now line : List ℕ) (head : Named × ℕ) → AreRuleLines locate file g done lines → IsRuleLine locate file g head line → now ≡ lines ++ line
      → AreRuleLines locate file g (done ++ head ∷ []) now
  lines_more [] lines now line head are is grown =
      (line, [], is, refl, grown ∙ (ap (λ l. l ++ line) are ∙ sym (append-nil line)))
  lines_more (d ∷ done) lines now line head are is grown = (
    are.0,
    are.1 ++ line,
    are.2,
    lines_more done are.1 (are.1 ++ line) line head are.3 is refl,
    grown ∙ (ap (λ l. l ++ line) are.4 ∙ append_assoc are.0 are.1 line),
  )

  -- the lines of the heads before i, and of one more
  pub lines_next : (heads : List Head) (i : ℕ) (head : Head) (lines now line : List ℕ) → i < length heads → head ≡ get_or heads i head
      → AreRuleLines locate file g (map head_at (take i heads)) lines → IsRuleLine locate file g (head_at head) line → now ≡ lines ++ line
      → AreRuleLines locate file g (map head_at (take (i + 1) heads)) now
  lines_next heads i head lines now line less at are is grown =
      let more : map head_at (take (i + 1) heads) ≡ map head_at (take i heads) ++ head_at head ∷ [] =
      ap (map head_at) (take_more heads i head less ∙ (λ j. take i heads ++ sym at j ∷ [])) ∙ map-append head_at (take i heads) (head ∷ []) in
      subst (λ (hs : List (Named × ℕ)). AreRuleLines locate file g hs now) (sym more) (lines_more (map head_at (take i heads)) lines now line (head_at head) are is grown)
