-- A rule has one hover text, and one alone.
use Rattle.std.proofs.Common.{◌≡◌, ◌<◌, ℕ, List, length, Option, Some, None, refl, sym, ap, ◌∙◌}
use Rattle.std.specs.Prelude.{IfSome, codes}
use Rattle.abnf_parts.specs.Part.{Part}
use Rattle.abnf_names.specs.Rules.{Grammar, IsGrammar}
use Rattle.abnf_least.proofs.OneShown.{one_shown}
use Rattle.abnf_least.proofs.SomeShown.{some_shown}
use Rattle.ls_answers.specs.Hover.{IsHoverText, shown_text}

pub one_hover_text : (roots : List Part) (rule : Option ℕ) (a b : List ℕ) → IsHoverText roots rule a → IsHoverText roots rule b → a ≡ b
one_hover_text roots None a b x y = x ∙ sym y
one_hover_text roots (Some r) a b x y = x.2 ∙ ap shown_text (one_shown roots r x.0 y.0 x.1 y.1) ∙ sym y.2

pub some_hover_text : (g : Grammar) → IsGrammar g → (rule : Option ℕ) → IfSome rule (λ r. r < length g.rules) → (text : List ℕ) × IsHoverText g.rules rule text
some_hover_text g is None known = (codes "undefined", refl)
some_hover_text g is (Some r) known = let s = some_shown g is r known in (shown_text s.0, (s.0, s.1, refl))
