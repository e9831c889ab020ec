-- What an example says.
use Rattle.std.proofs.Common.{◌≡◌, ℕ, List, [], ◌∷◌, ◌++◌, Option, Result, String, Global, subst}
use Rattle.std.specs.Prelude.{IfOk, string_bytes}
use Rattle.std.proofs.lemmas.Result.{IfOk-weaker}
use Rattle.abnf_token.specs.Folded.{lowercase}
use Rattle.abnf_parts.specs.Names.{rule_number}
use Rattle.abnf_names.specs.Rules.{Grammar, IsGrammar}
use Rattle.abnf_cert.specs.declared.entry.Entry.{Entry}
use Rattle.abnf_cert.specs.Accepted.{IsAccepted}
use Rattle.abnf_cert.specs.Text.{cert_text}
use Rattle.ls_answers.specs.Hover.{IsHoverText}
use Rattle.ls_program.specs.Commands.{IsExampleIn, IsExampleText}

module _ {E : Type 0} (r : Result (String Global) E) (g : Grammar) (name : List ℕ) where
  -- what is shown of a rule, with an accepted certificate, is an example in the grammar
  pub is_example_in : (rule : Option ℕ) (shown : List ℕ) (es : List Entry) → rule ≡ rule_number g.names (lowercase name) → IsHoverText g.rules rule shown → IsAccepted g.rules es → IfOk r (λ text. string_bytes text ≡ shown ++ 10 ∷ 10 ∷ [] ++ cert_text es) → IfOk r (λ text. IsExampleIn g name (string_bytes text))
  is_example_in rule shown es is hover accepted h =
      IfOk-weaker r (λ text. string_bytes text ≡ shown ++ 10 ∷ 10 ∷ [] ++ cert_text es) (λ text. IsExampleIn g name (string_bytes text)) (λ text are. record { shown = shown; hover = subst (λ x. IsHoverText g.rules x shown) is hover; entries = es; accepted = accepted; bytes_are = are }) h

  -- and so of the text of which it is the grammar
  pub is_example_text : (text : List ℕ) → g.text ≡ text → IsGrammar g → IfOk r (λ bytes. IsExampleIn g name (string_bytes bytes)) → IfOk r (λ bytes. IsExampleText text name (string_bytes bytes))
  is_example_text text of_text right h =
      IfOk-weaker r (λ bytes. IsExampleIn g name (string_bytes bytes)) (λ bytes. IsExampleText text name (string_bytes bytes)) (λ bytes example. record { grammar = g; of_text = of_text; right = right; example = example }) h
