-- What the commands of the program say of a text.
use Rattle.std.specs.Prelude.{◌≡◌, ◌<◌, ◌^◌, ◌↔◌, ℕ, ◌++◌, ◌∷◌, Bool, ◌&&◌, ◌==◌, IsTrue, List, [], Option, Some, None, length, if◌then◌else◌}
use Rattle.std.specs.Option.{unwrap_or}
use Rattle.abnf_token.specs.Folded.{lowercase}
use Rattle.abnf_parts.specs.Names.{rule_number}
use Rattle.abnf_names.specs.Rules.{Grammar, IsGrammar}
use Rattle.abnf_cert.specs.declared.entry.Entry.{Entry}
use Rattle.abnf_cert.specs.Accepted.{IsAccepted}
use Rattle.abnf_cert.specs.Says.{EachSays}
use Rattle.abnf_cert.specs.Read.{IsOf64Bits}
use Rattle.abnf_cert.specs.Text.{cert_text}
use Rattle.ls_answers.specs.Hover.{IsHoverText}

-- What follows the first empty line, if there is one: an empty line is an LF right behind another, or where the bytes begin. The
-- byte that stands before these is known.
abbrev pub behind_empty_line : ℕ → List ℕ → Option (List ℕ)
behind_empty_line before [] = None
behind_empty_line before (b ∷ bs) = if before == 10 && b == 10 then Some bs else behind_empty_line b bs

-- of a certificate's file what follows the first empty line, or all where there is none
abbrev pub cert_part : List ℕ → List ℕ
cert_part bytes = unwrap_or (behind_empty_line 10 bytes) bytes

-- The bytes show the rule of a grammar that has this name: its hover text, an empty line, and the text of an accepted certificate.
pub record IsExampleIn (grammar : Grammar) (name bytes : List ℕ) : Type 0 where
  pub shown : List ℕ
  pub hover : IsHoverText grammar.rules (rule_number grammar.names (lowercase name)) shown
  pub entries : List Entry
  pub accepted : IsAccepted grammar.rules entries
  pub bytes_are : bytes ≡ shown ++ 10 ∷ 10 ∷ [] ++ cert_text entries

-- This is what `example` prints for a text and a name: the bytes show the rule of that name, by the grammar of the text.
pub record IsExampleText (text name bytes : List ℕ) : Type 0 where
  pub grammar : Grammar
  pub of_text : grammar.text ≡ text
  pub right : IsGrammar grammar
  pub example : IsExampleIn grammar name bytes

-- This is what `check` answers for a text and a file. The answer is yes exactly where the bytes, past their first empty line, are the text
-- of a certificate that is accepted for the text's grammar, and then each of its entries is right of strings. They are the text of a
-- certificate with numbers of 64 bits.
pub record IsChecked (text bytes : List ℕ) (yes : Bool) : Type 0 where
  pub grammar : Grammar
  pub of_text : grammar.text ≡ text
  pub right : IsGrammar grammar
  pub entries : List Entry
  pub wide : IsOf64Bits entries
  pub read : cert_part bytes ≡ cert_text entries
  pub answer : IsTrue yes ↔ IsAccepted grammar.rules entries
  pub sound : IsTrue yes → EachSays grammar.rules entries

-- Each text of fewer than 2^62 characters has an example for each name.
abbrev pub ExampleTextsExist : Type 0
ExampleTextsExist = (text name : List ℕ) → length text < 2 ^ 62 → (bytes : List ℕ) × IsExampleText text name bytes

-- A check of an example for the same text says yes, where the numbers of its certificate are of 64 bits.
abbrev pub ExampleTextsAreAccepted : Type 0
ExampleTextsAreAccepted =
    (text name bytes : List ℕ) (yes : Bool) (example : IsExampleText text name bytes) → IsOf64Bits example.example.entries →
    IsChecked text bytes yes → IsTrue yes
