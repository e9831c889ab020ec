-- Texts that were diagnosed.
use Rattle.std.specs.Prelude.{ℕ, List}
use Rattle.abnf_lint.specs.declared.finding.Finding.{Finding}

-- a text, as its characters, and what is found in it
pub record Known : Type 0 where
  pub text : List ℕ
  pub findings : List Finding
