-- Questions about a document.
use Rattle.std.specs.Prelude.{◌≡◌, Bool, true, false}
use Rattle.abnf_token.specs.Classes.{is_name}
use Rattle.ls_answers.specs.declared.ask.Ask.{Ask}
use Rattle.ls_answers.specs.declared.ask.Ask.TheVariants.{Rename}

-- The question carries a text of its own, the new name, as only a rename does.
abbrev pub is_rename : Ask → Bool
is_rename (Rename at name) = true
is_rename _ = false

-- The question asks for a rename to what is no name (RFC 5234, section 2.1).
abbrev pub IsToNoName : Ask → Type 0
IsToNoName (Rename at new) = is_name new ≡ false
IsToNoName _ = ⊥
