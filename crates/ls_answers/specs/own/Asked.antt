-- The questions that need a text's grammar. Only contracts of private functions speak of them.
use Rattle.std.specs.Prelude.{◌≡◌, true}
use Rattle.abnf_token.specs.Classes.{is_name}
use Rattle.ls_answers.specs.declared.ask.Ask.{Ask}
use Rattle.ls_answers.specs.declared.ask.Ask.TheVariants as ask
use Rattle.ls_answers.specs.declared.in_grammar.GrammarAsk.{GrammarAsk}
use Rattle.ls_answers.specs.declared.in_grammar.GrammarAsk.TheVariants as grammar

-- the same question among all questions
abbrev pub as_ask : GrammarAsk → Ask
as_ask (grammar.Hover at) = ask.Hover at
as_ask (grammar.Rename at new) = ask.Rename at new.now
as_ask (grammar.Action range) = ask.Action range
as_ask grammar.Tokens = ask.Tokens

-- a rename is asked to what is a name
abbrev pub IsToAName : GrammarAsk → Type 0
IsToAName (grammar.Rename at new) = is_name new.now ≡ true
IsToAName _ = Unit {0}
