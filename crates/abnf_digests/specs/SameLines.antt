-- Lines that stand in two texts, maybe at other places, and faults without their places.
use Rattle.std.specs.Prelude.{◌≡◌, ℕ, ◌+◌, ◌<◌, List, [], Option, option_map, slice_index_or}
use Rattle.ls_text.specs.declared.position.Place.{Place}
use Rattle.abnf_token.specs.Classes.{Text}
use Rattle.abnf_syntax.specs.declared.fault.SyntaxFault.{SyntaxFault}
use Rattle.abnf_syntax.specs.declared.fault.SyntaxFault.TheVariants as f
use Rattle.abnf_names.specs.Said.{Block}
use Rattle.abnf_names.specs.Shown.{fault_shown}

-- The lines from the first bound up to the second are, in order, the other text's lines between its bounds, maybe at another
-- place.
pub record AreSameLines (ls others : List Text) (bounds there : ℕ × ℕ) : Type 0 where
  pub count : bounds.1 + there.0 ≡ there.1 + bounds.0
  pub each : (n : ℕ) → bounds.0 + n < bounds.1 → slice_index_or ls (bounds.0 + n) [] ≡ slice_index_or others (there.0 + n) []

-- a place in place of all places
abbrev pub nowhere : Place
nowhere = record { line = 0; start = 0; end = 0 }

-- a fault without its place
abbrev pub placeless : SyntaxFault → SyntaxFault
placeless (f.NoName p) = f.NoName nowhere
placeless (f.NoDefinedAs p) = f.NoDefinedAs nowhere
placeless (f.BadToken p) = f.BadToken nowhere
placeless (f.ElementExpected p) = f.ElementExpected nowhere
placeless (f.BlankExpected p) = f.BlankExpected nowhere
placeless (f.Unclosed p) = f.Unclosed nowhere
placeless (f.NumberTooLarge p) = f.NumberTooLarge nowhere
placeless (f.TooDeep p) = f.TooDeep nowhere
placeless f.Memory = f.Memory

-- which fault a block shows, wherever it stands
abbrev pub fault_kind : Block → Option SyntaxFault
fault_kind block = option_map placeless (fault_shown block.said)
