-- Equality of ids, of encodings and of questions, and whether a job was run, as tests.
use Rattle.std.specs.Prelude.{Bool, true, false, ◌==◌, ◌&&◌, bytes_eq, Option, Some, None}
use Rattle.std.specs.Bool.{beq}
use Rattle.std.specs.Ordering.{int_eq}
use Rattle.ls_rpc.specs.declared.message.Id.{Id}
use Rattle.ls_rpc.specs.declared.message.Id.TheVariants as id
use Rattle.ls_text.specs.declared.position.Encoding.{Encoding}
use Rattle.ls_text.specs.declared.position.Encoding.TheVariants.{Utf8, Utf16, Utf32, Markdown, Xml}
use Rattle.ls_text.specs.declared.position.Units.{Units}
use Rattle.ls_text.specs.declared.position.Units.TheVariants as counted
use Rattle.ls_text.specs.declared.position.Position.{Position}
use Rattle.ls_text.specs.declared.position.Range.{Range}
use Rattle.ls_answers.specs.declared.ask.Ask.{Ask}
use Rattle.ls_answers.specs.Told.{Told}
use Rattle.ls_machine.specs.declared.state.Waiting.{Waiting}
use Rattle.ls_answers.specs.declared.ask.Ask.TheVariants.{Hover, Definition, References, Symbols, Rename, Action, Tokens, Diagnose}

-- The ids are the same. A number and a text never are.
abbrev pub id_eq : Id → Id → Bool
id_eq (id.Number a) (id.Number b) = int_eq a b
id_eq (id.Text a) (id.Text b) = bytes_eq a b
id_eq (id.Number a) (id.Text b) = false
id_eq (id.Text a) (id.Number b) = false

-- The units are the same.
abbrev pub units_eq : Units → Units → Bool
units_eq counted.Utf8 counted.Utf8 = true
units_eq counted.Utf16 counted.Utf16 = true
units_eq counted.Utf32 counted.Utf32 = true
units_eq _ _ = false

-- The encodings are the same: both are of a grammar, or of drafts in one format, and count the same.
abbrev pub encoding_eq : Encoding → Encoding → Bool
encoding_eq Utf8 Utf8 = true
encoding_eq Utf16 Utf16 = true
encoding_eq Utf32 Utf32 = true
encoding_eq (Markdown a) (Markdown b) = units_eq a b
encoding_eq (Xml a) (Xml b) = units_eq a b
encoding_eq _ _ = false

-- The positions have the same line and the same number of units before them in it.
abbrev pub position_eq : Position → Position → Bool
position_eq a b = (a.line == b.line) && (a.character == b.character)

-- The ranges begin and end at the same positions.
abbrev pub range_eq : Range → Range → Bool
range_eq a b = position_eq a.start b.start && position_eq a.end b.end

-- The questions are the same, with all that they carry; of a new name this is each byte, not the name in whatever case.
abbrev pub ask_eq : Ask → Ask → Bool
ask_eq (Hover a) (Hover b) = position_eq a b
ask_eq (Definition a) (Definition b) = position_eq a b
ask_eq (References a x) (References b y) = position_eq a b && beq x y
ask_eq Symbols Symbols = true
ask_eq (Rename a n) (Rename b m) = position_eq a b && bytes_eq n m
ask_eq (Action a) (Action b) = range_eq a b
ask_eq Tokens Tokens = true
ask_eq Diagnose Diagnose = true
ask_eq _ _ = false

-- There is a job, and it was run there: its text, with its encoding and its question.
abbrev pub is_for : Option Waiting → Told → Bool
is_for None done = false
is_for (Some w) done = encoding_eq w.encoding done.encoding && (bytes_eq w.text done.text && ask_eq w.ask done.ask)
