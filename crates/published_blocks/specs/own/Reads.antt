-- How the lines of a text are read, one after another. No public contract cites this.
use Rattle.std.specs.Prelude.{◌≡◌, ◌<◌, ℕ, List, ◌++◌, Contains, drop, length}
use Rattle.std.specs.Str.{encode_utf8_all}
use Rattle.ls_text.specs.Lines.{lines, max_bytes}
use Rattle.ls_text.specs.declared.fault.TextFault.{TextFault}
use Rattle.ls_text.specs.declared.fault.TextFault.TheVariants.{Memory, TooLarge}
use Rattle.origins.specs.Origins.{characters}
use Rattle.published_blocks.specs.declared.found.Published.{Published}
use Rattle.published_blocks.specs.declared.reading.Reading.{Reading}
use Rattle.published_blocks.specs.declared.run.Run.{Run}
use Rattle.published_blocks.specs.Published.{AreFoundIn, IsFoundBy, IsTooLarge, found_with}
use Rattle.published_blocks.specs.Runs.{published_runs, runs_from}

-- What is found in this run has come.
pub record AddsFound (run : Run) (old new : Published) : Type 0 where
  pub found : Published
  pub is : IsFoundBy run.lead run found
  pub new_is : new ≡ found_with old found

-- What is found in these runs has come.
pub record AddsRuns (runs : List Run) (old new : Published) : Type 0 where
  pub found : Published
  pub are : AreFoundIn runs found
  pub new_is : new ≡ found_with old found

-- Why the blocks of a run aren't counted: memory was refused, or it is larger than a text may be.
abbrev pub IsNotCounted : Run → TextFault → Type 0
IsNotCounted run Memory = Unit {0}
IsNotCounted run TooLarge = max_bytes < length (encode_utf8_all (characters run.block))

-- Why nothing is said of a run: memory was refused, or it begins as a rule does and is too large.
abbrev pub IsRefusedRun : Run → TextFault → Type 0
IsRefusedRun run Memory = Unit {0}
IsRefusedRun run TooLarge = IsTooLarge run

-- Why nothing is said of these runs: that holds of one of them.
abbrev pub RunsAreRefused : List Run → TextFault → Type 0
RunsAreRefused runs Memory = Unit {0}
RunsAreRefused runs TooLarge = (run : Run) × Contains runs run × IsTooLarge run

-- A text is read up to this line: what is found so far is what its runs before have, and the others follow from what is read.
pub record IsReadUpTo (text : List ℕ) (at : ℕ) (reading : Reading) (found : Published) : Type 0 where
  pub done : List Run
  pub are : AreFoundIn done found
  pub split : published_runs text ≡ done ++ runs_from text reading at (drop at (lines text))
