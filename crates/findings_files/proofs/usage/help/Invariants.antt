use Rattle.std.proofs.Common.{◌≡◌, ◌∷◌, map, take}
use Rattle.std.specs.Prelude.{string_bytes}
use Rattle.findings_files.specs.declared.ending.Ending.TheVariants.{Usage}
use Rattle.findings_files.specs.Endings.{line_of}
use Rattle.findings_files.specs.Help.{with_lines}
use Rattle.findings_files.proofs.usage.help.Given as goal

abbrev pub invariant-loop-line : goal.invariant-loop-line
invariant-loop-line l = string_bytes l.text ≡ with_lines (line_of Usage ∷ map (λ line. line.now) (take l.line-index l.line-items))
