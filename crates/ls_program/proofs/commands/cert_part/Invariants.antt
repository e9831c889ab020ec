use Rattle.std.proofs.Common.{◌≡◌, drop}
use Rattle.ls_program.specs.Commands.{behind_empty_line}
use Rattle.ls_program.proofs.commands.cert_part.Given as goal

-- what follows the first empty line is found in the bytes that are left
abbrev pub invariant-loop-at : goal.invariant-loop-at
invariant-loop-at l = behind_empty_line 10 l.bytes ≡ behind_empty_line l.before (drop l.at l.bytes)
