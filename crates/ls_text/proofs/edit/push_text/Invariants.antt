use Rattle.std.proofs.Common.{◌≡◌, ◌++◌, ◌-◌, take, drop}
use Rattle.std.specs.Str.{chars}
use Rattle.std.specs.String.{string_bytes}
use Rattle.ls_text.specs.Cut.{text_of}
use Rattle.ls_text.proofs.edit.push_text.Given as goal

abbrev pub invariant-loop-i : goal.invariant-loop-i
invariant-loop-i l = chars (string_bytes l.text) ≡ chars (string_bytes l.initial.text) ++ text_of (take (l.i - l.from) (drop l.from l.lines))
