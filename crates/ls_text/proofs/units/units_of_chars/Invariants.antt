use Rattle.std.proofs.Common.{◌≡◌, ◌+◌, length, take}
use Rattle.std.specs.Prelude.{sum_by}
use Rattle.std.specs.Str.{chars}
use Rattle.ls_text.specs.Lines.{units}
use Rattle.ls_text.proofs.units.units_of_chars.Given as goal

abbrev pub invariant-loop-c : goal.invariant-loop-c
invariant-loop-c l = record {
  counted : length l.yielded + l.left ≡ l.count;
  total_is : l.total ≡ sum_by (units l.encoding) (take (length l.yielded) (chars l.text));
}
