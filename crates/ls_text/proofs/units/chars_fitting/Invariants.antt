use Rattle.std.proofs.Common.{◌≡◌, ◌+◌, length, take, drop}
use Rattle.std.specs.Str.{chars, encode_utf8_all}
use Rattle.ls_text.specs.Lines.{fitting, units}
use Rattle.ls_text.proofs.units.chars_fitting.Given as goal

abbrev pub invariant-loop-c : goal.invariant-loop-c
invariant-loop-c l = record {
  yielded : l.count ≡ length l.yielded;
  so_far : l.count + fitting (units l.encoding) (drop l.count (chars l.text)) l.left ≡ fitting (units l.encoding) (chars l.text) l.limit;
  bytes : l.bytes ≡ length (encode_utf8_all (take l.count (chars l.text)));
}
