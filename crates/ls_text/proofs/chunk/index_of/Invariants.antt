use Rattle.std.proofs.Common.{◌≡◌, ◌≤◌, take, length}
use Rattle.std.specs.Prelude.{All}
use Rattle.std.specs.Char.{IsScalar}
use Rattle.std.specs.Str.{encode_utf8_all}
use Rattle.ls_text.specs.Cut.{text_of, IsIndex}
use Rattle.ls_text.proofs.chunk.index_of.Given as goal

abbrev pub invariant-loop-at : goal.invariant-loop-at
invariant-loop-at l = record {
  index : IsIndex l.starts.items l.length (take l.at l.lines);
  bytes_is : l.bytes ≡ length (encode_utf8_all (text_of (take l.at l.lines)));
  small : l.bytes ≤ 4194304;
  within : l.length ≤ l.bytes;
  scalars : All IsScalar (text_of (take l.at l.lines));
}
