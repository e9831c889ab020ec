use Rattle.std.proofs.Common.{[], refl, ap, length, arith}
use Rattle.std.proofs.lemmas.Str.{encodes-chars}
use Rattle.ls_text.proofs.ruler.Counted.nothing.Goals as goal

pub returns-clause-counted : goal.returns-clause-counted
returns-clause-counted c width = record {
  front = [];
  parts = refl;
  bytes = refl;
  units = refl;
  utf8 = c.utf8.line;
  small = omega (arith, ap length (encodes-chars c.args.line.now c.utf8.line), c.requires);
}
