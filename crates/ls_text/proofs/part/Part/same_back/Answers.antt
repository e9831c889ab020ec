use Rattle.std.proofs.Common.{refl, arith}
use Rattle.ls_text.proofs.AlikeLaws.{back_more}
use Rattle.ls_text.proofs.part.Part.same_back.Goals as goal

pub halves-preserved-then-are_same-2 : goal.halves-preserved-then-are_same-2
halves-preserved-then-are_same-2 c = record {
  order = omega arith;
  ours = c.halves.invariant.ours;
  theirs = c.halves.invariant.theirs;
  most = c.halves.invariant.most;
  same = back_more c.args.self.now c.args.other.now c.len-ours.result c.len-theirs.result c.halves.low _ c.len-ours.ensures c.len-theirs.ensures (omega arith) (omega arith) (omega arith) c.halves.invariant.same (c.if-are_same-2.ensures refl);
}
