use Rattle.std.proofs.Common.{refl, arith}
use Rattle.ls_text.proofs.AlikeLaws.{front_more}
use Rattle.ls_text.proofs.part.Part.same_front.Goals as goal

pub halves-preserved-then-are_same-2 : goal.halves-preserved-then-are_same-2
halves-preserved-then-are_same-2 c = record {
  order = omega arith;
  ours = c.halves.invariant.ours;
  theirs = c.halves.invariant.theirs;
  same = front_more c.args.self.now c.args.other.now c.halves.low _ (omega arith) (omega arith) (omega arith) c.halves.invariant.same (c.if-are_same-2.ensures refl);
}
