use Rattle.std.proofs.Common.{◌+◌, ◌-◌, length, arith, ap}
use Rattle.ls_text.specs.own.Chunks.{lines_behind}
use Rattle.ls_text.specs.declared.chunk.Chunk.{Chunk}
use Rattle.ls_text.proofs.AlikeLaws.{back_found, back_next, back_count, back_end}
use Rattle.ls_text.proofs.alike.same_back.Goals as goal

pub returns-then-same-len-clause-same : goal.returns-then-same-len-clause-same
returns-then-same-len-clause-same c =
    back_found lines_behind c.args.ours.now c.args.theirs.now (length c.args.ours.now - c.loop-passed.passed - 1) (length c.args.theirs.now - c.loop-passed.passed - 1) c.index-ours-ours.result c.index-theirs-theirs.result (omega arith) (omega arith) c.index-ours-ours.is c.index-theirs-theirs.is c.deref-our.result.now.lines c.deref-their.result.now.lines (ap (λ (k : Chunk). k.lines) c.deref-our.ensures) (ap (λ (k : Chunk). k.lines) c.deref-their.ensures) c.loop-passed.count c.same_back-same.result (length c.args.ours.now - c.loop-passed.passed) (length c.args.theirs.now - c.loop-passed.passed) (omega arith) (omega arith) c.loop-passed.invariant.same c.loop-passed.invariant.count c.same_back-same.ensures.same

pub loop-passed-preserved : goal.loop-passed-preserved
loop-passed-preserved c = record {
  same = back_next lines_behind c.args.ours.now c.args.theirs.now (length c.args.ours.now - c.loop-passed.passed - 1) (length c.args.theirs.now - c.loop-passed.passed - 1) c.index-ours-ours.result c.index-theirs-theirs.result (omega arith) (omega arith) c.index-ours-ours.is c.index-theirs-theirs.is c.deref-our.result.now.lines c.deref-their.result.now.lines (ap (λ (k : Chunk). k.lines) c.deref-our.ensures) (ap (λ (k : Chunk). k.lines) c.deref-their.ensures) c.loop-passed.count c.same_back-same.result (length c.args.ours.now - c.loop-passed.passed) (length c.args.theirs.now - c.loop-passed.passed) (omega arith) (omega arith) c.loop-passed.invariant.same c.loop-passed.invariant.count c.same_back-same.ensures.same (omega arith) (omega arith) _ _ (omega arith) (omega arith);
  count = back_count lines_behind c.args.ours.now c.args.theirs.now (length c.args.ours.now - c.loop-passed.passed - 1) (length c.args.theirs.now - c.loop-passed.passed - 1) c.index-ours-ours.result c.index-theirs-theirs.result (omega arith) (omega arith) c.index-ours-ours.is c.index-theirs-theirs.is c.deref-our.result.now.lines c.deref-their.result.now.lines (ap (λ (k : Chunk). k.lines) c.deref-our.ensures) (ap (λ (k : Chunk). k.lines) c.deref-their.ensures) c.loop-passed.count c.same_back-same.result (length c.args.ours.now - c.loop-passed.passed) (length c.args.theirs.now - c.loop-passed.passed) (omega arith) (omega arith) c.loop-passed.invariant.same c.loop-passed.invariant.count (omega (arith, c.same_back-same.ensures.same.ours)) (length c.args.ours.now - (c.loop-passed.passed + 1)) (omega arith);
  most = omega (arith, c.same_back-same.ensures.most);
}

pub returns-clause-same : goal.returns-clause-same
returns-clause-same c =
    back_end lines_behind c.args.ours.now c.args.theirs.now (length c.args.ours.now - c.loop-passed.passed) (length c.args.theirs.now - c.loop-passed.passed) _ c.loop-passed.invariant.same c.loop-passed.invariant.count
