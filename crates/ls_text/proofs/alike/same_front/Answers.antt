use Rattle.std.proofs.Common.{refl, arith, ap}
use Rattle.ls_text.specs.own.Chunks.{lines_behind}
use Rattle.ls_text.specs.declared.chunk.Chunk.{Chunk}
use Rattle.ls_text.proofs.AlikeLaws.{front_found, front_next, front_count, front_end}
use Rattle.ls_text.proofs.alike.same_front.Goals as goal

pub overflow_add-count : goal.overflow_add-count
overflow_add-count c =
    omega (arith, c.requires, (front_found lines_behind c.args.ours.now c.args.theirs.now c.loop-place.place c.loop-place.place c.index-ours-place.result c.index-theirs-place.result (omega arith) (omega arith) c.index-ours-place.is c.index-theirs-place.is c.deref-our.result.now.lines c.deref-their.result.now.lines (ap (λ (k : Chunk). k.lines) c.deref-our.ensures) (ap (λ (k : Chunk). k.lines) c.deref-their.ensures) c.loop-place.count c.same_front-same.result refl c.loop-place.invariant.same c.loop-place.invariant.count c.same_front-same.ensures).ours)

pub returns-then-same-len : goal.returns-then-same-len
returns-then-same-len c =
    front_found lines_behind c.args.ours.now c.args.theirs.now c.loop-place.place c.loop-place.place c.index-ours-place.result c.index-theirs-place.result (omega arith) (omega arith) c.index-ours-place.is c.index-theirs-place.is c.deref-our.result.now.lines c.deref-their.result.now.lines (ap (λ (k : Chunk). k.lines) c.deref-our.ensures) (ap (λ (k : Chunk). k.lines) c.deref-their.ensures) c.loop-place.count c.same_front-same.result refl c.loop-place.invariant.same c.loop-place.invariant.count c.same_front-same.ensures

pub loop-place-preserved : goal.loop-place-preserved
loop-place-preserved c = record {
  same = front_next lines_behind c.args.ours.now c.args.theirs.now c.loop-place.place c.loop-place.place c.index-ours-place.result c.index-theirs-place.result (omega arith) (omega arith) c.index-ours-place.is c.index-theirs-place.is c.deref-our.result.now.lines c.deref-their.result.now.lines (ap (λ (k : Chunk). k.lines) c.deref-our.ensures) (ap (λ (k : Chunk). k.lines) c.deref-their.ensures) c.loop-place.count c.same_front-same.result refl c.loop-place.invariant.same c.same_front-same.ensures (omega arith) (omega arith);
  count = front_count lines_behind c.args.ours.now c.args.theirs.now c.loop-place.place c.loop-place.place c.index-ours-place.result c.index-theirs-place.result (omega arith) (omega arith) c.index-ours-place.is c.index-theirs-place.is c.deref-our.result.now.lines c.deref-their.result.now.lines (ap (λ (k : Chunk). k.lines) c.deref-our.ensures) (ap (λ (k : Chunk). k.lines) c.deref-their.ensures) c.loop-place.count c.same_front-same.result c.loop-place.invariant.count (omega (arith, c.same_front-same.ensures.ours));
}

pub returns : goal.returns
returns c = front_end lines_behind c.args.ours.now c.args.theirs.now c.loop-place.place _ c.loop-place.invariant.same c.loop-place.invariant.count
