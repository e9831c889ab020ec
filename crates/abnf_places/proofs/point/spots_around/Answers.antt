use Rattle.std.proofs.Common.{Result, Ok, Err, ◌+◌, map, sym, ap, subst, ◌∙◌, arith}
use Rattle.std.specs.Prelude.{OnErr}
use Rattle.std.proofs.lemmas.Result.{IfOk-weaker}
use Rattle.abnf_syntax.specs.Blocks.{IsNextBlock}
use Rattle.abnf_names.specs.Places.{named_at}
use Rattle.abnf_places.specs.own.Blocks.{places_on}
use Rattle.abnf_places.proofs.OneBlock.{begins_within}
use Rattle.abnf_places.proofs.Around.{block_there, none_there}
use Rattle.abnf_places.proofs.point.spots_around.Goals as goal

pub overflow_add-first : goal.overflow_add-first
overflow_add-first c = omega (arith, begins_within c.args.sheet.now c.in-Some.first c.in-Some.ensures.begins, c.count-count.ensures, c.count-count.type_inv)

pub returns-in-Some-clause-spots : goal.returns-in-Some-clause-spots
returns-in-Some-clause-spots c =
    let next = subst (λ n. IsNextBlock c.args.sheet.now (c.in-Some.first + 1) n c.next_block-end.result) c.count-count.ensures c.next_block-end.ensures in
    IfOk-weaker c.block_spots.result _ _
    (λ spots are. block_there c.args.sheet.now c.args.line c.in-Some.first c.next_block-end.result c.in-Some.ensures next (map named_at spots) are) c.block_spots.ensures

on_err : {A E P : Type 0} (result : Result A E) → P → OnErr result P
on_err (Ok a) p = tt
on_err (Err e) p = p

pub returns-in-Some-clause-memory : goal.returns-in-Some-clause-memory
returns-in-Some-clause-memory c = on_err c.block_spots.result (c.in-Some.first, c.in-Some.ensures.begins)

pub returns-in-None-clause-spots : goal.returns-in-None-clause-spots
returns-in-None-clause-spots c = λ blocks are. ap (λ spots. places_on c.args.line (map named_at spots)) c.new.ensures ∙ sym (none_there c.args.sheet.now c.args.line c.in-None.ensures blocks are)
