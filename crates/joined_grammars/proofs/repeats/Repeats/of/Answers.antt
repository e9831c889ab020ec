use Rattle.std.proofs.Common.{◌<◌, ◌∙◌, [], Result, Ok, Err, ap, arith, length, map}
use Rattle.std.proofs.lemmas.List.{length-map}
use Rattle.std.specs.Prelude.{OnErr}
use Rattle.abnf_syntax.specs.Blocks.{line_texts}
use Rattle.abnf_syntax.specs.Bounds.{bounds}
use Rattle.joined_grammars.specs.Repeats.{definition, repeats_behind}
use Rattle.joined_grammars.proofs.RepeatLaws.{lines_ascend, some_begins}
use Rattle.joined_grammars.proofs.repeats.Repeats.of.Goals as goal

pub invariant_of-result : goal.invariant_of-result
invariant_of-result c =
    lines_ascend (line_texts c.args.text.now) c.in_ok-blocks.blocks.items c.in_ok-found.found c.in_ok-blocks.ensures.all
    (c.in_ok-found.ensures.found ∙ ap (λ bs. repeats_behind [] (map definition bs)) c.as_slice.ensures.value)

on_err : {A E P : Type 0} (result : Result A E) → P → OnErr result P
on_err (Ok a) p = tt
on_err (Err e) p = p

pub returns-in_err-found-clause-memory : goal.returns-in_err-found-clause-memory
returns-in_err-found-clause-memory c =
    let blocks = c.in_ok-blocks.blocks.items in
    let some : 0 < length (map bounds blocks) = omega (arith, c.in_err-found.ensures.memory, ap length c.as_slice.ensures.value, length-map blocks bounds) in
    on_err c.from_residual-in_err-found.result (some_begins (line_texts c.args.text.now) 0 (map bounds blocks) c.in_ok-blocks.ensures.all some)
