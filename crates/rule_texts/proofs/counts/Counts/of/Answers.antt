use Rattle.std.proofs.Common.{◌<◌, Result, Ok, Err, ap, arith, length, map}
use Rattle.std.proofs.lemmas.List.{length-map}
use Rattle.std.specs.Prelude.{OnErr}
use Rattle.abnf_syntax.specs.Blocks.{line_texts}
use Rattle.abnf_syntax.specs.Bounds.{bounds}
use Rattle.joined_grammars.proofs.RepeatLaws.{some_begins}
use Rattle.rule_texts.proofs.counts.Counts.of.Goals as goal

on_err : {A E P : Type 0} (result : Result A E) → P → OnErr result P
on_err (Ok a) p = tt
on_err (Err e) p = p

pub returns-in_err-rules-clause-memory : goal.returns-in_err-rules-clause-memory
returns-in_err-rules-clause-memory c =
    let blocks = c.in_ok-blocks.blocks.items in
    let ls = line_texts c.args.text.now in
    let same = ap length c.as_slice.ensures.value in
    let some : 0 < length (map bounds blocks) = omega (arith, c.in_err-rules.ensures.memory, same, length-map blocks bounds) in
    on_err c.from_residual-in_err-rules.result (some_begins ls 0 (map bounds blocks) c.in_ok-blocks.ensures.all some)
