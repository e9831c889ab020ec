use Rattle.std.proofs.Common.{◌∙◌, ◌++◌, [], ap, append_assoc, arith, sym}
use Rattle.std.specs.Prelude.{flat_map, slice_get, slice_range, string_bytes}
use Rattle.std.specs.Option.{option_map_or}
use Rattle.std.specs.Str.{chars}
use Rattle.ls_text.specs.Lines.{lines}
use Rattle.joined_grammars.specs.Joined.{with_break}
use Rattle.joined_grammars.proofs.LineLaws.{range_end, range_next}
use Rattle.joined_grammars.proofs.join.push_block.Goals as goal

pub loop-at-preserved : goal.loop-at-preserved
loop-at-preserved c =
    let ls = lines c.args.text.now in
    let first = c.args.block.now.first in
    let old = chars (string_bytes c.args.joined.now) in
    record {
      text = c.in_ok-push_line.ensures
          ∙ (ap (λ t. t ++ option_map_or with_break (slice_get ls c.loop-at.at) []) c.loop-at.invariant.text
          ∙ (append_assoc old (flat_map with_break (slice_range ls first c.loop-at.at)) (option_map_or with_break (slice_get ls c.loop-at.at) [])
          ∙ ap (λ t. old ++ t) (sym (range_next ls first c.loop-at.at c.loop-at.auto.at))));
      none = λ less. absurd (omega (arith, less, c.loop-at.auto.at, c.loop-at-test.true));
    }

pub returns : goal.returns
returns c =
    let ls = lines c.args.text.now in
    let block = c.args.block.now in
    c.loop-at.invariant.text ∙ ap (λ t. chars (string_bytes c.args.joined.now) ++ flat_map with_break t)
    (range_end ls block.first c.loop-at.at block.end c.loop-at-test.false c.loop-at.auto.at-end c.loop-at.invariant.none)
