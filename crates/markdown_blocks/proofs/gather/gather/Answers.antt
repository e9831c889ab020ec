use Rattle.std.proofs.Common.{◌≡◌, ◌+◌, length, length-append, ap, sym, refl, rules, ◌∙◌, arith}
use Rattle.std.specs.Str.{chars}
use Rattle.std.proofs.lemmas.Bool.{eqb-true}
use Rattle.markdown_blocks.specs.Fences.{placed_lines_from}
use Rattle.markdown_blocks.specs.Unread.{all_blocks, no_list}
use Rattle.markdown_blocks.specs.own.Reading.{line_len, with_blocks}
use Rattle.markdown_blocks.proofs.CutLaws.{line_lengths, no_chars}
use Rattle.markdown_blocks.proofs.FenceLaws.{end_open, end_outside, lines_split, next_lists, next_says, outside, positive}
use Rattle.markdown_blocks.specs.declared.reading.Reading.TheVariants.{Text}
use Rattle.markdown_blocks.proofs.ProseLaws.{passes_goes, passes_outside, prose_lines}
use Rattle.markdown_blocks.proofs.gather.gather.Goals as goal
use Rattle.markdown_blocks.proofs.gather.gather.Goals.{in-Block+in_ok-end_block, in_default}

pub read_line-requires : goal.read_line-requires
read_line-requires c =
    omega (arith, c.requires.small, c.lines.invariant.1, (line_lengths (chars c.lines.rest.now) _ _ c.first_line.ensures.line c.first_line.ensures.behind).0)

pub char_count-at-requires-in-lines : goal.char_count-at-requires-in-lines
char_count-at-requires-in-lines c is = (c.first_line.ensures.even (c.lines.invariant.3 is)).0

pub overflow_add-at-in-lines : goal.overflow_add-at-in-lines
overflow_add-at-in-lines c =
    omega (arith, c.requires.small, c.lines.invariant.1, c.char_count-at-in-lines.ensures, (line_lengths (chars c.lines.rest.now) _ _ c.first_line.ensures.line c.first_line.ensures.behind).0)

pub char_count-at-requires : goal.char_count-at-requires
char_count-at-requires c is = (c.prose.ensures.even (c.lines.invariant.3 is)).0

pub overflow_add-at : goal.overflow_add-at
overflow_add-at c =
    omega (arith, c.requires.small, c.lines.invariant.1, c.char_count-at.ensures, ap length c.prose.ensures.joins, length-append (chars c.prose.result.0.now) (chars c.prose.result.1.now))

pub lines-preserved-then-not-is_empty : goal.lines-preserved-then-not-is_empty
lines-preserved-then-not-is_empty c =
    let end = length (chars c.args.text.now) in
    let front = chars c.prose.result.0.now in
    let lines = chars c.prose.result.1.now in
    let some = c.prose.ensures.some (positive (length c.prose.result.0.now) (sym c.is_empty-then-passes.ensures ∙ c.if-not-is_empty.true)) in
    let passed = sym c.passes.ensures ∙ c.if-passes.true in (
      search rules,
      omega (arith, c.lines.invariant.1, c.char_count-at.ensures, ap length c.prose.ensures.joins, length-append front lines),
      (λ i. with_blocks c.lines.found (all_blocks end Text no_list (c.clear.ensures i) (placed_lines_from (c.lines.at + c.char_count-at.ensures i) lines)))
          ∙ ap (with_blocks c.lines.found) (sym (prose_lines end lines c.lines.at front c.lines.block c.lines.reading c.lines.beside (passes_outside c.lines.reading passed) (passes_goes c.lines.reading passed) c.prose.ensures.whole some c.prose.ensures.plain))
          ∙ ap (λ t. with_blocks c.lines.found (all_blocks end c.lines.reading c.lines.beside c.lines.block (placed_lines_from c.lines.at t))) (sym c.prose.ensures.joins)
          ∙ c.lines.invariant.2,
      λ is. (c.prose.ensures.even (c.lines.invariant.3 is)).1,
    )

pub lines-smaller : goal.lines-smaller
lines-smaller c = c.first_line.ensures.some (positive (length c.lines.rest.now) (sym c.is_empty.ensures ∙ c.lines-test.true))

pub lines-preserved : goal.lines-preserved
lines-preserved c =
    let text = chars c.args.text.now in
    let rest = chars c.lines.rest.now in
    let line = chars c.first_line.result.0.now in
    let behind = chars c.first_line.result.1.now in
    let less = c.first_line.ensures.some (positive (length c.lines.rest.now) (sym c.is_empty.ensures ∙ c.lines-test.true)) in
    let lengths = line_lengths rest line behind c.first_line.ensures.line c.first_line.ensures.behind in (
      search rules,
      omega (arith, c.lines.invariant.1, c.char_count-at-in-lines.ensures, lengths.0),
      ap (λ n. with_blocks c.read_line.new.found (all_blocks (length text) c.in_ok-reading.field-0-0 c.in_ok-reading.field-0-1 c.read_line.new.block (placed_lines_from (c.lines.at + n) behind))) c.char_count-at-in-lines.ensures
          ∙ c.in_ok-reading.ensures (length text) (placed_lines_from (c.lines.at + length line) behind) (next_says (c.lines.at + length line) behind) (next_lists (c.lines.at + length line) behind)
          ∙ ap (λ ls. with_blocks c.lines.found (all_blocks (length text) c.lines.reading c.lines.beside c.lines.block ls)) (lines_split c.lines.at (line_len rest) rest line behind (omega (arith, less)) refl c.first_line.ensures.line c.first_line.ensures.behind lengths.1)
          ∙ c.lines.invariant.2,
      λ is. (c.first_line.ensures.even (c.lines.invariant.3 is)).1,
    )

pub returns : goal.returns
returns c =
    let rest = chars c.lines.rest.now in
    let none : length rest ≡ 0 = no_chars c.lines.rest.now (eqb-true (length c.lines.rest.now) 0 (sym c.is_empty.ensures ∙ c.lines-test.false)) in
    let end = length (chars c.args.text.now) in
    elim c.match-reading.branch [
      | in-Block+in_ok-end_block w ↦ w.found-is ∙ w.in_ok-end_block.ensures ∙ end_open c.lines.found end c.lines.at c.lines.beside c.lines.block rest none c.lines.invariant.1 c.lines.reading w.in-Block.fence w.in-Block.is c.lines.invariant.2
      | in_default w ↦ w.found-is ∙ end_outside c.lines.found end c.lines.at c.lines.beside c.lines.block rest none c.lines.invariant.1 c.lines.reading (outside c.lines.reading w.in_default.not-Block) c.lines.invariant.2
    ]
