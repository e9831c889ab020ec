use Rattle.std.proofs.Common.{◌≡◌, ◌+◌, ◌-◌, ◌∙◌, ap, arith, length, take, drop}
use Rattle.ls_text.specs.own.Chunks.{byte_length}
use Rattle.ls_text.specs.Cut.{end_text}
use Rattle.ls_text.proofs.SizeLaws.{between_bytes, between_le}
use Rattle.ls_text.proofs.edit.bytes_between.Goals as goal

-- the bytes with those of one more line
more : (c : goal.After-len) → c.loop-i.bytes + (length c.text.result.now + c.len.result) ≡ byte_length (take (c.loop-i.i + 1 - c.args.from) (drop c.args.from c.args.lines.now))
more c =
    omega (
      arith,
      c.loop-i.invariant,
      between_bytes c.args.lines.now c.args.from c.loop-i.i c.line-line.result.0 c.line-line.result.1 c.loop-i.auto.i c.line-line.ensures,
      ap length c.text.ensures.bytes,
      c.len.ensures ∙ ap (λ e. length (end_text e)) c.end.ensures,
    )

pub overflow_add-bytes-in-loop-i : goal.overflow_add-bytes-in-loop-i
overflow_add-bytes-in-loop-i c = omega (arith, more c, between_le c.args.lines.now c.args.from (c.loop-i.i + 1 - c.args.from), c.requires.lines.small)

pub loop-i-preserved : goal.loop-i-preserved
loop-i-preserved c = more c
