use Rattle.std.specs.Str.{chars}
use Rattle.std.specs.String.{string_bytes}
use Rattle.ls_text.proofs.ChunkLaws.{between_none, between_more}
use Rattle.ls_text.proofs.edit.push_text.Goals as goal

pub loop-i-init : goal.loop-i-init
loop-i-init c = between_none c.args.lines.now c.args.from (chars (string_bytes c.args.text.now))

pub loop-i-preserved : goal.loop-i-preserved
loop-i-preserved c = between_more c.args.lines.now c.args.from c.loop-i.i c.line-line.result.0 _ c.loop-i.auto.i c.line-line.ensures _ _ _ c.in_ok-push_line_text.ensures c.loop-i.invariant
