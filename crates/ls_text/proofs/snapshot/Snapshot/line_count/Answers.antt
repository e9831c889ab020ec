use Rattle.std.proofs.Common.{◌+◌, sym, ap, ◌∙◌}
use Rattle.ls_text.specs.Lines.{line_ends}
use Rattle.ls_text.proofs.CutLaws.{line_ends_text_of}
use Rattle.ls_text.proofs.snapshot.Snapshot.line_count.Goals as goal

pub returns : goal.returns
returns c = c.len.ensures ∙ sym (line_ends_text_of c.self.inside.lines c.self.invariant.lines) ∙ ap (λ t. line_ends t + 1) c.self.view_is
