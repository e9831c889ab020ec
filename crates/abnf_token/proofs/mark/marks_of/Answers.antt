use Rattle.std.proofs.Common.{sym, ◌∙◌, ap, ◌++◌, List}
use Rattle.abnf_token.specs.declared.mark.TokenMark.{TokenMark}
use Rattle.abnf_token.proofs.mark.marks_of.Goals as goal

pub returns : goal.returns
returns c line =
    let is = c.in_ok-push_marks.ensures.2 in
    let found = c.in_ok-push_marks.ensures.1 line in
    (found.0, found.1, (found.2 ∙ sym (is ∙ ap (λ (old : List TokenMark). old ++ c.in_ok-push_marks.ensures.0) c.new-marks.ensures.items)))
