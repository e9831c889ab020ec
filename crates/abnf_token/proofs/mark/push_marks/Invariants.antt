use Rattle.abnf_token.proofs.MarkLaws.{HasMarks}
use Rattle.abnf_token.proofs.mark.push_marks.Given as goal

abbrev pub invariant-loop-token : goal.invariant-loop-token
invariant-loop-token l = HasMarks l.text l.token-iterator l.initial.marks.items l.marks.items
