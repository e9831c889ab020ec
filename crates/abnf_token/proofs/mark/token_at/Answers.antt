use Rattle.std.proofs.Common.{rules}
use Rattle.abnf_token.proofs.MarkLaws.{placed}
use Rattle.abnf_token.proofs.mark.token_at.Goals as goal

pub range-requires-clause-start_le_end : goal.range-requires-clause-start_le_end
range-requires-clause-start_le_end c = (placed c.args.text.now c.args.mark.now c.utf8.text c.requires).order

pub range-requires-clause-start_boundary : goal.range-requires-clause-start_boundary
range-requires-clause-start_boundary c = λ _. (placed c.args.text.now c.args.mark.now c.utf8.text c.requires).from

pub range-requires-clause-end_boundary : goal.range-requires-clause-end_boundary
range-requires-clause-end_boundary c = (placed c.args.text.now c.args.mark.now c.utf8.text c.requires).to

pub returns-clause-mark : goal.returns-clause-mark
returns-clause-mark = search rules depth 3

pub returns-clause-text : goal.returns-clause-text
returns-clause-text = search rules depth 3
