use Rattle.std.proofs.Common.{rules}
use Rattle.abnf_syntax.proofs.table.is_followed.Goals as goal

pub returns-then-begins_element : goal.returns-then-begins_element
returns-then-begins_element = search rules depth 3
