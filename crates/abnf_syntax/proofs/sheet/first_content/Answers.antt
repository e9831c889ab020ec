use Rattle.std.proofs.Common.{rules}
use Rattle.abnf_syntax.proofs.sheet.first_content.Goals as goal

pub returns-in-Some : goal.returns-in-Some
returns-in-Some = search rules depth 3
