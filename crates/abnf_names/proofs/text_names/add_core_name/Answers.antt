use Rattle.std.proofs.Common.{rules}
use Rattle.abnf_names.proofs.text_names.add_core_name.Goals as goal

pub returns-else-is_core_name : goal.returns-else-is_core_name
returns-else-is_core_name = search rules depth 4
