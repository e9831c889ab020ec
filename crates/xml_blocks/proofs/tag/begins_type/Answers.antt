use Rattle.std.proofs.Common.{rules}
use Rattle.xml_blocks.proofs.tag.begins_type.Goals as goal

pub returns-then-is_space : goal.returns-then-is_space
returns-then-is_space = search rules depth 3
