use Rattle.std.proofs.Common.{rules}
use Rattle.joined_grammars.proofs.words.is_same_word.Goals as goal

pub returns-then-is_name-2 : goal.returns-then-is_name-2
returns-then-is_name-2 = search rules depth 3

pub returns-then-not-is_name : goal.returns-then-not-is_name
returns-then-not-is_name = search rules depth 3
