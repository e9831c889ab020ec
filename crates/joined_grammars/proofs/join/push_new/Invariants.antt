use Rattle.std.proofs.Common.{◌≡◌, ◌++◌, take}
use Rattle.std.specs.Prelude.{string_bytes}
use Rattle.std.specs.Str.{chars}
use Rattle.joined_grammars.specs.Joined.{new_text}
use Rattle.joined_grammars.proofs.join.push_new.Given as goal

abbrev pub invariant-loop-block : goal.invariant-loop-block
invariant-loop-block l = chars (string_bytes l.joined) ≡ chars (string_bytes l.initial.joined) ++ new_text l.names l.text (take l.block-index l.blocks)
