use Rattle.std.proofs.Common.{◌≡◌, ◌++◌, encode_utf8_all, string_bytes}
use Rattle.draft_grammars.proofs.places.push_front.Given as goal

abbrev pub invariant-loop-c : goal.invariant-loop-c
invariant-loop-c l = string_bytes l.to ≡ string_bytes l.initial.to ++ encode_utf8_all l.yielded
