use Rattle.std.proofs.Common.{drop}
use Rattle.std.specs.Prelude.{string_bytes}
use Rattle.std.specs.Str.{chars}
use Rattle.joined_grammars.specs.own.Passes.{HasJoined, state}
use Rattle.joined_grammars.proofs.join.joined.Given as goal

abbrev pub invariant-loop-other : goal.invariant-loop-other
invariant-loop-other l =
    HasJoined l.others (drop l.other-index l.others) (state l.initial.names (chars (string_bytes l.initial.text))) (state l.names (chars (string_bytes l.text)))
