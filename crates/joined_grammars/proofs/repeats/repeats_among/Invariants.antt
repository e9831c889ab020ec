use Rattle.std.proofs.Common.{◌≡◌, ◌<◌, [], length, map, take}
use Rattle.std.specs.Prelude.{All}
use Rattle.joined_grammars.specs.Repeats.{definition, repeats_behind}
use Rattle.joined_grammars.specs.own.Firsts.{AreFirsts, definitions}
use Rattle.joined_grammars.proofs.repeats.repeats_among.Given as goal

abbrev pub invariant-loop-at : goal.invariant-loop-at
invariant-loop-at l = record {
  found : l.found ≡ repeats_behind [] (take l.at (map definition l.blocks));
  firsts : AreFirsts (take l.at (map definition l.blocks)) l.names (definitions l.blocks l.firsts);
  within : All (λ k. k < length l.blocks) l.firsts;
}
