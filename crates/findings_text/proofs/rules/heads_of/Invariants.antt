use Rattle.std.proofs.Common.{◌≡◌, ◌<◌, length}
use Rattle.std.specs.Prelude.{All}
use Rattle.findings_text.proofs.HeadLaws.{AreFound}
use Rattle.findings_text.proofs.rules.heads_of.Given as goal

abbrev pub invariant-loop-spot : goal.invariant-loop-spot
invariant-loop-spot l = record {
  found : AreFound l.grammar.names l.spot-items l.told l.spot-index l.heads;
  within : All (λ head. head.rule < length l.grammar.rules) l.heads;
  count : length l.told ≡ length l.grammar.rules;
}
