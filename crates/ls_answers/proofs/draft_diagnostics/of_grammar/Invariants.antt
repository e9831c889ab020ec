use Rattle.std.proofs.Common.{◌≡◌, map, take}
use Rattle.ls_text.specs.declared.position.Encoding.TheVariants.{Utf32}
use Rattle.origins.specs.Origins.{characters}
use Rattle.ls_answers.specs.DraftDiagnostics.{draft_diagnostic, standing}
use Rattle.ls_answers.proofs.draft_diagnostics.of_grammar.Given as goal

abbrev pub invariant-loop-reported : goal.invariant-loop-reported
invariant-loop-reported l = record {
  ruler : l.ruler ≡ record { text = characters l.places.grammar; encoding = Utf32 };
  given : l.given ≡ map (draft_diagnostic l.places) (standing l.places.fault (take l.reported-index l.reported));
}
