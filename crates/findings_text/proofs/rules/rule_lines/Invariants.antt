use Rattle.std.proofs.Common.{◌≡◌, map, take}
use Rattle.std.specs.Prelude.{string_bytes}
use Rattle.ls_text.specs.declared.position.Encoding.TheVariants.{Utf32}
use Rattle.findings_text.specs.Sources.{located}
use Rattle.findings_text.specs.Rules.{AreRuleLines, head_at}
use Rattle.findings_text.proofs.rules.rule_lines.Given as goal

abbrev pub invariant-loop-head : goal.invariant-loop-head
invariant-loop-head l = record {
  text : l.ruler ≡ record { text = l.grammar.text; encoding = Utf32 };
  told : AreRuleLines (located l.source l.grammar.text) l.file l.grammar (map head_at (take l.head-index l.heads)) (string_bytes l.lines);
}
