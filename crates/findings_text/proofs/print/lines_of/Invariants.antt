use Rattle.std.proofs.Common.{◌≡◌, ◌++◌, map, drop}
use Rattle.std.specs.Prelude.{string_bytes}
use Rattle.ls_text.specs.declared.position.Encoding.TheVariants.{Utf32}
use Rattle.findings_text.specs.Sources.{asides_in, located}
use Rattle.findings_text.specs.Print.{shown_lines}
use Rattle.findings_text.proofs.print.lines_of.Given as goal

abbrev pub invariant-loop-one : goal.invariant-loop-one
invariant-loop-one l = record {
  text : l.ruler ≡ record { text = l.text; encoding = Utf32 };
  told : string_bytes l.lines ++ shown_lines ((asides_in l.source).0, l.left) (located l.source l.text) l.found.kept (map (λ name. name.now) l.found.names) l.file l.text (drop l.one-index l.reported)
      ≡ shown_lines (asides_in l.source) (located l.source l.text) l.found.kept (map (λ name. name.now) l.found.names) l.file l.text l.reported;
}
