use Rattle.std.proofs.Common.{◌∙◌}
use Rattle.std.specs.Prelude.{string_bytes}
use Rattle.abnf_names.specs.Places.{named_at}
use Rattle.findings_text.proofs.Grown.{rule_line_grown}
use Rattle.findings_text.proofs.rule_line.push_rule_line.Goals as goal

pub returns : goal.returns
returns c =
    rule_line_grown c.args.file.now (named_at c.args.head.now) c.args.shown.now c.args.at
    (string_bytes c.args.lines.now) c.as_str.result.now c.as_str-2.result.now
    (c.as_str.ensures.value ∙ c.in_ok-place.ensures) (c.as_str-2.ensures.value ∙ c.in_ok-known.ensures)
    (string_bytes c.push_str.new.self) (string_bytes c.push_str-2.new.self) (string_bytes c.push_str-3.new.self) (string_bytes c.push_str-4.new.self)
    (string_bytes c.push_str-5.new.self) (string_bytes c.push_str-6.new.self)
    c.in_ok-push_str.ensures.bytes c.in_ok-push_str-2.ensures.bytes c.in_ok-push_str-3.ensures.bytes c.in_ok-push_str-4.ensures.bytes
    c.in_ok-push_str-5.ensures.bytes c.in_ok-push_str-6.ensures.bytes
