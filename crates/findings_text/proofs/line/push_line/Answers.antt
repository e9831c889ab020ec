use Rattle.std.proofs.Common.{◌∙◌, ap, map}
use Rattle.std.specs.Prelude.{string_bytes}
use Rattle.abnf_lint.specs.Messages.{severity_of}
use Rattle.findings_text.specs.Print.{code_at, severity_text}
use Rattle.findings_text.proofs.Grown.{line_grown}
use Rattle.findings_text.proofs.line.push_line.Goals as goal

pub returns : goal.returns
returns c =
    line_grown (map (λ name. name.now) c.args.known.now) c.args.file.now c.args.reported.now c.args.at.begin c.args.at.original c.args.at.hint.now
    (string_bytes c.args.lines.now) c.as_str.result.now c.severity_text.result.now c.as_str-2.result.now c.code_at.result.now
    (c.as_str.ensures.value ∙ c.in_ok-place.ensures) (c.severity_text.ensures ∙ ap severity_text (c.severity.ensures ∙ ap (λ f. severity_of f.code) c.finding-finding.ensures)) (c.as_str-2.ensures.value ∙ c.in_ok-message.ensures) (c.code_at.ensures ∙ ap (code_at c.args.at.original) c.finding-finding.ensures)
    (string_bytes c.push_str.new.self) (string_bytes c.push_str-2.new.self) (string_bytes c.push_str-3.new.self) (string_bytes c.push_str-4.new.self)
    (string_bytes c.push_str-5.new.self) (string_bytes c.push_str-6.new.self) (string_bytes c.push_str-7.new.self) (string_bytes c.push_str-8.new.self)
    c.in_ok-push_str.ensures.bytes c.in_ok-push_str-2.ensures.bytes c.in_ok-push_str-3.ensures.bytes c.in_ok-push_str-4.ensures.bytes
    c.in_ok-push_str-5.ensures.bytes c.in_ok-push_str-6.ensures.bytes c.in_ok-push_str-7.ensures.bytes c.in_ok-push_str-8.ensures.bytes
