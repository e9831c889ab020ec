use Rattle.std.proofs.Common.{◌∙◌}
use Rattle.std.specs.Prelude.{string_bytes}
use Rattle.findings_text.proofs.Grown.{lack_line_grown}
use Rattle.findings_text.proofs.unread.push_lack.Goals as goal

pub returns : goal.returns
returns c =
    lack_line_grown c.args.file.now c.args.at c.args.lack
    (string_bytes c.args.lines.now) c.as_str.result.now c.lack_text.result.now c.lack_code.result.now
    (c.as_str.ensures.value ∙ c.in_ok-place.ensures) c.lack_text.ensures c.lack_code.ensures
    (string_bytes c.push_str.new.self) (string_bytes c.push_str-2.new.self) (string_bytes c.push_str-3.new.self) (string_bytes c.push_str-4.new.self)
    (string_bytes c.push_str-5.new.self) (string_bytes c.push_str-6.new.self) (string_bytes c.push_str-7.new.self)
    c.in_ok-push_str.ensures.bytes c.in_ok-push_str-2.ensures.bytes c.in_ok-push_str-3.ensures.bytes c.in_ok-push_str-4.ensures.bytes
    c.in_ok-push_str-5.ensures.bytes c.in_ok-push_str-6.ensures.bytes c.in_ok-push_str-7.ensures.bytes
