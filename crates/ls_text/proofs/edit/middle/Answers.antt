use Rattle.std.proofs.Common.{◌-◌, ◌++◌, ap, sym, subst, ◌∙◌, take, drop}
use Rattle.std.specs.Str.{chars, IsUtf8, IsCharBoundary}
use Rattle.std.specs.String.{string_bytes}
use Rattle.std.proofs.lemmas.Str.{IsUtf8-take, IsUtf8-drop, IsUtf8-string_bytes, chars-nil}
use Rattle.ls_text.specs.Cut.{end_text, text_of}
use Rattle.ls_text.proofs.CutLaws.{chars_end}
use Rattle.ls_text.proofs.SpotLaws.{bytes_found, end_found, middle_chars}
use Rattle.ls_text.proofs.edit.middle.Goals as goal

pub split_at-requires : goal.split_at-requires
split_at-requires c =
    subst (λ bs. IsCharBoundary bs c.args.from.bytes) (bytes_found c.args.lines.now c.args.from.line c.line-first.result.0 c.line-first.ensures.in_range c.line-first.ensures.line_is ∙ sym c.text.ensures.bytes) c.requires.from.boundary

pub split_at-requires-2 : goal.split_at-requires-2
split_at-requires-2 c =
    subst (λ bs. IsCharBoundary bs c.args.to.bytes) (bytes_found c.args.lines.now c.args.to.line c.line-last.result.0 c.line-last.ensures.in_range c.line-last.ensures.line_is ∙ sym c.text-2.ensures.bytes) c.requires.to.boundary

pub returns : goal.returns
returns c =
    let from_bytes = bytes_found c.args.lines.now c.args.from.line c.line-first.result.0 c.line-first.ensures.in_range c.line-first.ensures.line_is ∙ sym c.text.ensures.bytes in
    let to_bytes = bytes_found c.args.lines.now c.args.to.line c.line-last.result.0 c.line-last.ensures.in_range c.line-last.ensures.line_is ∙ sym c.text-2.ensures.bytes in
    let from_at = subst (λ bs. IsCharBoundary bs c.args.from.bytes) from_bytes c.requires.from.boundary in
    let to_at = subst (λ bs. IsCharBoundary bs c.args.to.bytes) to_bytes c.requires.to.boundary in
    let front = c.split_at.ensures.front in
    let back = c.split_at-2.ensures.back in
    let front_utf8 = subst IsUtf8 (sym front) (IsUtf8-take c.text.result.now c.args.from.bytes c.text.utf8 from_at) in
    let back_utf8 = subst IsUtf8 (sym back) (IsUtf8-drop c.text-2.result.now c.args.to.bytes c.text-2.utf8 to_at) in
    let end_is = c.as_str.ensures ∙ ap end_text (c.end.ensures ∙ sym (end_found c.args.lines.now c.args.to.line c.line-last.result.0 c.line-last.ensures.in_range c.line-last.ensures.line_is)) in
    let start = c.in_ok-push_text.ensures ∙ ap (λ x. x ++ text_of (take (c.args.from.line - c.args.kept) (drop c.args.kept c.args.lines.now))) (ap chars c.new-text.ensures.bytes ∙ chars-nil) in
    ap chars (c.in_ok-push_str-4.ensures.bytes ∙ ap (λ x. x ++ c.as_str.result.now) (c.in_ok-push_str-3.ensures.bytes ∙ ap (λ x. x ++ c.split_at-2.result.1.now) (c.in_ok-push_str-2.ensures.bytes ∙ ap (λ x. x ++ c.args.new.now) c.in_ok-push_str.ensures.bytes)))
    ∙ middle_chars (string_bytes c.push_text.new.text) c.split_at.result.0.now c.args.new.now c.split_at-2.result.1.now c.as_str.result.now (IsUtf8-string_bytes c.push_text.new.text) front_utf8 c.utf8.new back_utf8
    ∙ (λ i. start i ++ (chars ((front ∙ ap (take c.args.from.bytes) (sym from_bytes)) i) ++ (chars c.args.new.now ++ (chars ((back ∙ ap (drop c.args.to.bytes) (sym to_bytes)) i) ++ (ap chars end_is ∙ chars_end _) i))))
