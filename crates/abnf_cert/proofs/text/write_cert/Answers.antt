use Rattle.std.proofs.Common.{◌++◌, ℕ, List, ap, ◌∙◌}
use Rattle.std.specs.Prelude.{string_bytes}
use Rattle.abnf_cert.specs.declared.entry.Entry.{Entry}
use Rattle.abnf_cert.specs.Text.{lines_from}
use Rattle.abnf_cert.proofs.Written.{one_more, all_written}
use Rattle.abnf_cert.proofs.text.write_cert.Goals as goal

pub loop-number-init : goal.loop-number-init
loop-number-init c = ap (λ (t : List ℕ). t ++ lines_from 0 c.entries-entry-items.result.now) c.new-text.ensures.bytes

pub loop-number-preserved : goal.loop-number-preserved
loop-number-preserved c =
    one_more c.entries-entry-items.result.now c.loop-number.number _ (string_bytes c.loop-number.text) (string_bytes c.push_line.new.text) (lines_from 0 c.entries-entry-items.result.now) c.loop-number-test.true c.loop-number.invariant c.in_ok-push_line.ensures

pub returns : goal.returns
returns c =
    all_written c.entries-entry-items.result.now c.loop-number.number (string_bytes c.loop-number.text) (lines_from 0 c.entries-entry-items.result.now) c.loop-number-test.false c.loop-number.invariant
    ∙ ap (λ (es : List Entry). lines_from 0 es) c.entries-entry-items.ensures
