use Rattle.std.proofs.Common.{◌∙◌, Bool, Vec, Global, sym}
use Rattle.findings_index.specs.own.Ways.{AreHeadsLedFor, AreLeadingMarksFor}
use Rattle.findings_index.proofs.HeadsLed.{found_more, heads_hold, heads_led}
use Rattle.findings_index.proofs.settling.lead.Goals as goal

pub returns-then-one_is_unmarked : goal.returns-then-one_is_unmarked
returns-then-one_is_unmarked c =
    let table = c.args.names.now in
    let words = c.args.swept.now.words.now in
    let blocks = c.args.swept.now.blocks.now in
    let roles = c.args.swept.now.roles.now in
    let held = c.args.held.now in
    let All : Vec Bool Global → Type 0 = λ v. AreLeadingMarksFor table words blocks roles v.items in
    let Heads : Vec Bool Global → Type 0 = λ v. AreHeadsLedFor table words blocks roles held v.items in
    found_more All Heads (λ v. heads_led table words blocks roles held v.items) c.leading_marks.result c.leading_marks.ensures

pub returns-else-one_is_unmarked : goal.returns-else-one_is_unmarked
returns-else-one_is_unmarked c =
    heads_hold c.args.names.now c.args.swept.now.words.now c.args.swept.now.blocks.now c.args.swept.now.roles.now c.args.held.now c.new.result.items
    (sym c.one_is_unmarked.ensures ∙ c.if-one_is_unmarked.false)
