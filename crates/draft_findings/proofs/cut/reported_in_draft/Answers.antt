use Rattle.std.proofs.Common.{◌≡◌, ◌∙◌, ◌≤◌, ap, sym, rules, arith}
use Rattle.std.specs.Prelude.{count_by}
use Rattle.draft_findings.specs.Ends as ends
use Rattle.draft_findings.specs.Reports as spec
use Rattle.draft_findings.proofs.FloodLaws.{few}
use Rattle.draft_findings.proofs.cut.reported_in_draft.Goals as goal

pub returns-then-fault_count-le-MOST_FAULTS : goal.returns-then-fault_count-le-MOST_FAULTS
returns-then-fault_count-le-MOST_FAULTS c =
    let all : c.as_slice.result.now ≡ c.in_ok-all.all = search rules in
    let le : count_by spec.is_fault c.in_ok-all.all ≤ 10 = omega (arith, c.if-fault_count-le-MOST_FAULTS.true, c.fault_count.ensures, ap (count_by spec.is_fault) all) in
    sym (few (ends.block_ends c.args.draft.now c.args.grammar.now) c.in_ok-all.all le)
    ∙ ap (spec.cut_at (ends.block_ends c.args.draft.now c.args.grammar.now)) c.in_ok-all.ensures
