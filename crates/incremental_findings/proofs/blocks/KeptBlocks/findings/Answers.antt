use Rattle.std.proofs.Common.{◌≡◌, ◌∙◌, ◌+◌, ◌<◌, List, ap, arith, length, subst, sym}
use Rattle.findings_index.specs.Outcomes.{IsOutcome, IsQuietAt}
use Rattle.findings_index.specs.Stored.{Stored}
use Rattle.abnf_lint.specs.declared.finding.Finding.{Finding}
use Rattle.incremental_findings.proofs.FindLaws.{AreFoundUpTo, loud_found, quiet_passed, rows_found}
use Rattle.incremental_findings.proofs.blocks.KeptBlocks.findings.Goals as goal
use Rattle.incremental_findings.proofs.blocks.KeptBlocks.findings.Goals.{else-not-is_quiet, then-not-is_quiet+in_ok-push_found}

pub is_quiet-requires : goal.is_quiet-requires
is_quiet-requires c = c.in_ok-outcome.ensures

pub push_found-requires : goal.push_found-requires
push_found-requires c =
    let are : c.blocks-at-end.result.now ≡ c.args.self.now.kept = c.blocks-at-end.ensures ∙ ap (λ (s : Stored). s.kept) c.self.view_is in
    record {
      kept = c.requires;
      outcome = subst (λ (s : Stored). IsOutcome s c.in_ok-outcome.outcome) c.self.view_is c.in_ok-outcome.ensures;
      within = omega (arith, c.loop-at-test.true, ap length are);
    }

pub loop-at-preserved : goal.loop-at-preserved
loop-at-preserved c =
    let ls = c.args.sheet.now in
    let s = c.args.self.now in
    let outcome = c.in_ok-outcome.outcome in
    let is : IsOutcome s outcome = subst (λ (s : Stored). IsOutcome s outcome) c.self.view_is c.in_ok-outcome.ensures in
    let are : c.blocks-at-end.result.now ≡ s.kept = c.blocks-at-end.ensures ∙ ap (λ (s : Stored). s.kept) c.self.view_is in
    let less : c.loop-at.at < length s.kept = omega (arith, c.loop-at-test.true, ap length are) in
    elim c.if-not-is_quiet.branch [
      | then-not-is_quiet+in_ok-push_found w ↦
          subst (λ (found : List Finding). AreFoundUpTo ls s outcome (c.loop-at.at + 1) found) (sym w.found-is)
          (loud_found ls s outcome c.loop-at.at c.loop-at.found c.requires is less c.loop-at.invariant w.push_found.new.found w.in_ok-push_found.ensures)
      | else-not-is_quiet w ↦
          let quiet : IsQuietAt s outcome c.loop-at.at = subst (λ (s : Stored). IsQuietAt s outcome c.loop-at.at) c.self.view_is (c.is_quiet.ensures w.if-not-is_quiet.false) in
          subst (λ (found : List Finding). AreFoundUpTo ls s outcome (c.loop-at.at + 1) found) (sym w.found-is)
          (quiet_passed ls s outcome c.loop-at.at c.loop-at.found c.requires is less c.loop-at.invariant quiet)
    ]

pub returns : goal.returns
returns c =
    let is : IsOutcome c.args.self.now c.in_ok-outcome.outcome = subst (λ (s : Stored). IsOutcome s c.in_ok-outcome.outcome) c.self.view_is c.in_ok-outcome.ensures in
    let are : c.blocks-at-end.result.now ≡ c.args.self.now.kept = c.blocks-at-end.ensures ∙ ap (λ (s : Stored). s.kept) c.self.view_is in
    rows_found c.args.sheet.now c.args.self.now c.in_ok-outcome.outcome c.loop-at.at c.loop-at.found c.requires is (omega (arith, c.loop-at-test.false, ap length are)) c.loop-at.invariant
