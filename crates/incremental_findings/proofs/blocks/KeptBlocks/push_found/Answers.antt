use Rattle.std.proofs.Common.{◌∙◌, Result, Ok, Err, OnOk, ap, arith, subst}
use Rattle.findings_index.specs.Outcomes.{FindsAt}
use Rattle.findings_index.specs.Stored.{Stored}
use Rattle.incremental_findings.proofs.FindLaws.{finds_in, kept_there, tolds_count}
use Rattle.incremental_findings.proofs.blocks.KeptBlocks.push_found.Goals as goal

on_ok : {A E P Q : Type 0} (result : Result A E) → OnOk result P → (P → Q) → OnOk result Q
on_ok (Ok a) p f = f p
on_ok (Err e) p f = tt

pub of-requires : goal.of-requires
of-requires c =
    (kept_there c.args.sheet.now c.args.self.now c.args.at c.blocks-2.result.now _ (c.blocks-2.ensures ∙ ap (λ (s : Stored). s.kept) c.self.view_is) c.requires.kept c.requires.within).1

pub push_found-requires : goal.push_found-requires
push_found-requires c = omega (arith, tolds_count c.args.sheet.now c.args.self.now c.args.outcome.now c.requires.kept c.requires.outcome, c.requires.within)

pub returns : goal.returns
returns c =
    let there =
    (kept_there c.args.sheet.now c.args.self.now c.args.at c.blocks-2.result.now _ (c.blocks-2.ensures ∙ ap (λ (s : Stored). s.kept) c.self.view_is) c.requires.kept c.requires.within).0
    in
    on_ok c.push_found.result c.push_found.ensures (λ finds.
    finds_in c.args.sheet.now c.args.self.now c.args.outcome.now c.args.at c.args.found.now c.push_found.new.found _ c.in_ok-block.block c.in_ok-section.section there
    c.requires.within c.in_ok-block.ensures.items c.in_ok-block.ensures.some c.in_ok-section.ensures
    (subst (λ (s : Stored). FindsAt s c.args.outcome.now c.args.at c.in_ok-section.section c.args.found.now c.push_found.new.found) c.self.view_is finds))
