use Rattle.std.proofs.Common.{◌≡◌, ◌+◌, ◌≤◌, ℕ, List, arith, length, refl, subst, sym}
use Rattle.abnf_token.specs.Classes.{Text}
use Rattle.abnf_syntax.specs.Blocks.{IsNextBlock}
use Rattle.abnf_syntax.specs.Items.{AreItems}
use Rattle.abnf_syntax.proofs.BlockLaws.{block_at}
use Rattle.findings_index.specs.declared.digest.BlockDigest.{BlockDigest}
use Rattle.findings_index.specs.KeptBlocks.{IsKeptOf}
use Rattle.findings_index.specs.Stored.{Stored}
use Rattle.incremental_findings.specs.declared.before.Before.{Before}
use Rattle.incremental_findings.specs.own.Reads.{HasDigests, IsBefore, IsBlockLike}
use Rattle.incremental_findings.proofs.CopiedBlocks.{copied_more, first_blocks, more_blocks, some_both, some_of}
use Rattle.incremental_findings.proofs.ReadLaws.{HasRead, none_read, read_more, all_read}
use Rattle.incremental_findings.proofs.blocks.read.Goals as goal

-- what is asked of the text before
abbrev Given : List Text → Stored → Before → Type 0
Given others s b = IsKeptOf b.sheet.now s × IsBefore others b × (b.to ≤ b.count) × (b.count ≡ length s.kept)

pub next_block-first-requires-clause-before : goal.next_block-first-requires-clause-before
next_block-first-requires-clause-before c =
    let others = c.args.sheet.now in
    let start = c.args.digests.now in
    some_of (Given others start) (λ (b : Before). IsBefore others b × HasDigests b.sheet.now b.count c.blocks-3.result.now) c.args.before c.requires.before
    (λ b g. (g.1, first_blocks b.sheet.now start start c.blocks-3.result.now b.count refl g.0 c.blocks-3.ensures g.3))

pub next_block-end-requires-clause-before : goal.next_block-end-requires-clause-before
next_block-end-requires-clause-before c =
    let others = c.args.sheet.now in
    let start = c.args.digests.now in
    some_of (Given others start) (λ (b : Before). IsBefore others b × HasDigests b.sheet.now b.count c.blocks-in-blocks-2.result.now) c.args.before c.requires.before
    (λ b g. (
      g.1,
      more_blocks b.sheet.now others c.args.from c.args.to c.blocks-2.first start c.blocks-2.digests c.blocks-in-blocks-2.result.now b.count g.0 c.blocks-2.invariant c.blocks-in-blocks-2.ensures g.3,
    ))

pub like-requires-clause-before : goal.like-requires-clause-before
like-requires-clause-before c = some_of (Given c.args.sheet.now c.args.digests.now) (IsBefore c.args.sheet.now) c.args.before c.requires.before (λ b g. g.1)

pub blocks-2-init : goal.blocks-2-init
blocks-2-init c = none_read c.args.sheet.now c.args.from c.args.to c.args.digests.now c.next_block-first.result c.next_block-first.ensures

pub of-requires : goal.of-requires
of-requires c =
    block_at c.args.sheet.now c.blocks-2.first c.args.to c.next_block-end.result c.requires.seams.1 (c.blocks-2.invariant.begins c.blocks-2-test.true) c.next_block-end.ensures

pub blocks-2-preserved-in_ok-push_again : goal.blocks-2-preserved-in_ok-push_again
blocks-2-preserved-in_ok-push_again c =
    let others = c.args.sheet.now in
    let first = c.blocks-2.first in
    let end = c.next_block-end.result in
    let at = c.in-Some-like.at in
    let both =
    some_both (Given c.args.sheet.now c.args.digests.now)
    (λ (b : Before). IsBlockLike b.sheet.now b.to c.blocks-in-blocks-2-2.result.now others first end at) c.args.before c.requires.before c.in-Some-like.ensures
    in
    let before = both.0 in
    let like : IsBlockLike before.sheet.now before.to c.blocks-2.digests.kept others first end at =
    subst (λ (ks : List BlockDigest). IsBlockLike before.sheet.now before.to ks others first end at) c.blocks-in-blocks-2-2.ensures both.2
    in
    copied_more before.sheet.now others c.args.from c.args.to c.args.digests.now c.blocks-2.digests first end at before.to both.1.0 (omega (arith, both.1.2, both.1.3)) c.blocks-2.invariant like
    c.blocks-2-test.true c.requires.seams.1 c.next_block-end.ensures c.push_again.new.self c.in_ok-push_again.ensures.ok

pub blocks-2-preserved : goal.blocks-2-preserved
blocks-2-preserved c =
    let block = c.in_ok-block.block in
    let ends : block.end ≡ c.next_block-end.result = c.in_ok-block.ensures.lines.1 in
    subst (λ (end : ℕ). HasRead c.args.sheet.now c.args.from c.args.to c.args.digests.now end c.push.new.self) ends
    (read_more c.args.sheet.now c.args.from c.args.to c.args.digests.now c.blocks-2.first block c.blocks-2.digests c.push.new.self c.in_ok-section.section c.blocks-2.invariant
    c.blocks-2-test.true c.requires.seams.1 c.in_ok-block.ensures.lines.0
    (subst (λ (end : ℕ). IsNextBlock c.args.sheet.now (c.blocks-2.first + 1) c.args.to end) (sym ends) c.next_block-end.ensures)
    (subst (λ (end : ℕ). AreItems c.args.sheet.now c.blocks-2.first end block.items) (sym ends) c.in_ok-block.ensures.items) c.in_ok-block.ensures.some c.in_ok-section.ensures
    c.in_ok-push.ensures)

pub returns-clause-added : goal.returns-clause-added
returns-clause-added c = λ t.
    all_read c.args.sheet.now c.args.from c.args.to c.args.digests.now c.blocks-2.first c.blocks-2.digests c.blocks-2.invariant (omega (arith, c.blocks-2-test.false))
