use Rattle.std.proofs.Common.{ℕ, [], arith, refl, subst, sym}
use Rattle.abnf_syntax.specs.Blocks.{IsSeam}
use Rattle.abnf_syntax.proofs.BlockLaws.{end_seam}
use Rattle.findings_index.specs.KeptBlocks.{AreKept}
use Rattle.findings_index.specs.Stored.{Stored}
use Rattle.incremental_findings.specs.own.Reads.{AddsBetween}
use Rattle.incremental_findings.proofs.PartLaws.{seam_at_start}
use Rattle.incremental_findings.proofs.ReadLaws.{all_kept}
use Rattle.incremental_findings.proofs.blocks.KeptBlocks.of.Goals as goal

pub read-requires : goal.read-requires
read-requires c =
    let ls = c.args.sheet.now in
    record { order = omega arith; seams = (seam_at_start ls, subst (IsSeam ls) (sym c.count.ensures) (end_seam ls)); before = tt }

pub returns : goal.returns
returns c =
    let ls = c.args.sheet.now in
    all_kept ls c.new-digests.result c.read.new.digests (subst (λ (s : Stored). AreKept s [] []) (sym c.new-digests.ensures) tt)
    (subst (λ (to : ℕ). AddsBetween ls 0 to c.new-digests.result c.read.new.digests) c.count.ensures (c.in_ok-read.ensures.added (c.in_ok-read.ensures.unbounded refl)))
