use Rattle.std.proofs.Common.{length}
use Rattle.findings_index.proofs.HeadMarks.{AreRolesUpTo}
use Rattle.findings_index.proofs.heads.roles.Given as goal

abbrev pub invariant-loop-block : goal.invariant-loop-block
invariant-loop-block l = AreRolesUpTo (length l.names) l.blocks l.block-index l.seen.items l.based.items l.roles.items
