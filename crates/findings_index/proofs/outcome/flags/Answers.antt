use Rattle.std.proofs.Common.{rules}
use Rattle.findings_index.proofs.FlagLaws.{past_blocks, past_roles}
use Rattle.findings_index.proofs.outcome.flags.Goals as goal

pub returns-in_default : goal.returns-in_default
returns-in_default c =
    past_roles c.args.blocks.now c.loop-block.block-index c.args.roles.now c.loop-block.left.now c.args.held.now c.args.led.now c.loop-block.flags.items
    c.loop-block.invariant (search rules)

pub returns : goal.returns
returns c =
    past_blocks c.args.blocks.now c.loop-block.block-index c.args.roles.now c.loop-block.left.now c.args.held.now c.args.led.now c.loop-block.flags.items
    c.loop-block.invariant c.loop-block-test.false
