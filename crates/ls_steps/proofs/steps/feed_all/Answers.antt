use Rattle.ls_frame.specs.Feeds.{contents_of}
use Rattle.ls_steps.proofs.Inputs.{fed_from}
use Rattle.ls_steps.proofs.steps.feed_all.Goals as goal

pub returns : goal.returns
returns c =
    fed_from c.args.framer.now c.args.bodies.now.items c.args.input.now c.feed-fed.new.self (contents_of c.feed-fed.new.out.items) c.feed-fed.result c.requires.start c.requires.none
    (c.is_memory.ensures c.if-is_memory.false) c.feed-fed.ensures.taken
