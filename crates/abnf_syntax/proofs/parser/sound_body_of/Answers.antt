use Rattle.std.proofs.Common.{◌≡◌}
use Rattle.abnf_syntax.specs.Machine.{run, shift, start, parser_state}
use Rattle.abnf_syntax.proofs.Goes.{next_goes, end_goes}
use Rattle.abnf_syntax.proofs.parser.sound_body_of.Goals as goal

pub loop-item-preserved : goal.loop-item-preserved
loop-item-preserved c =
    let shifted : parser_state c.shift.new.self ≡ shift (parser_state c.loop-item.parser) c.item-item.result = c.in_ok-shift.ensures in
    next_goes c.args.items.now c.loop-item.item-index c.item-item.result (parser_state c.loop-item.parser) (parser_state c.shift.new.self) (run (start c.args.defined) c.args.items.now)
    c.loop-item-test.true c.item-item.is c.loop-item.invariant c.requires shifted

pub returns : goal.returns
returns c =
    end_goes c.args.items.now c.loop-item.item-index (parser_state c.loop-item.parser) (run (start c.args.defined) c.args.items.now) c.loop-item-test.false c.loop-item.invariant c.requires c.finish.result c.finish.ensures
