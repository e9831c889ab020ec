use Rattle.std.proofs.Common.{rules, sym, subst}
use Rattle.std.specs.Prelude.{IsTrue}
use Rattle.std.proofs.lemmas.List.{take_all}
use Rattle.std.proofs.lemmas.List.Elements.{All-more, All-same}
use Rattle.ls_workers.specs.Seats.{AreSame}
use Rattle.ls_workers.proofs.agree.ended_agree.Goals as goal

pub loop-at-preserved : goal.loop-at-preserved
loop-at-preserved c =
    let ended = c.args.ended.now in
    let at = c.loop-at.at in
    let agreed : IsTrue c.agrees.result = search rules in
    All-more AreSame ended at c.index-ended-at.result c.loop-at-test.true c.loop-at.invariant (subst AreSame c.index-ended-at.is (c.agrees.ensures.0 agreed))

pub returns : goal.returns
returns c =
    let ended = c.args.ended.now in
    let at = c.loop-at.at in
    ((λ t. All-same AreSame ended _ (sym (take_all at ended c.loop-at-test.false)) c.loop-at.invariant), (λ all. search rules))
