use Rattle.std.proofs.Common.{◌∙◌, ap, inl, length, sym}
use Rattle.ls_history.specs.Told.{outs_of}
use Rattle.ls_history.proofs.Histories.{beside_outs}
use Rattle.ls_workers.proofs.seats.WriterSeat.follow.Goals as goal

pub invariant_of-self : goal.invariant_of-self
invariant_of-self g c =
    let now = c.args.self.now in
    record {
      whole = c.audit.ensures.parts ∙ now.whole;
      all_left = c.audit.ensures.amount ∙ (c.audit.ensures.whole now.whole ∙ (c.requires ∙ sym (ap (λ log. length (outs_of log)) c.follow.ensures.seen)));
    }

pub returns-clause-outs : goal.returns-clause-outs
returns-clause-outs g c =
    let now = c.args.self.now in
    ap outs_of c.follow.ensures.seen
    ∙ beside_outs now.front c.args.history.now (inl c.follow.ensures.grows) (sym c.requires ∙ (sym (c.audit.ensures.whole now.whole) ∙ now.all_left))
