use Rattle.std.proofs.Common.{length}
use Rattle.std.proofs.lemmas.Bool.{leb-false}
use Rattle.abnf_cert.specs.Accepted.{entry_at}
use Rattle.abnf_least.proofs.Settle.{row_at_nothing}
use Rattle.abnf_least.proofs.offer.is_ready.Goals as goal

pub returns : goal.returns
returns c f =
    let within = leb-false (length c.args.parts.now) c.first_unsettled-at.result f in
    row_at_nothing (entry_at c.args.table.now) c.args.parts.now c.first_unsettled-at.result within (c.first_unsettled-at.ensures within)
