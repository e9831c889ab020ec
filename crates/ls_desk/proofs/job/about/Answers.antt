use mir.Val.{to_z, of_z}
use Rattle.std.proofs.Common.{◌≡◌, false, rules, w64}
use Rattle.ls_desk.proofs.job.about.Goals as goal

pub returns : goal.returns
returns c =
    let document = c.args.document.now in
    let label : to_z w64 (of_z w64 c.args.document.now.label) ≡ c.args.document.now.label = search rules in
    λ i. record {
      ticket = c.args.ticket;
      ask = c.args.ask;
      uri = c.in_ok-copy.ensures i;
      version = document.version;
      label = label i;
      text = c.in_ok-again.ensures i;
      encoding = document.encoding;
      request = c.args.request;
      taken = false;
    }
