use mir.Val.{to_z, of_z}
use Rattle.std.proofs.Common.{◌≡◌, rules, w64}
use Rattle.ls_machine.proofs.state.Waiting.copy.Goals as goal

pub returns : goal.returns
returns c =
    let job = c.args.self.now in
    let label : to_z w64 (of_z w64 c.args.self.now.label) ≡ c.args.self.now.label = search rules in
    λ i. record {
      ticket = job.ticket;
      ask = c.in_ok-copy.ensures.copy i;
      uri = c.in_ok-copy-2.ensures i;
      version = job.version;
      label = label i;
      text = c.in_ok-again.ensures i;
      encoding = job.encoding;
      request = c.in_ok-copied.ensures i;
      taken = job.taken;
    }
