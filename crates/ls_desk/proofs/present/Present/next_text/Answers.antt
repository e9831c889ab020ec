use Rattle.std.proofs.Common.{◌∙◌}
use Rattle.std.proofs.Math.Facts.{to_z-of_z}
use Rattle.std.specs.Prelude.{Some}
use Rattle.ls_machine.specs.Machine.{diagnosis, measured}
use Rattle.ls_desk.proofs.present.Present.next_text.Goals as goal

pub returns : goal.returns
returns c =
    let now = c.args.self.now in
    let label = to_z-of_z c.ranges.label in
    let waiting = c.in_ok-waiting.ensures ∙ (λ i. diagnosis now.next_ticket (c.in_ok-copy.ensures i) now.next_version (label i) (measured c.args.encoding (c.in_ok-again.ensures i))) in
    λ i. Some (record {
      document = record {
        uri = c.in_ok-copy.ensures i;
        version = now.next_version;
        label = label i;
        text = c.in_ok-again.ensures i;
        encoding = c.args.encoding;
      };
      waiting = waiting i;
    })
