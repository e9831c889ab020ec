use Rattle.abnf_token.proofs.Closing.{no_close_after}
use Rattle.abnf_token.proofs.scan.may_close_after.Goals as goal

pub returns-then-may_close : goal.returns-then-may_close
returns-then-may_close c = no_close_after c.args.kind c.args.text.now c.as_bytes.result.now c.args.rest.now c.requires.next c.in-Bad.is c.as_bytes.ensures.value
