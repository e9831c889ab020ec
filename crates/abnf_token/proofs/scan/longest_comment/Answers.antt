use Rattle.abnf_token.proofs.Runs.{comment}
use Rattle.abnf_token.proofs.scan.longest_comment.Goals as goal

pub returns : goal.returns
returns c = comment c.args.bytes.now c.requires.some c.requires.first
