use Rattle.abnf_digests.proofs.GistLaws.{gists_alike}
use Rattle.abnf_digests.proofs.laws.gists_yield_alike.Goals as goal

pub returns : goal.returns
returns c = gists_alike
