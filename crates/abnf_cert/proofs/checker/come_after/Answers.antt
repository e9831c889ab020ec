use Rattle.std.proofs.Common.{◌↔◌, IsTrue, subst, sym}
use Rattle.std.specs.List.{AllByRecursion}
use Rattle.std.proofs.lemmas.List.{take-map}
use Rattle.abnf_cert.specs.Accepted.{After, entry_at}
use Rattle.abnf_cert.proofs.checker.come_after.Goals as goal

pub returns : goal.returns
returns c =
    subst (λ es. IsTrue c.all_pass.result ↔ AllByRecursion (After c.args.least c.args.height) es) (sym (take-map (entry_at c.args.entries.now) c.args.choice c.args.numbers.now)) c.all_pass.ensures
