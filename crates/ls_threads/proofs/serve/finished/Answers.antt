use Rattle.std.proofs.Common.{◌∙◌, refl, sym}
use Rattle.ls_threads.proofs.Ends.{true_false}
use Rattle.ls_threads.proofs.Written.{told_none}
use Rattle.ls_threads.proofs.serve.finished.Goals as goal

pub returns-then-not-full-clause-told : goal.returns-then-not-full-clause-told
returns-then-not-full-clause-told g c = λ e. record { after = c.args.desk; told = told_none _ _ _; rest = λ q. true_false (sym q ∙ c.if-not-full.true); same = λ q. refl }
