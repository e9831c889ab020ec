use Rattle.std.proofs.Common.{◌≡◌, ℕ, length, ap, arith}
use Rattle.std.specs.Prelude.{ℤ, Option, Some}
use Rattle.ls_machine.specs.declared.state.Request.{Request}
use Rattle.ls_desk.specs.Stands.{failed_to}
use Rattle.ls_desk.proofs.outs.put_failure.Goals as goal

one : (ticket : ℕ) (code : ℤ) (o : Option Request) (r : Request) → o ≡ Some r → length (failed_to ticket code o) ≡ 1
one ticket code o r is = ap (λ (x : Option Request). length (failed_to ticket code x)) is

pub push_back_reserved-requires : goal.push_back_reserved-requires
push_back_reserved-requires c = let here = one c.args.job.ticket c.args.code c.args.job.request _ c.in-Some.is in let r = c.requires in omega arith
