use Rattle.std.proofs.Common.{◌≡◌, ◌∙◌, ℕ, sym, arith}
use Rattle.std.proofs.lemmas.Bool.Decides.{nat_tests}
use Rattle.std.specs.Prelude.{◌↔◌, ◌==◌, IsTrue}
use Rattle.ls_workers.proofs.crew.is_once.Goals as goal

is_one : (n : ℕ) → IsTrue (n == 1) → n ≡ 1
is_one n t = grind (arith, nat_tests)

one_is : (n : ℕ) → n ≡ 1 → IsTrue (n == 1)
one_is n e = grind (arith, nat_tests)

once : (count number : ℕ) → count ≡ number → IsTrue (count == 1) ↔ (number ≡ 1)
once count number is = ((λ t. sym is ∙ is_one count t), (λ e. one_is count (is ∙ e)))

pub returns : goal.returns
returns g c = once c.count_of.result _ c.count_of.ensures
