use Rattle.std.proofs.Common.{◌≡◌, ◌∙◌, Bool, true, false, ap, sym}
use Rattle.std.specs.Prelude.{◌&&◌}
use Rattle.ls_workers.specs.Seats.{AreSame}
use Rattle.ls_workers.proofs.Compared.{still_same}
use Rattle.ls_workers.proofs.ended.Ended.compare_some.Goals.{then-compare_last, else-compare_last}
use Rattle.ls_workers.proofs.ended.Ended.compare_some.Goals as goal

pub loop-preserved : goal.loop-preserved
loop-preserved c =
    let before = c.loop.agree in
    let now = c.if-compare_last.agree in
    still_same (AreSame c.args.self.now) (AreSame c.loop.self) (AreSame c.compare_last.new.self) before c.compare_last.result now c.loop.invariant c.compare_last.ensures (elim c.if-compare_last.branch [
      | then-compare_last w ↦ (let is : c.compare_last.result ≡ true = cc in let stays : now ≡ before = cc in stays ∙ sym (ap (λ (b : Bool). b && before) is))
      | else-compare_last w ↦ (let is : c.compare_last.result ≡ false = cc in let none : now ≡ false = cc in none ∙ sym (ap (λ (b : Bool). b && before) is))
    ])
