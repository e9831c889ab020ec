use Rattle.std.proofs.Common.{ap, sym, ◌∙◌, length, subst}
use Rattle.std.specs.Str.{chars}
use Rattle.std.proofs.lemmas.Str.{chars-nil}
use Rattle.origins.specs.own.Runs.{origin_at, placed, AreRuns}
use Rattle.origins.proofs.RunLaws.{no_runs}
use Rattle.origins.proofs.gathered.Gathered.new.Goals as goal

pub invariant_of-result : goal.invariant_of-result
invariant_of-result c = record { counted = sym (ap (λ bs. length (chars bs)) c.new.ensures.bytes ∙ ap length chars-nil); runs = subst (λ rs. AreRuns rs 0) (sym c.new-2.ensures.items) no_runs }

pub returns : goal.returns
unfolding placed
returns c = ap (λ bs. placed (origin_at c.new-2.result.items) 0 (chars bs)) c.new.ensures.bytes ∙ ap (placed (origin_at c.new-2.result.items) 0) chars-nil
