use Rattle.std.proofs.Common.{ap, sym, ◌∙◌, length, subst}
use Rattle.std.specs.Str.{chars}
use Rattle.std.proofs.lemmas.Str.{chars-nil}
use Rattle.origins.specs.own.Runs.{origin_at, placed, AreRuns}
use Rattle.origins.proofs.RunLaws.{no_runs}
use Rattle.origins.proofs.gathered.Gathered.clear.Goals as goal

pub invariant_of-self : goal.invariant_of-self
invariant_of-self c = record { counted = sym (ap (λ bs. length (chars bs)) c.clear.ensures.bytes ∙ ap length chars-nil); runs = subst (λ rs. AreRuns rs 0) (sym c.clear-2.ensures.items) no_runs }

pub returns : goal.returns
unfolding placed
returns c = ap (λ bs. placed (origin_at c.clear-2.new.self.items) 0 (chars bs)) c.clear.ensures.bytes ∙ ap (placed (origin_at c.clear-2.new.self.items) 0) chars-nil
