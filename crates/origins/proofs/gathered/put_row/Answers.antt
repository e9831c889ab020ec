use Rattle.std.proofs.Common.{◌≡◌, ◌+◌, ◌^◌, ◌<◌, ◌≤◌, ◌++◌, ap, subst, sym, ◌∙◌, arith}
use Rattle.std.specs.Str.{chars}
use Rattle.origins.specs.declared.runs.Run.{Run}
use Rattle.origins.specs.own.Runs.{first_run, origin_by, run_at}
use Rattle.origins.proofs.RowLaws.{run_places}
use Rattle.origins.proofs.RunLaws.{origin_small, run_at_begins}
use Rattle.origins.proofs.gathered.put_row.Goals as goal

pub origin_of-requires-clause-from : goal.origin_of-requires-clause-from
origin_of-requires-clause-from c =
    let first = ap (run_at first_run c.args.runs.now) (let same : c.args.at ≡ c.args.at + 0 = omega arith in same) ∙ c.in-Some.ensures.1 0 c.in-Some.ensures.0 in
    subst (λ (r : Run). r.begins ≤ c.args.at) first (run_at_begins first_run c.args.runs.now c.args.at (omega arith))

pub origin_of-requires-clause-fits : goal.origin_of-requires-clause-fits
origin_of-requires-clause-fits c =
    let first = ap (run_at first_run c.args.runs.now) (let same : c.args.at ≡ c.args.at + 0 = omega arith in same) ∙ c.in-Some.ensures.1 0 c.in-Some.ensures.0 in
    subst (λ (r : Run). origin_by r c.args.at < 2 ^ 64) first (origin_small c.args.runs.now c.args.at c.requires.small_origins (omega (arith, c.requires.small)))

pub returns-in-Some : goal.returns-in-Some
returns-in-Some c =
    let first = ap (run_at first_run c.args.runs.now) (let same : c.args.at ≡ c.args.at + 0 = omega arith in same) ∙ c.in-Some.ensures.1 0 c.in-Some.ensures.0 in
    let low = subst (λ (r : Run). r.begins ≤ c.args.at) first (run_at_begins first_run c.args.runs.now c.args.at (omega arith)) in
    c.in_ok-copy.ensures
    ∙ ap (λ ds. c.args.to.now ++ ds) (sym (run_places c.args.runs.now c.in-Some.run' c.args.at c.origin_of.result (chars c.args.text.now) (λ k lt. c.in-Some.ensures.1 k (omega (arith, lt, c.requires.count))) low c.origin_of.ensures))
