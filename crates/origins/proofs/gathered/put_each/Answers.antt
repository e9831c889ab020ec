use Rattle.std.proofs.Common.{◌^◌, ◌<◌, ◌≤◌, rules, ap, length, subst, sym, ◌∙◌, arith}
use Rattle.std.specs.Str.{chars}
use Rattle.origins.specs.declared.runs.Run.{Run}
use Rattle.origins.specs.own.Runs.{first_run, origin_at, origin_by}
use Rattle.origins.proofs.RowLaws.{placed_end, placed_next}
use Rattle.origins.proofs.RunLaws.{origin_small, run_at_begins}
use Rattle.origins.proofs.gathered.put_each.Goals as goal

pub returns-in_default : goal.returns-in_default
returns-in_default c = placed_end (origin_at c.args.runs.now) c.characters.at (chars c.characters.rest.now) c.characters.to c.in_default.ensures c.characters.invariant.so_far

pub origin_of-requires-clause-from : goal.origin_of-requires-clause-from
origin_of-requires-clause-from c =
    subst (λ (r : Run). r.begins ≤ c.characters.at) (sym c.run_of.ensures) (run_at_begins first_run c.args.runs.now c.characters.at (omega arith))

pub origin_of-requires-clause-fits : goal.origin_of-requires-clause-fits
origin_of-requires-clause-fits c =
    let small : c.characters.at < 2 ^ 63 = omega (arith, c.requires.small, c.characters.invariant.count) in
    subst (λ (r : Run). origin_by r c.characters.at < 2 ^ 64) (sym c.run_of.ensures) (origin_small c.args.runs.now c.characters.at c.requires.small_origins small)

pub characters-preserved : goal.characters-preserved
characters-preserved c =
    let place = c.origin_of.ensures ∙ ap (λ (r : Run). origin_by r c.characters.at) c.run_of.ensures in
    record {
      utf8 = search rules;
      count = omega (arith, c.characters.invariant.count, ap length c.in-Some.ensures);
      so_far = placed_next (origin_at c.args.runs.now) c.characters.at c.in-Some.c c.origin_of.result (chars c.in-Some.more.now) (chars c.characters.rest.now) c.characters.to c.put.new.self c.in-Some.ensures place c.in_ok-put.ensures c.characters.invariant.so_far;
    }
