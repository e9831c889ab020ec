use Rattle.std.proofs.Common.{◌≤◌, ◌+◌, get_or, ◌≡◌, ◌∷◌, suc, ap, arith}
use Rattle.std.specs.Prelude.{Some, None}
use Rattle.origins.specs.own.Runs.{first_run, origin_at}
use Rattle.origins.proofs.RunLaws.{last_within}
use Rattle.origins.proofs.PlaceLaws.{place_here, place_more}
use Rattle.origins.proofs.runs.place_in.Goals as goal

pub returns-in-Some : goal.returns-in-Some
returns-in-Some c =
    let next = get_or c.args.runs.now c.runs.next-index first_run in
    let within : next.begins ≤ c.args.count = last_within c.args.runs.now c.args.count c.runs.next-index first_run c.requires.within c.runs-test.true in
    place_more (origin_at c.args.runs.now) c.args.origin next.begins c.args.count c.in-Some.place within (place_here c.args.runs.now c.args.count c.args.origin c.runs.next-index next.begins c.runs.run (Some c.in-Some.place) c.requires (omega (arith, c.runs-test.true)) c.runs.invariant.here (λ more. omega arith) c.runs.invariant.before c.in-Some.ensures)

pub runs-preserved : goal.runs-preserved
runs-preserved c =
    let next = get_or c.args.runs.now c.runs.next-index first_run in
    record {
      here = ap (λ n. get_or (first_run ∷ c.args.runs.now) n first_run) (let e : suc c.runs.next-index ≡ c.runs.next-index + 1 = omega arith in e);
      before = place_here c.args.runs.now c.args.count c.args.origin c.runs.next-index next.begins c.runs.run None c.requires (omega (arith, c.runs-test.true)) c.runs.invariant.here (λ more. omega arith) c.runs.invariant.before c.in_default.ensures;
    }

pub returns : goal.returns
returns c =
    place_here c.args.runs.now c.args.count c.args.origin c.runs.next-index c.args.count c.runs.run c.place_of-2.result c.requires (omega (arith, c.runs.auto.next-index-end)) c.runs.invariant.here (λ more. absurd (omega (arith, more, c.runs-test.false))) c.runs.invariant.before c.place_of-2.ensures
