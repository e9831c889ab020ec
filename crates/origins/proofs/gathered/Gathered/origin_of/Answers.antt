use Rattle.std.proofs.Common.{◌<◌, ◌≤◌, ◌^◌, ap, sym, ◌∙◌, length, subst, arith}
use Rattle.std.specs.Prelude.{Some, string_bytes}
use Rattle.std.specs.Option.{option_map}
use Rattle.std.specs.List.{slice_get}
use Rattle.std.specs.Str.{chars}
use Rattle.origins.specs.declared.runs.Run.{Run}
use Rattle.origins.specs.Origins.{Sourced}
use Rattle.origins.specs.own.Runs.{origin_at, origin_by, run_at, first_run}
use Rattle.origins.proofs.RunLaws.{origin_fits, placed_at_start, placed_past, run_at_begins, string_small}
use Rattle.origins.proofs.gathered.Gathered.origin_of.Goals as goal

pub origin_of-requires-clause-from : goal.origin_of-requires-clause-from
origin_of-requires-clause-from c =
    subst (λ (r : Run). r.begins ≤ c.args.offset) (sym (c.run_of.ensures ∙ ap (λ rs. run_at first_run rs c.args.offset) c.as_slice.ensures.value)) (run_at_begins first_run c.self.inside.runs.items c.args.offset (omega arith))

pub origin_of-requires-clause-fits : goal.origin_of-requires-clause-fits
origin_of-requires-clause-fits c =
    let small : c.args.offset < 2 ^ 63 = omega (arith, c.if-offset-self.true, c.self.invariant.counted, string_small c.self.inside.text) in
    subst (λ (r : Run). origin_by r c.args.offset < 2 ^ 64) (sym (c.run_of.ensures ∙ ap (λ rs. run_at first_run rs c.args.offset) c.as_slice.ensures.value)) (origin_fits c.self.inside.runs.items c.self.inside.count c.args.offset c.self.invariant.runs small)

pub returns-then-offset-self : goal.returns-then-offset-self
returns-then-offset-self c =
    let inside : c.args.offset < length (chars (string_bytes c.self.inside.text)) = omega (arith, c.if-offset-self.true, c.self.invariant.counted) in
    ap Some (c.origin_of.ensures ∙ ap (λ (r : Run). origin_by r c.args.offset) (c.run_of.ensures ∙ ap (λ rs. run_at first_run rs c.args.offset) c.as_slice.ensures.value))
    ∙ sym (placed_at_start (origin_at c.self.inside.runs.items) (chars (string_bytes c.self.inside.text)) c.args.offset inside)
    ∙ ap (λ v. option_map (λ (s : Sourced). s.1) (slice_get v c.args.offset)) c.self.view_is

pub returns-else-offset-self : goal.returns-else-offset-self
returns-else-offset-self c =
    sym (placed_past (origin_at c.self.inside.runs.items) 0 (chars (string_bytes c.self.inside.text)) c.args.offset (omega (arith, c.if-offset-self.false, c.self.invariant.counted)))
    ∙ ap (λ v. option_map (λ (s : Sourced). s.1) (slice_get v c.args.offset)) c.self.view_is
