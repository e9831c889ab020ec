use Rattle.std.proofs.Common.{◌≡◌, ◌+◌, ◌∷◌, ap, length, get_or, arith, ◌∙◌}
use Rattle.origins.specs.own.Runs.{origin_at, first_run}
use Rattle.origins.proofs.RunLaws.{origin_at_goes_on, origin_at_push, origin_at_push_before}
use Rattle.origins.proofs.runs.continue_at.Goals as goal

pub returns-in_ok-push-clause-before : goal.returns-in_ok-push-clause-before
returns-in_ok-push-clause-before c k lt = ap (λ rs. origin_at rs k) c.in_ok-push.ensures.items ∙ origin_at_push_before c.args.runs.now.items (record { begins = c.args.count; origin = c.args.at }) k lt

pub returns-in_ok-push-clause-behind : goal.returns-in_ok-push-clause-behind
returns-in_ok-push-clause-behind c k =
    ap (λ rs. origin_at rs (c.args.count + k)) c.in_ok-push.ensures.items ∙ origin_at_push c.args.runs.now.items (record { begins = c.args.count; origin = c.args.at }) k c.requires.runs

pub returns-else-origin_of-at-clause-behind : goal.returns-else-origin_of-at-clause-behind
returns-else-origin_of-at-clause-behind c k =
    origin_at_goes_on c.args.runs.now.items c.last_of-last.result c.args.count c.args.at k c.requires.runs
    (c.last_of-last.ensures ∙ ap (λ rs. get_or (first_run ∷ rs) c.len.result first_run) c.deref.ensures.value ∙ ap (λ n. get_or (first_run ∷ c.args.runs.now.items) n first_run) (let e : c.len.result ≡ length c.args.runs.now.items = omega (arith, c.len.ensures, c.args.runs.now.ok.0) in e))
    (omega (arith, c.if-origin_of-at.false, c.origin_of.ensures))
