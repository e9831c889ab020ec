use Rattle.std.proofs.Common.{◌≡◌, ◌<◌, [], ◌∙◌, Option, Some, None, refl, ℕ, List, length, ap, sym, subst}
use Rattle.std.specs.Prelude.{replicate}
use Rattle.abnf_parts.specs.Part.{parts_of, root_number}
use Rattle.abnf_cert.specs.Accepted.{entry_at}
use Rattle.abnf_least.specs.declared.work.Task.{Task}
use Rattle.abnf_least.specs.own.Walk.{keep}
use Rattle.abnf_least.proofs.Draft.{IsDraft, left, first_draft, task_of, does_more}
use Rattle.abnf_least.proofs.walk.sentence.Goals as goal

none_only : {X : Type 0} (P : Option X → Type 0) → ((x : X) → P (Some x) → ⊥) → (y : Option X) → P y → y ≡ None
none_only P f None p = refl
none_only P f (Some x) p = absurd (f x p)

pub loop-task-init : goal.loop-task-init
loop-task-init c =
    let rules = c.args.grammar.now.rules in
    let es = c.args.entries.now in
    let first = keep (entry_at es) (root_number rules c.args.rule) [] in
    let count = length c.nodes.result.now in
    let places : c.as_mut_slice-places.result.now ≡ replicate count None = c.as_mut_slice-places.ensures.value ∙ c.in_ok-noted.ensures.items_if_clones_equal (none_only _ (λ x p. absurd p)) in
    let pushed : c.push.new.self ≡ first =
    c.in_ok-push.ensures ∙ ap (λ (x : List Task). keep (entry_at es) c.get.result x) c.new-work.ensures ∙ ap (λ (x : ℕ). keep (entry_at es) x []) (c.get.ensures ∙ c.root_of.ensures) in
    subst (λ (ts : List Task). IsDraft rules es c.args.rule ts c.new-text.result.items c.as_mut_slice-places.result.now) (sym pushed)
    (subst (λ (w : List ℕ). IsDraft rules es c.args.rule first w c.as_mut_slice-places.result.now) (sym c.new-text.ensures.items)
    (first_draft rules es c.requires.accepted c.args.rule c.requires.rule c.requires.below_top c.as_mut_slice-places.result.now count places c.nodes.ensures.one_each))

pub perform-requires-clause-task : goal.perform-requires-clause-task
perform-requires-clause-task c =
    task_of c.args.grammar.now.rules c.args.entries.now c.requires.accepted c.args.rule c.pop.new.self c.loop-task.text.items c.loop-task.places c.in-Some.task
    (subst (λ (ts : List Task). IsDraft c.args.grammar.now.rules c.args.entries.now c.args.rule ts c.loop-task.text.items c.loop-task.places) c.in-Some.ensures c.loop-task.invariant)

pub loop-task-smaller : goal.loop-task-smaller
loop-task-smaller c =
    let at = entry_at c.args.entries.now in
    let count = length (parts_of c.args.grammar.now.rules) in
    subst (λ (ts : List Task). left at count c.perform.new.work < left at count ts) (sym c.in-Some.ensures)
    (does_more c.args.grammar.now.rules c.args.entries.now c.requires.accepted c.args.rule c.pop.new.self c.loop-task.text.items c.loop-task.places c.in-Some.task
    c.perform.new.work c.perform.new.text.items c.perform.new.places c.in_ok-perform.ensures
    (subst (λ (ts : List Task). IsDraft c.args.grammar.now.rules c.args.entries.now c.args.rule ts c.loop-task.text.items c.loop-task.places) c.in-Some.ensures c.loop-task.invariant)).1

pub loop-task-preserved : goal.loop-task-preserved
loop-task-preserved c =
    (does_more c.args.grammar.now.rules c.args.entries.now c.requires.accepted c.args.rule c.pop.new.self c.loop-task.text.items c.loop-task.places c.in-Some.task
    c.perform.new.work c.perform.new.text.items c.perform.new.places c.in_ok-perform.ensures
    (subst (λ (ts : List Task). IsDraft c.args.grammar.now.rules c.args.entries.now c.args.rule ts c.loop-task.text.items c.loop-task.places) c.in-Some.ensures c.loop-task.invariant)).0
