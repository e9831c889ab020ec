use Rattle.std.proofs.Common.{List, sym, subst, ◌∙◌}
use Rattle.serde_json.specs.declared.value.Value.{Value}
use Rattle.ls_text.specs.declared.edit.Edit.{Edit}
use Rattle.ls_session.proofs.Changes.{Found, Found_start, Found_some, Found_none, Found_end}
use Rattle.ls_session.proofs.params.edits.Goals as goal

pub loop-value-init : goal.loop-value-init
loop-value-init c =
    let P : List Value → Type 0 = λ rest. Found c.args.values.items rest c.new-found.result in
    let Q : List Edit → Type 0 = λ found. Found c.args.values.items c.args.values.items found in
    subst P (sym c.into_iter-value-iterator.ensures.into_iter_gives.0) (subst Q (sym c.new-found.ensures) (Found_start c.args.values.items))

pub loop-value-preserved : goal.loop-value-preserved
loop-value-preserved c =
    let so_far = subst (λ (rest : List Value). Found c.args.values.items rest c.loop-value.found) c.in-Some.ensures.steps.0 c.loop-value.invariant in
    let more = Found_some c.args.values.items c.next.new.self.rest.items c.in-Some.value c.loop-value.found c.in-Some-edit.edit so_far (sym c.edit.ensures ∙ c.in-Some-edit.is) in
    subst (λ (found : List Edit). Found c.args.values.items c.next.new.self.rest.items found) (sym c.in_ok-push-in-Some-edit.ensures.ok) more

pub returns-in-None-edit : goal.returns-in-None-edit
returns-in-None-edit c =
    let so_far = subst (λ (rest : List Value). Found c.args.values.items rest c.loop-value.found) c.in-Some.ensures.steps.0 c.loop-value.invariant in
    sym (Found_none c.args.values.items c.next.new.self.rest.items c.in-Some.value c.loop-value.found so_far (sym c.edit.ensures ∙ c.in-None-edit.is))

pub returns : goal.returns
returns c =
    let iterator = c.loop-value.value-iterator in
    sym (Found_end c.args.values.items iterator.rest.items c.loop-value.found (sym iterator.rest.ok.0 ∙ c.in-None.ensures.steps.0) c.loop-value.invariant)
