use Rattle.std.proofs.Common.{◌≡◌, ℕ, ◌<◌, ◌≤◌, Bool, true, false, cond, List, [], ◌∷◌, length, ap, arith, rules}
use Rattle.std.specs.Prelude.{Option, Some, find, is_some, not}
use Rattle.std.proofs.lemmas.Fn.{filter_same}
use Rattle.ls_machine.specs.declared.state.Document.{Document}
use Rattle.ls_machine.specs.Machine.{is_named, is_open, others}
use Rattle.std.proofs.lemmas.List.Sums.{count_by-le-length, length-filter}
use Rattle.ls_desk.proofs.present.close_document.Goals as goal

pub returns-clause-items : goal.returns-clause-items
returns-clause-items c = filter_same _ _ _ (λ x b f' k. search rules) _ _ c.retain.ensures.filtered

shorter_by : (b : Bool) (d : Document) (ds xs : List Document) (o : Option Document) → is_some (cond b (Some d) o) ≡ true → length xs ≤ length ds → (is_some o ≡ true → length xs < length ds)
    → length (cond (not b) (d ∷ xs) xs) < length (d ∷ ds)
shorter_by true d ds xs o h few f = omega arith
shorter_by false d ds xs o h few f = let less = f h in omega arith

shorter : (uri : List ℕ) (ds : List Document) → is_open uri ds ≡ true → length (others uri ds) < length ds
shorter uri [] h = absurd (cc)
shorter uri (d ∷ ds) h =
    let few = length-filter (λ x. not (is_named uri x)) ds in
    let most = count_by-le-length (λ x. not (is_named uri x)) ds in
    shorter_by (is_named uri d) d ds (others uri ds) (find (is_named uri) ds) h (omega arith) (shorter uri ds)

pub returns-clause-place : goal.returns-clause-place
returns-clause-place c = λ h.
    let kept : c.retain.new.self.items ≡ others c.args.uri.now c.args.documents.now.items = filter_same _ _ _ (λ x b f' k. search rules) _ _ c.retain.ensures.filtered in
    let as_many = ap length kept in
    let less = shorter c.args.uri.now c.args.documents.now.items h in
    let capacity = c.retain.ensures.capacity in
    omega (arith, c.retain.new.self.ok.0, c.args.documents.now.ok.0, c.args.documents.now.ok.1)
