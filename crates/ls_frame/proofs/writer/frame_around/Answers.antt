use Rattle.std.proofs.Common.{◌≡◌, ◌++◌, ◌∙◌, ap, sym, append_assoc, length}
use Rattle.std.proofs.lemmas.List.{map-id}
use Rattle.std.proofs.lemmas.Iterator.{items_from_drains}
use Rattle.std.proofs.lemmas.Iterator.Adapters.{YieldsList-from_vec}
use Rattle.std.specs.Vec.{vec_items}
use Rattle.std.specs.Vec.Iter.{into_iter_len}
use Rattle.ls_frame.proofs.writer.frame_around.Goals as goal

pub returns : goal.returns
returns c =
    let given = c.in_ok-splice.ensures.items in
    let header = c.into_bytes.result.items in
    let count : c.len.result ≡ length c.args.body.items = c.len.ensures ∙ c.args.body.ok.0 in
    let len : into_iter_len given.0 ≡ length header = given.2.1 ∙ c.into_bytes.result.ok.0 in
    let drained = given.3 in
    let are : given.1 ≡ header =
    sym (map-id given.1) ∙ items_from_drains given.1 (drained.1.0, drained.1.1, λ _. (drained.0, drained.1.2)) (YieldsList-from_vec header given.2.0 len) in
    given.4 ∙ (ap (λ bytes. bytes ++ c.args.body.items) (are ∙ (ap vec_items c.into_bytes.ensures.value ∙ c.in_ok-header.ensures.ok)) ∙ simp (append_assoc, count))
