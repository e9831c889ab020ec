use Rattle.std.proofs.Common.{◌≡◌, ◌∙◌, ◌++◌, ap}
use Rattle.std.proofs.lemmas.Option.{get_or_from_slice_get}
use Rattle.abnf_parts.proofs.Pushing.{on_ok}
use Rattle.findings_index.specs.declared.found_in.BlockTold.{BlockTold}
use Rattle.findings_index.specs.ByTable.{strange_by, told_of_flags}
use Rattle.findings_index.specs.Found.{found_by}
use Rattle.findings_index.specs.Stored.{Stored}
use Rattle.findings_index.proofs.store.Digests.push_found.Goals as goal

pub returns : goal.returns
returns c =
    let outcome = c.args.outcome.now in
    let section = c.args.section.now in
    let given : BlockTold = c.index-told.result.now in
    on_ok c.push_found.result _ _ (λ e told is.
    let same : given ≡ told = c.index-told.ensures ∙ get_or_from_slice_get outcome.tolds.items c.args.at told given is in
    let names = ap (λ (k : Stored). k.table) c.self.view_is in
    let defined = c.deref.ensures.value in
    e
    ∙ (λ i. c.args.found.now ++ found_by (told_of_flags (same i) (strange_by (names i) (defined i))) section.block.items section.fault)) c.push_found.ensures
