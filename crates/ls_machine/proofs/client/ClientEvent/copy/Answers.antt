use mir.Val.{to_z, of_z}
use Rattle.std.proofs.Common.{◌≡◌, ◌∙◌, sym, rules, w64}
use Rattle.ls_machine.specs.declared.client.ClientEvent.TheVariants.{DidOpen}
use Rattle.ls_machine.proofs.client.ClientEvent.copy.Goals as goal

pub returns-in_ok-copy-in-DidOpen-clause-ok : goal.returns-in_ok-copy-in-DidOpen-clause-ok
returns-in_ok-copy-in-DidOpen-clause-ok c =
    let label : to_z w64 (of_z w64 c.in-DidOpen.label) ≡ c.in-DidOpen.label = search rules in
    (λ i. DidOpen (c.in_ok-uri-in-DidOpen.ensures i) (label i) (c.in_ok-copy-in-DidOpen.ensures i) c.in-DidOpen.encoding) ∙ sym c.in-DidOpen.is
