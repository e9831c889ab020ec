use Rattle.std.proofs.Common.{◌≡◌, drop}
use Rattle.serde_json.specs.View.{items_view}
use Rattle.ls_session.specs.Params.{first_offer}
use Rattle.ls_session.proofs.params.first_offer.Given as goal

-- none of the values before names units
abbrev pub invariant-loop-value : goal.invariant-loop-value
invariant-loop-value l = first_offer (items_view l.value-items) ≡ first_offer (items_view (drop l.value-index l.value-items))
