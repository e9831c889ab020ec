-- A text has one list of places.
use Rattle.std.proofs.Common.{◌≡◌, ℕ, List, sym, ap, ◌∙◌}
use Rattle.abnf_names.specs.Places.{Named}
use Rattle.abnf_names.specs.Rules.{Grammar, HasPlaces}
use Rattle.abnf_names.proofs.OneGrammar.{one_grammar}

pub one_places : (text : List ℕ) (ours theirs : List Named) → HasPlaces text ours → HasPlaces text theirs → ours ≡ theirs
one_places text ours theirs p q =
    sym p.are ∙ (ap (λ (g : Grammar). g.places) (one_grammar p.grammar q.grammar p.right q.right (p.of_text ∙ sym q.of_text)) ∙ q.are)
