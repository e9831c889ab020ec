use Rattle.std.proofs.Common.{◌∙◌, ◌+◌, ap, List, ℕ}
use Rattle.std.specs.Option.{option_or}
use Rattle.origins.specs.Origins.{Sourced}
use Rattle.draft_grammars.specs.Places.{Mapped, begun_at, blanks_behind}
use Rattle.draft_grammars.proofs.places.SourceMap.inward.Goals as goal

pub returns : goal.returns
returns c =
    let offset = c.args.offset in
    let grammar_is = ap (λ (m : Mapped). m.grammar) c.self.view_is in
    let draft_is = ap (λ (m : Mapped). m.draft) c.self.view_is in
    let begun = c.place_of-begun.ensures ∙ ap (λ (g : List Sourced). begun_at g offset) grammar_is in
    let blanks = c.blanks_behind.ensures.value ∙ ap (λ (d : List ℕ). blanks_behind d offset) draft_is in
    let margin = c.place_of.ensures ∙ (λ i. begun_at (grammar_is i) (offset + blanks i)) in
    c.or-2.ensures ∙ (λ i. option_or (begun i) ((c.or.ensures ∙ (λ j. option_or (margin j) (c.ended_at.ensures j))) i))
