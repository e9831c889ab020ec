use Rattle.std.proofs.Common.{map, sym, subst}
use Rattle.std.specs.Prelude.{OnErr}
use Rattle.std.proofs.lemmas.Result.{IfOk-weaker}
use Rattle.abnf_syntax.specs.Blocks.{HasBlock}
use Rattle.abnf_names.specs.Places.{named_at}
use Rattle.abnf_parts.specs.Names.{folded_text}
use Rattle.abnf_places.specs.own.Blocks.{AreWanted}
use Rattle.abnf_places.proofs.Passing.{of_text}
use Rattle.abnf_places.proofs.search.places_of.Goals as goal

pub returns-in-Definitions-clause-places : goal.returns-in-Definitions-clause-places
returns-in-Definitions-clause-places c =
    IfOk-weaker c.definitions_of.result _ _
    (λ spots are. of_text c.of-sheet.result c.args.wanted (folded_text c.args.name) c.args.snapshot.now (map named_at spots) c.of-sheet.ensures.small c.of-sheet.ensures.lines
    (subst (λ wanted. AreWanted c.of-sheet.result wanted (folded_text c.args.name) (map named_at spots)) (sym c.in-Definitions.is) are))
    c.definitions_of.ensures.places

pub returns-in-Uses : goal.returns-in-Uses
returns-in-Uses c = record {
  places =
      IfOk-weaker c.stated_places.result _ _
      (λ spots are. of_text c.of-sheet.result c.args.wanted (folded_text c.args.name) c.args.snapshot.now (map named_at spots) c.of-sheet.ensures.small c.of-sheet.ensures.lines are)
      c.stated_places.ensures.places;
  memory = subst (λ ls. OnErr c.stated_places.result (HasBlock ls)) c.of-sheet.ensures.lines c.stated_places.ensures.memory;
}
