use Rattle.abnf_parts.specs.Names.{folded_text}
use Rattle.abnf_places.specs.own.Stated.{IsNowhere}
use Rattle.abnf_places.proofs.stated.is_stated.Given as goal

abbrev pub invariant-loop-at : goal.invariant-loop-at
invariant-loop-at l = IsNowhere l.sheet (folded_text l.name) l.first l.at
