use Rattle.std.proofs.Common.{rules, arith, ◌≡◌, ◌∙◌, ℕ, Bool, true, false, Some, None, sym}
use Rattle.std.specs.Prelude.{if◌then◌else◌}
use Rattle.std.proofs.lemmas.Grind.{common_steps}
use Rattle.near_names.proofs.near.nearest.Goals as goal

-- the distance that is known of a name that is near
told : (near : Bool) (letters distance : ℕ) → Some letters ≡ (if near then Some distance else None) → letters ≡ distance
told true letters distance e = cc
told false letters distance e = cc

pub returns : goal.returns
returns = search rules depth 3

pub loop-at-preserved-in-Some : goal.loop-at-preserved-in-Some
loop-at-preserved-in-Some c = record {
  within = omega arith;
  found = grind (arith, common_steps);
  least = told _ _ _ (sym c.in-Some.is ∙ c.in_ok-letters.ensures);
}

pub loop-at-preserved-in-Some-2 : goal.loop-at-preserved-in-Some-2
loop-at-preserved-in-Some-2 c = record {
  within = omega arith;
  found = grind (arith, common_steps);
  least = c.loop-at.invariant.least;
}
