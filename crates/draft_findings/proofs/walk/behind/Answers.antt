use Rattle.std.proofs.Common.{◌∙◌, ◌-◌, ap, arith, drop, rules, sym}
use Rattle.std.specs.Str.{chars}
use Rattle.draft_findings.proofs.WalkLaws.{none_left, one_less}
use Rattle.draft_findings.proofs.walk.behind.Goals as goal

pub returns-in_default : goal.returns-in_default
returns-in_default c =
    c.in_default.ensures ∙ (sym (none_left c.characters.left) ∙ (ap (drop c.characters.left) (sym c.in_default.ensures) ∙ c.characters.invariant.left))

pub characters-preserved : goal.characters-preserved
characters-preserved c = record {
  utf8 = search rules;
  left = sym (one_less c.characters.left c.in-Some._gone (chars c.in-Some.more.now) c.characters-test.true (c.characters.left - 1) (omega (arith, c.characters-test.true)))
      ∙ (ap (drop c.characters.left) (sym c.in-Some.ensures) ∙ c.characters.invariant.left);
}
