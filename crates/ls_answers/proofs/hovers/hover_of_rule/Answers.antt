use Rattle.std.proofs.Common.{refl, rules}
use Rattle.ls_answers.proofs.hovers.hover_of_rule.Goals as goal

pub returns : goal.returns
returns c = record { range_is = refl; text = search rules; example = (c.in_ok-shown.ensures.shown, search rules) }
