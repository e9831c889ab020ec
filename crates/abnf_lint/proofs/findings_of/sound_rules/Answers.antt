use Rattle.std.proofs.Common.{Bool, List, ap, length, subst, sym}
use Rattle.abnf_lint.specs.own.Passes.{AreSoundMarks}
use Rattle.abnf_lint.proofs.Sound.{marked_more, none_marked}
use Rattle.abnf_lint.proofs.findings_of.sound_rules.Goals as goal

pub loop-rule-init : goal.loop-rule-init
loop-rule-init c =
    let rules = c.args.grammar.now.rules in
    (ap length c.in_ok-marks.ensures.items, subst (λ (ms : List Bool). AreSoundMarks rules ms) (sym c.in_ok-marks.ensures.items) (none_marked rules))

pub loop-rule-preserved : goal.loop-rule-preserved
loop-rule-preserved c =
    marked_more c.args.grammar.now.rules c.loop-rule.marks.items c.push.new.self.items c.loop-rule.rule c.is_sound_rule.result c.loop-rule.invariant.0 c.loop-rule.invariant.1 c.is_sound_rule.ensures c.in_ok-push.ensures.items
