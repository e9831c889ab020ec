use Rattle.std.proofs.Common.{rules, ◌∙◌, sym}
use Rattle.abnf_names.specs.Excerpts.{excerpt}
use Rattle.abnf_lint.proofs.Seen.{seen_next, seen_same, when_ok}
use Rattle.abnf_lint.proofs.block.push_block.Goals as goal

pub returns-in_ok-push_head-in-Some-clause-seen : goal.returns-in_ok-push_head-in-Some-clause-seen
returns-in_ok-push_head-in-Some-clause-seen c =
    let before = c.join_heads-before in
    when_ok c.push_unless_sound.result _ (λ heads bases are.
    seen_next c.args.known.now.grammar.now.names heads bases c.args.seen.now before.new.seen are (excerpt c.args.section.now) c.in-Some.head (sym c.head.ensures ∙ c.in-Some.is)
    c.rule_of_head-rule.result c.rule_of_head-rule.ensures before.result before.ensures.before before.ensures.joined)

pub returns-in-None-clause-seen : goal.returns-in-None-clause-seen
returns-in-None-clause-seen c =
    when_ok c.push_unless_sound-in-None.result _ (λ heads bases are. seen_same heads bases (excerpt c.args.section.now) (sym c.head.ensures ∙ c.in-None.is) c.args.known.now.grammar.now.names c.args.seen.now are)

pub push_unless_sound-requires : goal.push_unless_sound-requires
push_unless_sound-requires = search rules depth 3
