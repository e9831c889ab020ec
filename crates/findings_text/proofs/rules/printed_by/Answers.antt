use Rattle.std.proofs.Common.{◌<◌, sym, subst, List, length}
use Rattle.std.specs.Prelude.{All}
use Rattle.findings_text.specs.declared.rules.Head.{Head}
use Rattle.findings_text.proofs.rules.printed_by.Goals as goal

pub rule_lines-requires-clause-within : goal.rule_lines-requires-clause-within
rule_lines-requires-clause-within c =
    subst (λ (heads : List Head). All (λ head. head.rule < length c.args.grammar.now.rules) heads) (sym c.as_slice.ensures) c.in_ok-heads.ensures.within
