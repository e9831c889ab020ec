use Rattle.std.proofs.Common.{◌<◌, sym, subst, length}
use Rattle.std.specs.Prelude.{IfSome}
use Rattle.abnf_parts.specs.Names.{folded_text}
use Rattle.abnf_names.specs.own.Inside.{grammar_inside}
use Rattle.abnf_names.specs.Rules.{Grammar}
use Rattle.abnf_names.proofs.Within.{rule_within}
use Rattle.abnf_names.proofs.grammar.Grammar.rule_guessed.Goals as goal

pub returns-clause-within : goal.returns-clause-within
returns-clause-within c =
    subst (λ (g : Grammar). IfSome c.rule_guessed.result (λ r. r < length g.rules)) c.self.view_is
    (subst (λ o. IfSome o (λ r. r < length (grammar_inside c.self.inside).rules)) (sym c.rule_guessed.ensures)
    (rule_within (grammar_inside c.self.inside) c.self.invariant.is_grammar (folded_text c.args.name)))
