use Rattle.std.proofs.Common.{rules}
use Rattle.abnf_parts.specs.Names.{folded_text}
use Rattle.abnf_names.specs.own.Inside.{grammar_inside}
use Rattle.abnf_names.proofs.DefinedPlaces.{own_is_defined}
use Rattle.abnf_names.proofs.grammar.Grammar.own_rule_of.Goals as goal

pub returns-in-Some-clause-defined : goal.returns-in-Some-clause-defined
returns-in-Some-clause-defined c =
    own_is_defined (grammar_inside c.self.inside) c.args.self.now c.self.view_is c.self.invariant.is_grammar (folded_text c.args.name) c.self.inside.names.0 c.own.result.now _ c.self.invariant.own c.own.ensures c.in-Some.ensures.index

pub returns-in-None-clause-defined : goal.returns-in-None-clause-defined
returns-in-None-clause-defined c =
    own_is_defined (grammar_inside c.self.inside) c.args.self.now c.self.view_is c.self.invariant.is_grammar (folded_text c.args.name) c.self.inside.names.0 c.own.result.now _ c.self.invariant.own c.own.ensures c.in-None.ensures.index

pub returns-in-Some-clause-rule : goal.returns-in-Some-clause-rule
returns-in-Some-clause-rule = search rules depth 4

pub returns-in-None-clause-rule : goal.returns-in-None-clause-rule
returns-in-None-clause-rule = search rules depth 4
