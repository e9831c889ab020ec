use Rattle.ls_answers.proofs.WalkLaws.{told_numbers}
use Rattle.ls_answers.proofs.semantic_tokens.semantic_tokens.Goals as goal

pub returns : goal.returns
returns c =
    told_numbers c.args.encoding c.args.grammar.now c.in_ok-tokens.tokens c.as_slice.result.now c.relative.result c.in_ok-tokens.ensures.grammar c.in_ok-tokens.ensures.told c.as_slice.ensures c.relative.ensures
