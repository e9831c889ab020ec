use Rattle.abnf_token.proofs.Exist.{tokens_of, utf8_tokens, short_line}
use Rattle.abnf_token.proofs.existence.lines_have_tokens.Goals as goal

pub returns-clause-some : goal.returns-clause-some
returns-clause-some c = tokens_of

pub returns-clause-utf8 : goal.returns-clause-utf8
returns-clause-utf8 c = utf8_tokens

pub returns-clause-none_longer : goal.returns-clause-none_longer
returns-clause-none_longer c = short_line
