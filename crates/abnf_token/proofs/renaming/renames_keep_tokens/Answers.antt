use Rattle.abnf_token.proofs.LineLaw.{line_kept, tokens_kept}
use Rattle.abnf_token.proofs.renaming.renames_keep_tokens.Goals as goal

pub returns-clause-pieces : goal.returns-clause-pieces
returns-clause-pieces c = line_kept

pub returns-clause-tokens : goal.returns-clause-tokens
returns-clause-tokens c = tokens_kept
