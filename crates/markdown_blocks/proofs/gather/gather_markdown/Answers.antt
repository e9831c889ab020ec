use Rattle.std.proofs.Common.{◌∙◌, ap}
use Rattle.markdown_blocks.proofs.FenceLaws.{abnf_blocks}
use Rattle.markdown_blocks.proofs.gather.gather_markdown.Goals as goal

pub returns : goal.returns
returns c = c.into_grammar.ensures ∙ ap (λ f. f.1) c.in_ok-found.ensures ∙ abnf_blocks c.args.draft.now
