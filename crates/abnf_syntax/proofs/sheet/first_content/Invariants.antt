use Rattle.abnf_syntax.specs.Blocks.{line_texts, HasNoContent}
use Rattle.abnf_syntax.proofs.sheet.first_content.Given as goal

abbrev pub invariant-loop-at : goal.invariant-loop-at
invariant-loop-at l = HasNoContent (line_texts l.snapshot) l.from l.at
