use Rattle.ls_text.proofs.line.Line.of.Goals as goal

pub invariant_of-result : goal.invariant_of-result
invariant_of-result c = (c.requires.count, c.requires.marks, c.utf8.text)
