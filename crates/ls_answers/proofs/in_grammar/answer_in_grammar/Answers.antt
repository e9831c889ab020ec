use Rattle.ls_answers.proofs.in_grammar.answer_in_grammar.Goals as goal

pub returns-else-not-is_name-clause-not_a_name : goal.returns-else-not-is_name-clause-not_a_name
returns-else-not-is_name-clause-not_a_name c = λ to_no_name. let no_name = rw c.in-Rename.is at to_no_name in absurd (cc (no_name, c.as_str.ensures, c.if-not-is_name.ensures))
