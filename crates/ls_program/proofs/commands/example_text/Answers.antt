use Rattle.ls_program.proofs.Examples.{is_example_text}
use Rattle.ls_program.proofs.commands.example_text.Goals as goal

pub returns : goal.returns
returns c = is_example_text c.example_in.result c.in_ok-grammar.grammar c.args.rule.now c.args.snapshot.now c.in_ok-grammar.ensures.text c.in_ok-grammar.ensures.grammar c.example_in.ensures
