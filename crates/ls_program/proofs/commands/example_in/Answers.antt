use Rattle.std.specs.Prelude.{string_bytes}
use Rattle.ls_program.proofs.Examples.{is_example_in}
use Rattle.ls_program.proofs.commands.example_in.Goals as goal

pub returns : goal.returns
returns c = is_example_in c.with_cert.result c.args.grammar.now c.args.rule.now c.rule_of.result (string_bytes c.in_ok-shown.shown) c.in_ok-cert.cert c.rule_of.ensures.rule c.in_ok-shown.ensures c.in_ok-cert.ensures c.with_cert.ensures
