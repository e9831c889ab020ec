use Rattle.std.proofs.Common.{◌∙◌, ap}
use Rattle.abnf_parts.specs.Names.{folded_text}
use Rattle.ls_answers.specs.Renames.{fault_of_name}
use Rattle.ls_answers.specs.own.Renamed.{answer_for_name}
use Rattle.ls_answers.specs.declared.answer.Answer.TheVariants as answer
use Rattle.ls_answers.proofs.rename.answer_for_name.Goals as goal

pub returns-in-Some : goal.returns-in-Some
returns-in-Some c =
    let old = folded_text c.args.old in
    ap (answer_for_name c.args.encoding c.args.grammar.now old c.args.new.now) (c.in-Some.ensures ∙ ap (fault_of_name c.args.grammar.now old) c.as_str.ensures)

pub returns-in_ok-copy-in-None : goal.returns-in_ok-copy-in-None
returns-in_ok-copy-in-None c =
    let old = folded_text c.args.old in
    (λ i. answer.Edits (c.in_ok-ranges-in-None.ensures i) (c.in_ok-copy-in-None.ensures i))
    ∙ ap (answer_for_name c.args.encoding c.args.grammar.now old c.args.new.now) (c.in-None.ensures ∙ ap (fault_of_name c.args.grammar.now old) c.as_str.ensures)
