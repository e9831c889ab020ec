use Rattle.std.proofs.Common.{◌∙◌, ◌++◌, [], List, ap, append_assoc}
use Rattle.std.specs.Option.{option_map_or}
use Rattle.abnf_syntax.specs.Heads.{head_of}
use Rattle.abnf_parts.proofs.Pushing.{on_ok}
use Rattle.abnf_lint.specs.declared.finding.Finding.{Finding}
use Rattle.abnf_lint.specs.Found.{said_found}
use Rattle.findings_index.specs.ByTable.{strange_by, told_of_flags}
use Rattle.findings_index.specs.Found.{found_at_head}
use Rattle.findings_index.proofs.found_in.push_found.Goals as goal

pub returns : goal.returns
returns c =
    let strange = strange_by c.args.names.now c.args.defined.now in
    let block = c.args.section.now.block in
    let headed : List Finding = option_map_or (found_at_head (told_of_flags c.args.told strange)) (head_of block.items) [] in
    let said : List Finding = said_found strange block.items c.args.section.now.fault in
    on_ok c.push_said.result _ _ (λ e.
    e
    ∙ (ap (λ (fs : List Finding). fs ++ said) (c.in_ok-push_at_head.ensures strange)
    ∙ append_assoc c.args.found.now headed said)) c.push_said.ensures
