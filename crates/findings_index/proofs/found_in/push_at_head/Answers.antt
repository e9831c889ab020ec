use Rattle.std.proofs.Common.{◌≡◌, ◌∙◌, ◌++◌, [], sym, subst}
use Rattle.std.specs.Prelude.{OnOk}
use Rattle.std.specs.Option.{option_map_or}
use Rattle.abnf_lint.specs.Found.{head_found}
use Rattle.findings_index.specs.Found.{found_at_head}
use Rattle.findings_index.specs.ByTable.{told_of_flags}
use Rattle.findings_index.proofs.found_in.push_at_head.Goals as goal

pub returns-in-Some : goal.returns-in-Some
returns-in-Some c = λ strange.
    subst (λ head. OnOk c.push_head.result (c.push_head.new.found ≡ c.args.found.now ++ option_map_or (found_at_head (told_of_flags c.args.told strange)) head []))
    (sym (sym c.head.ensures ∙ c.in-Some.is))
    (subst (λ told. OnOk c.push_head.result (c.push_head.new.found ≡ c.args.found.now ++ head_found told c.in-Some.head)) (c.told_of_head.ensures strange) c.push_head.ensures)
