use Rattle.std.proofs.Common.{◌≡◌, ◌∙◌, Bool, true, false, refl, sym}
use Rattle.std.specs.Prelude.{not, ◌&&◌}
use Rattle.abnf_parts.specs.Core.{is_core_name}
use Rattle.abnf_parts.specs.Names.{folded_text}
use Rattle.findings_index.specs.ByTable.{name_mark}
use Rattle.findings_index.proofs.found_in.DefinedNames.is_strange.Goals as goal

where_marked : (core mark : Bool) → mark ≡ true → false ≡ (not core && not mark)
where_marked true mark e = refl
where_marked false true e = refl
where_marked false false e = absurd (cc e)

pub returns-then-branch : goal.returns-then-branch
returns-then-branch c =
    let name = folded_text c.args.name in
    where_marked (is_core_name name) (name_mark c.args.self.now.names.now c.args.self.now.marks.now name) (sym c.in_ok-has_mark.ensures ∙ c.if-branch.true)
