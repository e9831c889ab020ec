use Rattle.std.proofs.Common.{◌∙◌, sym, ap, not}
use Rattle.std.specs.Prelude.{◌&&◌}
use Rattle.std.specs.List.{list_any}
use Rattle.std.specs.Str.{bytes_eq}
use Rattle.abnf_parts.specs.Names.{folded_text}
use Rattle.abnf_parts.proofs.NeededLaws.{beside_any}
use Rattle.abnf_parts.proofs.core_rule.is_undefined.Goals as goal

pub returns-then-contains : goal.returns-then-contains
returns-then-contains c =
    let name = folded_text c.args.name in
    ap not c.contains-then-contains.ensures
    ∙ sym (beside_any name c.args.defined.now c.args.stated.now
    ∙ ap (λ b. b && not (list_any (bytes_eq name) c.args.defined.now)) (sym c.contains.ensures ∙ c.if-contains.true))

pub returns-else-contains : goal.returns-else-contains
returns-else-contains c =
    let name = folded_text c.args.name in
    c.if-contains.false
    ∙ sym (beside_any name c.args.defined.now c.args.stated.now
    ∙ ap (λ b. b && not (list_any (bytes_eq name) c.args.defined.now)) (sym c.contains.ensures ∙ c.if-contains.false))
