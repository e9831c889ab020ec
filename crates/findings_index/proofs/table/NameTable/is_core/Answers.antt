use Rattle.std.proofs.Common.{◌≡◌, ◌∙◌, ap, sym, true, false, Some, None}
use Rattle.std.specs.Prelude.{string_bytes}
use Rattle.abnf_token.specs.Folded.{lowercase}
use Rattle.abnf_parts.specs.Core.{is_core_name}
use Rattle.findings_index.proofs.SmallNames.{is_small, core_if_small, no_core_else, name_at}
use Rattle.findings_index.proofs.table.NameTable.is_core.Goals as goal

pub returns-then-is_small : goal.returns-then-is_small
returns-then-is_small c =
    let name = string_bytes c.in-Some.name.now in
    let small : is_small name ≡ true = sym (c.is_small.ensures ∙ ap is_small c.deref.ensures) ∙ c.if-is_small.true in
    c.is_core_name.ensures ∙ (ap (λ text. is_core_name (lowercase text)) c.deref-then-is_small.ensures ∙ (core_if_small name small
    ∙ name_at string_bytes c.self.inside.names.keys c.args.self.now c.args.number (Some c.in-Some.name.now) c.in-Some.ensures.key c.self.view_is))

pub returns-else-is_small : goal.returns-else-is_small
returns-else-is_small c =
    let name = string_bytes c.in-Some.name.now in
    let small : is_small name ≡ false = sym (c.is_small.ensures ∙ ap is_small c.deref.ensures) ∙ c.if-is_small.false in
    c.if-is_small.false ∙ (sym (no_core_else name small)
    ∙ name_at string_bytes c.self.inside.names.keys c.args.self.now c.args.number (Some c.in-Some.name.now) c.in-Some.ensures.key c.self.view_is)

pub returns-in-None : goal.returns-in-None
returns-in-None c = name_at string_bytes c.self.inside.names.keys c.args.self.now c.args.number None c.in-None.ensures.key c.self.view_is
