use Rattle.std.proofs.Common.{◌∙◌, sym, ap, map, ◌++◌, ◌∷◌, []}
use Rattle.std.specs.Prelude.{if◌then◌else◌, string_bytes}
use Rattle.std.specs.List.{list_any, position_or_len}
use Rattle.std.specs.Str.{bytes_eq}
use Rattle.abnf_parts.specs.Names.{with_name, folded_text, rule_number}
use Rattle.abnf_parts.proofs.NameLaws.{list_any_map, map_if}
use Rattle.findings_index.proofs.TableLaws.{mapped_place, place_is}
use Rattle.findings_index.proofs.table.NameTable.number_of.Goals as goal

pub returns-clause-names : goal.returns-clause-names
returns-clause-names c =
    let small = string_bytes c.in_ok-small.small in
    let keys = c.self.inside.names.keys in
    ap (map string_bytes) c.in_ok-number.ensures.keys
    ∙ (map_if string_bytes (list_any (λ k. bytes_eq small (string_bytes k)) keys) keys c.in_ok-small.small
    ∙ (ap (λ b. if b then map string_bytes keys else map string_bytes keys ++ small ∷ []) (sym (list_any_map string_bytes (bytes_eq small) keys))
    ∙ (ap (λ names. with_name names small) c.self.view_is ∙ ap (with_name c.args.self.now) c.in_ok-small.ensures.ok)))

pub returns-clause-number : goal.returns-clause-number
returns-clause-number c =
    let small = string_bytes c.in_ok-small.small in
    let keys = c.self.inside.names.keys in
    let name = folded_text c.args.name in
    ap (λ names. rule_number names name) (returns-clause-names c)
    ∙ place_is c.args.self.now name c.in_ok-number.number
    (c.in_ok-number.ensures.index ∙ (sym (mapped_place string_bytes (bytes_eq small) keys)
    ∙ (ap (position_or_len (bytes_eq small)) c.self.view_is ∙ ap (λ it. position_or_len (bytes_eq it) c.args.self.now) c.in_ok-small.ensures.ok)))
