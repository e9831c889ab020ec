use Rattle.std.proofs.Common.{◌∙◌, sym, ap, map, ◌++◌, ◌∷◌, []}
use Rattle.std.specs.Prelude.{if◌then◌else◌}
use Rattle.std.specs.List.{list_any}
use Rattle.std.specs.Option.{is_some}
use Rattle.std.specs.Str.{bytes_eq}
use Rattle.std.proofs.lemmas.Bool.{not-true, not-false}
use Rattle.abnf_parts.specs.Names.{with_name, folded_text, rule_number}
use Rattle.abnf_parts.proofs.NameLaws.{list_any_map, map_if, no_place, old_place, position_map, position_any}
use Rattle.abnf_parts.proofs.names.Names.add.Goals.{then-is_new, else-is_new}
use Rattle.abnf_parts.proofs.names.Names.add.Goals as goal

pub returns-clause-names : goal.returns-clause-names
returns-clause-names c =
    let name = folded_text c.args.name in
    let keys = c.self.inside.names.keys in
    ap (map folded_text) c.in_ok-place.ensures.keys
    ∙ (map_if folded_text (list_any (λ k. bytes_eq name (folded_text k)) keys) keys c.args.name
    ∙ (ap (λ b. if b then map folded_text keys else map folded_text keys ++ name ∷ []) (sym (list_any_map folded_text (bytes_eq name) keys))
    ∙ ap (λ names. with_name names name) c.self.view_is))

pub returns-clause-place : goal.returns-clause-place
returns-clause-place c =
    let name = folded_text c.args.name in
    let keys = c.self.inside.names.keys in
    let is_there = list_any (λ k. bytes_eq name (folded_text k)) keys in
    let seen = list_any_map folded_text (bytes_eq name) keys in
    let here = position_map folded_text (bytes_eq name) keys in
    elim c.if-is_new.branch [
      | then-is_new w ↦ w.result-is ∙ (no_place name (map folded_text keys) (seen ∙ not-true is_there (sym c.in_ok-place.ensures.added ∙ w.if-is_new.true)) ∙ ap (λ names. rule_number names name) c.self.view_is)
      | else-is_new w ↦
          w.result-is
          ∙ (old_place (λ k. bytes_eq name (folded_text k)) keys c.in_ok-place.place
          (ap is_some (sym here) ∙ (sym (position_any name (map folded_text keys)) ∙ (seen ∙ not-false is_there (sym c.in_ok-place.ensures.added ∙ w.if-is_new.false)))) c.in_ok-place.ensures.index
          ∙ (sym here ∙ ap (λ names. rule_number names name) c.self.view_is))
    ]
