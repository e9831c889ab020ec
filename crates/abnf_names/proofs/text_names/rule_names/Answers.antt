use Rattle.std.proofs.Common.{◌∙◌, [], sym, ap, subst, map, List}
use Rattle.std.specs.Prelude.{fold}
use Rattle.abnf_parts.specs.declared.core_rule.Core.{Core}
use Rattle.abnf_parts.specs.Names.{Name, with_name}
use Rattle.abnf_parts.specs.Core.{core_name}
use Rattle.abnf_parts.specs.CoreTable.{core_of}
use Rattle.abnf_names.specs.own.Passes.{stated, AreNames}
use Rattle.abnf_names.proofs.Kept.{names_made}
use Rattle.abnf_names.proofs.text_names.rule_names.Goals as goal

pub returns : goal.returns
returns c blocks own places =
    let made =
    names_made blocks c.args.own c.args.places.now.stated c.in_ok-core.core c.in_ok-needed.needed own (places.stated ∙ ap stated places.spots) c.in_ok-needed.ensures
    (c.in_ok-core.ensures ∙ ap (λ (cores : List Core). fold with_name [] (map (λ core. core_name (core_of core)) cores)) c.as_slice.ensures) in
    (subst (λ (names : List Name × List Name). AreNames blocks names) (sym c.new.ensures) made.0, made.1)
