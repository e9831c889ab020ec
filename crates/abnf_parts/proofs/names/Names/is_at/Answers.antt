use Rattle.std.proofs.Common.{◌∙◌, ap, sym}
use Rattle.abnf_parts.specs.Names.{folded_text, rule_number}
use Rattle.abnf_parts.proofs.NamePlace.{place_is}
use Rattle.abnf_parts.proofs.names.Names.is_at.Goals as goal

pub returns-in-Some : goal.returns-in-Some
returns-in-Some c same =
    let keys = c.self.inside.names.keys in
    let name = folded_text c.args.name in
    sym (ap (λ names. rule_number names name) c.self.view_is)
    ∙ place_is keys c.args.place c.in-Some.found.now name c.as_slice-distinct.ensures.unique (sym c.in-Some.ensures.key) (sym c.eq.ensures ∙ same)
