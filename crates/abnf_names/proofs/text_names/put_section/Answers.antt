use Rattle.std.proofs.Common.{◌∙◌, sym}
use Rattle.abnf_names.proofs.OwnPass.{own_more, own_same, on_both}
use Rattle.abnf_names.proofs.text_names.put_section.Goals as goal

pub returns-in-Some : goal.returns-in-Some
returns-in-Some c =
    on_both c.put.result _ _ _ (λ names members. own_more c.args.groups.now c.put.new.self (record { section = c.args.section }) c.in-Some.head (sym c.head.ensures ∙ c.in-Some.is) names members) c.put.ensures.names c.put.ensures.members

pub returns-in-None : goal.returns-in-None
returns-in-None c = own_same c.args.groups.now (record { section = c.args.section }) (sym c.head.ensures ∙ c.in-None.is)
