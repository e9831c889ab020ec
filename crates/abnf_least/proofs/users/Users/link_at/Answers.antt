use Rattle.std.proofs.Common.{◌≡◌, ◌-◌, ◌^◌, arith, ap}
use Rattle.std.proofs.lemmas.List.{get_or_read}
use Rattle.abnf_least.specs.own.Users.{link_at}
use Rattle.abnf_least.proofs.Chains.{leads_on}
use Rattle.abnf_least.proofs.users.Users.link_at.Goals as goal

pub returns-then-link-place-clause-leads : goal.returns-then-link-place-clause-leads
returns-then-link-place-clause-leads c =
    let links = c.args.self.now.links.items in
    let link = c.index-link.result.now in
    let is : link ≡ link_at links c.args.place = get_or_read links (c.args.place - 2 ^ 31) link (omega arith) c.index-link.ensures (record { user = 0; next = 0 }) in
    leads_on links c.args.place link.user link.next (omega arith) (ap (λ x. x.user) is) (λ _. ap (λ x. x.next) is)
