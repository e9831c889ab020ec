use Rattle.std.proofs.Common.{get_or}
use Rattle.abnf_cert.specs.Accepted.{entry_at}
use Rattle.abnf_least.specs.own.Search.{form_at}
use Rattle.abnf_least.proofs.Offers.{offers_more, offers_all}
use Rattle.abnf_least.proofs.offer.offer_all.Goals as goal

pub loop-link-preserved : goal.loop-link-preserved
loop-link-preserved c =
    offers_more (form_at c.args.grammar.now.rules) (entry_at c.args.table.now) c.args.part c.args.users.now.links.items (get_or c.args.users.now.starts.items c.args.part 0)
    c.loop-link.place c.in-Some.link.user c.in-Some.link.next c.args.queue.now c.loop-link.queue c.offer.new.queue
    c.loop-link.invariant c.in-Some.ensures.leads c.in_ok-offer.ensures.kept c.in_ok-offer.ensures.offered

pub returns-clause-offered : goal.returns-clause-offered
returns-clause-offered c =
    offers_all (form_at c.args.grammar.now.rules) (entry_at c.args.table.now) c.args.part c.args.users.now.links.items (get_or c.args.users.now.starts.items c.args.part 0)
    c.loop-link.place c.args.queue.now c.loop-link.queue c.loop-link.invariant c.in_default.ensures.ends
