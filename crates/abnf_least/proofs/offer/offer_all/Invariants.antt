use Rattle.std.proofs.Common.{get_or}
use Rattle.abnf_cert.specs.Accepted.{entry_at}
use Rattle.abnf_least.specs.own.Search.{form_at}
use Rattle.abnf_least.proofs.Offers.{OffersUpTo}
use Rattle.abnf_least.proofs.offer.offer_all.Given as goal

abbrev pub invariant-loop-link : goal.invariant-loop-link
invariant-loop-link l =
    OffersUpTo (form_at l.grammar.rules) (entry_at l.table) l.part l.users.links.items (get_or l.users.starts.items l.part 0) l.place l.fn.queue l.queue

abbrev pub decreases-loop-link : goal.decreases-loop-link
decreases-loop-link l = l.place
