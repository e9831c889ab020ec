use Rattle.abnf_least.specs.own.Search.{candidate}
use Rattle.abnf_least.proofs.Offers.{on_ok, pushed_from}
use Rattle.abnf_least.proofs.Queued.{still_there}
use Rattle.abnf_least.proofs.offer.push_given.Goals as goal

pub returns-in-Least-clause-kept : goal.returns-in-Least-clause-kept
returns-in-Least-clause-kept c =
    on_ok c.push.result c.push.ensures (still_there c.args.queue.now c.push.new.self (candidate c.in-Least.length c.in-Least.height c.args.number))

pub returns-in-Least-clause-pushed : goal.returns-in-Least-clause-pushed
returns-in-Least-clause-pushed c =
    on_ok c.push.result c.push.ensures (pushed_from c.args.entry c.in-Least.length c.in-Least.height c.in-Least.choice c.args.number c.args.queue.now c.push.new.self c.in-Least.is)
