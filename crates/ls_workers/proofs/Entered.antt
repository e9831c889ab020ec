-- What it means for a board that a call has come to its desk's journal.
use Rattle.std.proofs.Common.{◌≡◌, ◌+◌, ◌∙◌, ℕ, Bool, ap, arith, sym}
use Rattle.ls_machine.specs.Counts.{count_one}
use Rattle.ls_machine.specs.declared.base.Counts as counts
use Rattle.ls_machine.specs.declared.event.Event.{Event}
use Rattle.ls_machine.specs.declared.event.Event.TheVariants.{Took, Returned, Finished, Sent}
use Rattle.ls_desk.specs.Stands.{Seen, Enters, counts_of}
use Rattle.ls_workers.specs.Count.{AddsEvents, Counts}
use Rattle.ls_workers.specs.Jobs.{HasLimits}

-- the limits stay
pub limits_stay : (journal events : ℕ) (old new : Seen) (e : Event) → Enters old new e → HasLimits journal events old → HasLimits journal events new
limits_stay journal events old new e enters limits = record { journal_is = enters.most_journal ∙ limits.journal_is; events_is = enters.most ∙ limits.events_is }

-- so many are counted
counts_by : (client took returned finished sent : ℕ) (d : Seen) (now : counts.Counts) → counts_of d ≡ now → client ≡ now.client → took ≡ now.took → returned ≡ now.returned → finished ≡ now.finished → sent ≡ now.sent
    → Counts client took returned finished sent d
counts_by client took returned finished sent d now is a b c e f = record {
  client_is = a ∙ sym (ap (λ (n : counts.Counts). n.client) is);
  took_is = b ∙ sym (ap (λ (n : counts.Counts). n.took) is);
  returned_is = c ∙ sym (ap (λ (n : counts.Counts). n.returned) is);
  finished_is = e ∙ sym (ap (λ (n : counts.Counts). n.finished) is);
  sent_is = f ∙ sym (ap (λ (n : counts.Counts). n.sent) is);
}

-- each event is one more of its kind
pub counts_client : (client took returned finished sent total : ℕ) (old new : Seen) → AddsEvents 1 0 0 0 0 old new → Counts client took returned finished sent old → total ≡ client + 1
    → Counts total took returned finished sent new
counts_client client took returned finished sent total old new adds c is = record {
  client_is = let a = c.client_is in let b = adds.client_is in omega arith;
  took_is = let a = c.took_is in let b = adds.took_is in omega arith;
  returned_is = let a = c.returned_is in let b = adds.returned_is in omega arith;
  finished_is = let a = c.finished_is in let b = adds.finished_is in omega arith;
  sent_is = let a = c.sent_is in let b = adds.sent_is in omega arith;
}

pub counts_take : (client took returned finished sent worker : ℕ) (old new : Seen) → Enters old new (Took worker) → Counts client took returned finished sent old
    → Counts client (took + 1) returned finished sent new
counts_take client took returned finished sent worker old new enters c =
    counts_by client (took + 1) returned finished sent new (count_one (counts_of old) (Took worker)) enters.counts c.client_is (ap (λ n. n + 1) c.took_is) c.returned_is c.finished_is c.sent_is

pub counts_return : (client took returned finished sent ticket : ℕ) (old new : Seen) → Enters old new (Returned ticket) → Counts client took returned finished sent old
    → Counts client took (returned + 1) finished sent new
counts_return client took returned finished sent ticket old new enters c =
    counts_by client took (returned + 1) finished sent new (count_one (counts_of old) (Returned ticket)) enters.counts c.client_is c.took_is (ap (λ n. n + 1) c.returned_is) c.finished_is c.sent_is

pub counts_finish : (client took returned finished sent ticket : ℕ) (failed : Bool) (old new : Seen) → Enters old new (Finished ticket failed) → Counts client took returned finished sent old
    → Counts client took returned (finished + 1) sent new
counts_finish client took returned finished sent ticket failed old new enters c =
    counts_by client took returned (finished + 1) sent new (count_one (counts_of old) (Finished ticket failed)) enters.counts c.client_is c.took_is c.returned_is (ap (λ n. n + 1) c.finished_is) c.sent_is

pub counts_send : (client took returned finished sent ticket : ℕ) (old new : Seen) → Enters old new (Sent ticket) → Counts client took returned finished sent old
    → Counts client took returned finished (sent + 1) new
counts_send client took returned finished sent ticket old new enters c =
    counts_by client took returned finished (sent + 1) new (count_one (counts_of old) (Sent ticket)) enters.counts c.client_is c.took_is c.returned_is c.finished_is (ap (λ n. n + 1) c.sent_is)
