-- What a client's seat has of an event that a desk has let in.
use Rattle.std.proofs.Common.{◌≡◌, ◌-◌, ◌∷◌, ◌++◌, ◌∙◌, ℕ, List, [], Bool, true, Some, length, sym, ap, subst}
use Rattle.std.specs.Prelude.{◌↔◌, if◌then◌else◌, slice_get, Result, Ok, Err, IfOk, OnErr}
use Rattle.ls_machine.specs.Client.{Notes, client_events, entry_of}
use Rattle.ls_machine.specs.declared.base.Base.{Base}
use Rattle.ls_machine.specs.declared.client.ClientAnswer.{ClientAnswer}
use Rattle.ls_machine.specs.declared.client.ClientEvent.{ClientEvent}
use Rattle.ls_machine.specs.declared.event.DeskFault.{DeskFault}
use Rattle.ls_machine.specs.declared.event.Event.{Event}
use Rattle.ls_desk.specs.Anew.{base_after, journal_after}
use Rattle.ls_desk.specs.Stands.{Seen, counts_of, fresh, is_long}
use Rattle.ls_history.specs.declared.history_entry.HistoryEntry.{HistoryEntry}
use Rattle.ls_history.specs.declared.history_entry.HistoryEntry.TheVariants as entry
use Rattle.ls_history.specs.History.{HasLedTo}
use Rattle.ls_workers.specs.Count.{Counts}
use Rattle.ls_workers.specs.Jobs.{HasLimits}
use Rattle.ls_workers.specs.Seats.{AuditLog, HasAgreed, IsLogged, KnowsTheSame, Logs}

-- a desk whose ended journal was taken is the same but for that
abbrev pub IsSame : Seen → Seen → Type 0
IsSame old new = record old { ended = new.ended } ≡ new

pub same_counts : (client took returned finished sent : ℕ) (old new : Seen) → IsSame old new → Counts client took returned finished sent old → Counts client took returned finished sent new
same_counts client took returned finished sent old new same counts =
    subst (λ (d : Seen). Counts client took returned finished sent d) same
    (record { client_is = counts.client_is; took_is = counts.took_is; returned_is = counts.returned_is; finished_is = counts.finished_is; sent_is = counts.sent_is })

pub same_limits : (journal events : ℕ) (old new : Seen) → IsSame old new → HasLimits journal events old → HasLimits journal events new
same_limits journal events old new same limits =
    subst (λ (d : Seen). HasLimits journal events d) same (record { journal_is = limits.journal_is; events_is = limits.events_is })

pub same_led : (log : List HistoryEntry) (old new : Seen) → IsSame old new → HasLedTo old log → HasLedTo new log
same_led log old new same led = subst (λ (d : Seen). HasLedTo d log) same led

-- what the desk had when it had let the event in
pub record Entered (e : ClientEvent) (answer : ClientAnswer) (entry : Event) (before after : Seen) : Type 0 where
  pub journal : Notes e answer (journal_after (fresh before) before.journal) after.journal
  pub base : after.base ≡ base_after (fresh before) (counts_of before) before.base
  pub ended : is_long before ≡ true → after.ended ≡ before.journal
  pub entry_is : entry_of e answer ≡ Some entry

-- what came to the seat then, where this says whether the journal had been as long as it may be
pub record Came (long : Bool) (entry : Event) (desk : Seen) (old new : AuditLog) : Type 0 where
  pub list : new.list ≡ (if long then [] else old.list) ++ entry ∷ []
  pub checkpoints : new.checkpoints ≡ (if long then desk.base.checkpoints else old.checkpoints)
  pub agreed : HasAgreed new ↔ (HasAgreed old × (slice_get desk.journal (length desk.journal - 1) ≡ Some entry) × (long ≡ true → client_events desk.ended ≡ old.list))

logs_by : (e : ClientEvent) (answer : ClientAnswer) (entry : Event) (before middle after : Seen) (old new : AuditLog)
    → Entered e answer entry before middle → Came (is_long before) entry middle old new → IsSame middle after → Logs e answer before after old new
logs_by e answer entry before middle after old new entered came same =
    let journal : middle.journal ≡ after.journal = ap (λ (d : Seen). d.journal) same in
    let base : middle.base ≡ after.base = ap (λ (d : Seen). d.base) same in
    let last : List Event → Type 0 = λ js. slice_get js (length js - 1) ≡ entry_of e answer in
    record {
      journal = subst (λ (js : List Event). Notes e answer (journal_after (fresh before) before.journal) js) journal entered.journal;
      base = sym base ∙ entered.base;
      list = (entry, entered.entry_is, came.list);
      checkpoints = came.checkpoints ∙ ap (λ (b : Base). if is_long before then b.checkpoints else old.checkpoints) base;
      agreed = (
        λ now. let all = came.agreed.0 now in
            (all.0, subst last journal (all.1 ∙ sym entered.entry_is), (λ long. ap (λ (js : List Event). client_events js) (sym (entered.ended long)) ∙ all.2 long)),
        λ all.
            came.agreed.1 (all.0, subst last (sym journal) all.1 ∙ entered.entry_is, (λ long. ap (λ (js : List Event). client_events js) (entered.ended long) ∙ all.2 long)),
      );
    }

pub logs : (e : ClientEvent) (answer : ClientAnswer) (entry : Event) (long : Bool) (before middle after : Seen) (old new : AuditLog)
    → Entered e answer entry before middle → long ≡ is_long before → Came long entry middle old new → IsSame middle after → Logs e answer before after old new
logs e answer entry long before middle after old new entered is came =
    logs_by e answer entry before middle after old new entered (subst (λ (b : Bool). Came b entry middle old new) is came)

-- what was compared meanwhile makes no difference
pub logs_since : (e : ClientEvent) (answer : ClientAnswer) (before after : Seen) (first old new : AuditLog) → KnowsTheSame first old → Logs e answer before after old new → Logs e answer before after first new
logs_since e answer before after first old new same logs = record {
  journal = logs.journal;
  base = logs.base;
  list = subst (λ (es : List Event). Notes e answer (if is_long before then [] else es) new.list) same.list logs.list;
  checkpoints = logs.checkpoints ∙ ap (λ (n : ℕ). if is_long before then after.base.checkpoints else n) same.checkpoints;
  agreed = (
    λ now. let all = logs.agreed.0 now in (same.agreed.0 all.0, all.1, (λ long. all.2 long ∙ same.list)),
    λ all. logs.agreed.1 (same.agreed.1 all.0, all.1, (λ long. all.2 long ∙ sym same.list)),
  );
}

-- the same, by the history, where the desk hasn't refused the event
pub is_logged : (e : ClientEvent) (reply : Result ClientAnswer DeskFault) (journal events : ℕ) (before after : Seen) (earlier log : List HistoryEntry) (first old new : AuditLog)
    → log ≡ earlier ++ entry.Heard e reply ∷ [] → HasLedTo before earlier → HasLedTo after log → HasLimits journal events before → KnowsTheSame first old
    → IfOk reply (λ answer. Logs e answer before after old new) → IfOk reply (λ answer. IsLogged e answer journal events first new log)
is_logged e (Err fault) journal events before after earlier log first old new is led leads limits same logs = tt
is_logged e (Ok answer) journal events before after earlier log first old new is led leads limits same logs = record {
  before = before;
  after = after;
  earlier = earlier;
  log_is = is;
  led_before = led;
  led_after = leads;
  limits = limits;
  logs = logs_since e answer before after first old new same logs;
}

pub knows_since : (first old new : AuditLog) → KnowsTheSame first old → new ≡ old → KnowsTheSame first new
knows_since first old new same is = subst (λ (log : AuditLog). KnowsTheSame first log) (sym is) same

pub knows_refused : (reply : Result ClientAnswer DeskFault) (P : Type 0) (first old new : AuditLog) → KnowsTheSame first old → OnErr reply (P × (new ≡ old)) → OnErr reply (P × KnowsTheSame first new)
knows_refused (Ok answer) P first old new same refused = tt
knows_refused (Err fault) P first old new same refused = (refused.0, knows_since first old new same refused.1)
