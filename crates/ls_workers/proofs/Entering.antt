-- What it means for a board that its desk has let a client's event in.
use Rattle.std.proofs.Common.{◌≡◌, ◌+◌, ◌∷◌, ◌++◌, ◌∙◌, ℕ, ℤ, List, [], Bool, true, false, Option, Some, None, refl, ap, subst, rules}
use Rattle.std.specs.Prelude.{if◌then◌else◌}
use Rattle.std.specs.Str.{chars}
use Rattle.ls_text.specs.Edits.{is_too_large}
use Rattle.ls_text.specs.declared.position.Encoding.{Encoding}
use Rattle.ls_machine.specs.Client.{Notes, entry_of, filled, note_of}
use Rattle.ls_machine.specs.Counts.{count_one, is_client}
use Rattle.ls_machine.specs.declared.base.Counts.{Counts}
use Rattle.ls_machine.specs.declared.client.ClientAnswer.{ClientAnswer}
use Rattle.ls_machine.specs.declared.client.ClientAnswer.TheVariants as answer
use Rattle.ls_machine.specs.declared.client.ClientEvent.{ClientEvent}
use Rattle.ls_machine.specs.declared.client.ClientEvent.TheVariants.{DidOpen, DidChange, DidClose, Request, Cancel, Say}
use Rattle.ls_machine.specs.declared.event.Event.{Event}
use Rattle.ls_machine.specs.declared.event.Event.TheVariants as event
use Rattle.ls_machine.specs.declared.state.State.{State}
use Rattle.ls_desk.specs.Anew.{IsEndedBy, base_after, journal_after}
use Rattle.ls_desk.specs.Door.{Admits, IsTextOf, entered_at}
use Rattle.ls_desk.specs.Stands.{Seen, counts_of, fresh, fresh_for, is_long, state_of}
use Rattle.ls_workers.specs.Count.{AddsEvents}
use Rattle.ls_workers.specs.Jobs.{HasLimits}

-- the entry is a client's
client_entry : (s : State) (e : ClientEvent) → is_client (entered_at s e) ≡ true
client_entry s (DidOpen uri label text encoding) = refl
client_entry s (DidChange uri label edits) = refl
client_entry s (DidClose uri) = refl
client_entry s (Request id uri question links) = refl
client_entry s (Cancel id) = refl
client_entry s (Say body) = refl

-- so it makes a checkpoint where the journal is as long as it may be
anew : (old : Seen) (e : ClientEvent) → fresh_for old (entered_at (state_of old) e) ≡ fresh old
anew old e = ap (λ (b : Bool). if b then fresh old else None) (client_entry (state_of old) e)

pub notes_entry : (old new : Seen) (e : ClientEvent) (a : ClientAnswer) → Admits e a old new → Notes e a (journal_after (fresh old) old.journal) new.journal
notes_entry old new e a admits =
    let entry = entered_at (state_of old) e in
    (entry, admits.answer_is, admits.accepts.enters.journal ∙ ap (λ (s : Option State). journal_after s old.journal ++ entry ∷ []) (anew old e))

pub base_is : (old new : Seen) (e : ClientEvent) (a : ClientAnswer) → Admits e a old new → new.base ≡ base_after (fresh old) (counts_of old) old.base
base_is old new e a admits = admits.accepts.enters.base ∙ ap (λ (s : Option State). base_after s (counts_of old) old.base) (anew old e)

-- a checkpoint leaves the whole journal that it ended
whole : (b : Bool) (s : State) (journal ended left : List Event) → b ≡ true → IsEndedBy (if b then Some s else None) journal ended left → left ≡ journal
whole true s journal ended left is by = by
whole false s journal ended left is by = absurd (cc (is))

pub ended_is : (old new : Seen) (e : ClientEvent) (a : ClientAnswer) → Admits e a old new → is_long old ≡ true → new.ended ≡ old.journal
ended_is old new e a admits long =
    whole (is_long old) (state_of old) old.journal old.ended new.ended long (subst (λ (s : Option State). IsEndedBy s old.journal old.ended new.ended) (anew old e) admits.accepts.enters.ended)

one_more : (c : Counts) (s : State) (e : ClientEvent) → count_one c (entered_at s e) ≡ record c { client = c.client + 1 }
one_more c s (DidOpen uri label text encoding) = refl
one_more c s (DidChange uri label edits) = refl
one_more c s (DidClose uri) = refl
one_more c s (Request id uri question links) = refl
one_more c s (Cancel id) = refl
one_more c s (Say body) = refl

plus_none : (n m : ℕ) → n ≡ m → n ≡ m + 0
plus_none n m q = search rules

pub adds_one : (old new : Seen) (e : ClientEvent) (a : ClientAnswer) → Admits e a old new → AddsEvents 1 0 0 0 0 old new
adds_one old new e a admits =
    let q = admits.accepts.enters.counts ∙ one_more (counts_of old) (state_of old) e in
    record {
      client_is = ap (λ (c : Counts). c.client) q;
      took_is = plus_none _ _ (ap (λ (c : Counts). c.took) q);
      returned_is = plus_none _ _ (ap (λ (c : Counts). c.returned) q);
      finished_is = plus_none _ _ (ap (λ (c : Counts). c.finished) q);
      sent_is = plus_none _ _ (ap (λ (c : Counts). c.sent) q);
    }

pub same_limits : (old new : Seen) (e : ClientEvent) (a : ClientAnswer) → Admits e a old new → HasLimits old.max_journal old.max_events new
same_limits old new e a admits = record { journal_is = admits.accepts.enters.most_journal; events_is = admits.accepts.enters.most }

-- the entry is the note, filled
pub filled_note : (e : ClientEvent) (a : ClientAnswer) (entry : Event) → entry_of e a ≡ Some entry → entry_of e a ≡ Some (filled (note_of e) a)
filled_note (DidOpen uri label text encoding) (answer.Version version) entry q = refl
filled_note (DidChange uri label edits) (answer.Version version) entry q = refl
filled_note (DidChange uri label edits) answer.Closed entry q = refl
filled_note (DidClose uri) answer.Closed entry q = refl
filled_note (Request id uri question links) (answer.Ticket ticket) entry q = refl
filled_note (Cancel id) (answer.Cancelled found) entry q = refl
filled_note (Say body) answer.Said entry q = refl
filled_note e a entry q = cc

-- the text that the note of an opening has is the event's
pub text_of_note : (e : ClientEvent) (uri : List ℕ) (label : ℤ) (text : List ℕ) (encoding : Encoding) (version : ℕ)
    → event.Opened uri label text encoding version ≡ note_of e → is_too_large text ≡ false → IsTextOf e text
text_of_note (DidOpen uri label text encoding) u l t c v q small = let same : t ≡ chars text = cc in (same, small)
text_of_note (DidChange uri label edits) u l t c v q small = tt
text_of_note (DidClose uri) u l t c v q small = tt
text_of_note (Request id uri question links) u l t c v q small = tt
text_of_note (Cancel id) u l t c v q small = tt
text_of_note (Say body) u l t c v q small = tt
