-- The first reply leaves; a new desk.
use Rattle.std.proofs.Common.{◌≡◌, ℕ, suc, zero, ◌<◌, List, [], ◌∷◌, ◌++◌, length, get_or, ltb, refl, sym, ap, ◌∙◌, subst, arith}
use Rattle.std.specs.Prelude.{Option, Some, None, IfSome, is_some, slice_get}
use Rattle.std.proofs.lemmas.Bool.{ltb-true}
use Rattle.std.proofs.lemmas.Option.{same_Some, slice_get_read}
use Rattle.ls_answers.specs.Told.{Told}
use Rattle.ls_machine.specs.declared.event.Event.{Event}
use Rattle.ls_machine.specs.declared.event.Event.TheVariants.{Sent}
use Rattle.ls_machine.specs.declared.event.Out.{Out}
use Rattle.ls_machine.specs.declared.state.Waiting.{Waiting}
use Rattle.ls_machine.specs.declared.state.Request.{Request}
use Rattle.ls_machine.specs.declared.state.OutboxEntry.{OutboxEntry}
use Rattle.ls_machine.specs.declared.state.OutboxEntry.TheVariants.{Body, Failure, Outcome}
use Rattle.ls_machine.specs.Machine.{step, IsPossible, rest, first_ticket, ticket_of}
use Rattle.ls_machine.specs.declared.base.Base.{Base}
use Rattle.ls_machine.specs.declared.base.Counts.{Counts}
use Rattle.ls_machine.specs.declared.state.State.{State}
use Rattle.ls_machine.specs.Counts.{first, no_events, total}
use Rattle.ls_machine.specs.Journal.{replay_from, IsLegalFrom, IsPast}
use Rattle.ls_desk.specs.Stands.{Enters, IsOutFor, AreOutsFor, Seen, Sends, StandsAt, Answers, out_of, state_of, ticket_of_out}
use Rattle.ls_desk.specs.declared.present.Present.{Present}
use Rattle.ls_desk.specs.declared.history.History.{History}
use Rattle.ls_desk.specs.own.Kept.{IsDeskKept}
use Rattle.ls_machine.specs.Laws.{WasEntryCurrent, WereEntriesCurrent}
use Rattle.ls_desk.proofs.Grows.{Stepped, Holds, seen}
use Rattle.ls_machine.proofs.Ordered.{ordered}
use Rattle.ls_machine.proofs.Replays.{counted_none, cut_none, legal_none, past_first, past_legal, past_state}

ticket_same : (e : OutboxEntry) (o : Out) → IsOutFor e o → ticket_of e ≡ ticket_of_out o
unfolding IsOutFor
ticket_same (Body body) o is = rw is refl
ticket_same (Failure ticket id code) o is = rw is refl
ticket_same (Outcome w) o is = rw is.1 (by_request w w.request is.0 is.2)
  where
    by_request : (w : Waiting) (r : Option Request) (done : Told) → Answers w done → w.ticket ≡ ticket_of_out (out_of w r done)
    by_request w None done a = sym a.ticket
    by_request w (Some r) done a = sym a.ticket

-- the first unsent entry, where a reply is there
pub record Front (s : List OutboxEntry) (o : Out) (os : List Out) : Type 0 where
  pub entry : OutboxEntry
  pub others : List OutboxEntry
  pub is : s ≡ entry ∷ others
  pub for : IsOutFor entry o
  pub outs : AreOutsFor others os

pub front : (es : List OutboxEntry) (o : Out) (os : List Out) → AreOutsFor es (o ∷ os) → Front es o os
unfolding AreOutsFor
front [] o os h = absurd h
front (e ∷ es) o os h = record { entry = e; others = es; is = refl; for = h.0; outs = h.1 }

send_possible : (s : State) (o : Out) (os : List Out) → Front s.unsent o os → IsPossible s (Sent (ticket_of_out o))
unfolding IsPossible
send_possible s o os f = ap first_ticket f.is ∙ ap Some (ticket_same f.entry o f.for)

pub sent : (s : State) (N : Present) (O : List Out) (o : Out) (os : List Out)
    → Holds s N O
    → Front s.unsent o os
    → Stepped s (Sent (ticket_of_out o)) N N os
unfolding step
sent s N O o os kept f =
    let P : List OutboxEntry → Type 0 = λ es. AreOutsFor (rest es) os in
    record {
      possible = send_possible s o os f;
      holds = record {
        documents_are = kept.documents_are;
        waiting_are = kept.waiting_are;
        version_is = kept.version_is;
        ticket_is = kept.ticket_is;
        outs = subst P (sym f.is) f.outs;
      };
      versions = omega arith;
      tickets = omega arith;
    }

pub kept_same : (B : Base) (J : List Event) (C : Counts) (N : Present) (O os : List Out) (longest most room : ℕ)
    → IsDeskKept B J C N O longest most room → O ≡ os → IsDeskKept B J C N os longest most room
kept_same B J C N O os longest most room kept same = let P : List Out → Type 0 = λ x. IsDeskKept B J C N x longest most room in subst P same kept

pub front_of : (es : List OutboxEntry) (O : List Out) (o : Out) (os : List Out) → AreOutsFor es O → O ≡ o ∷ os → Front es o os
front_of es O o os outs is = let P : List Out → Type 0 = λ x. AreOutsFor es x in front es o os (subst P is outs)

first_current : (js : List Event) (es : List OutboxEntry) (e : OutboxEntry) (fs : List OutboxEntry) → WereEntriesCurrent js es → es ≡ e ∷ fs → WasEntryCurrent js e
unfolding WereEntriesCurrent
first_current js es e fs h is = let P : List OutboxEntry → Type 0 = λ xs. WereEntriesCurrent js xs in (subst P is h).0

-- what was current in the events that led to a desk
current_in : (B : Base) (J : List Event) (most : ℕ) (past : List Event) → IsPast most B past → IsLegalFrom most (total B.counts) B.state J → WereEntriesCurrent (past ++ J) (replay_from B.state J).unsent
current_in B J most past is legal =
    let P : State → Type 0 = λ s. WereEntriesCurrent (past ++ J) s.unsent in
    subst P (past_state most B past J is) (ordered most (past ++ J) (past_legal most B past J is legal)).unsent

sends_from : (B : Base) (J : List Event) (C : Counts) (N : Present) (O : List Out) (longest most room : ℕ) (D : List Event) (new : Seen) (o : Out) (os : List Out)
    → IsDeskKept B J C N O longest most room
    → Front (replay_from B.state J).unsent o os
    → O ≡ o ∷ os
    → new.outbox ≡ os
    → Enters (seen B J O longest most D) new (Sent (ticket_of_out o))
    → Sends (seen B J O longest most D) new o
sends_from B J C N O longest most room D new o os kept f is same went = record {
  enters = went;
  first = is ∙ ap (λ (xs : List Out). o ∷ xs) (sym same);
  stands_for = (f.entry, f.others, f.is, f.for);
  was_current = (kept.past.0, kept.past.1, first_current (kept.past.0 ++ J) (replay_from B.state J).unsent f.entry f.others (current_in B J most kept.past.0 kept.past.1 kept.legal) f.is);
}

pub sends : (h : History) (N : Present) (O : List Out) (longest most : ℕ) (d new : Seen) (o : Out) (os : List Out)
    → IsDeskKept h.base h.events.items h.counts N O longest most h.events.room
    → seen h.base h.events.items O longest most h.events.ended ≡ d
    → Front (state_of d).unsent o os
    → O ≡ o ∷ os
    → new.outbox ≡ os
    → Enters d new (Sent (ticket_of_out o))
    → Sends d new o
sends h N O longest most d new o os kept view f is same went =
    let F : Seen → Type 0 = λ s. Front (state_of s).unsent o os in
    let E : Seen → Type 0 = λ s. Enters s new (Sent (ticket_of_out o)) in
    let P : Seen → Type 0 = λ s. Sends s new o in
    let back = sym view in
    subst P view (sends_from _ _ _ _ _ _ _ h.events.room _ new o os kept (subst F back f) is same (subst E back went))

-- ---- the unsent entries by their numbers

at_entry : (es : List OutboxEntry) (os : List Out) (i : ℕ) (o : Out) → AreOutsFor es os → slice_get os i ≡ Some o → (e : OutboxEntry) × (slice_get es i ≡ Some e) × IsOutFor e o
unfolding AreOutsFor
at_entry [] [] i o h is = absurd (cc)
at_entry [] (p ∷ ps) i o h is = absurd h
at_entry (e ∷ es) [] i o h is = absurd h
at_entry (e ∷ es) (p ∷ ps) zero o h is = let P : Out → Type 0 = λ x. IsOutFor e x in (e, refl, subst P (same_Some p o is) h.0)
at_entry (e ∷ es) (p ∷ ps) (suc i) o h is = at_entry es ps i o h.1 is

entry_at : (js : List Event) (es : List OutboxEntry) (i : ℕ) (e : OutboxEntry) → WereEntriesCurrent js es → slice_get es i ≡ Some e → WasEntryCurrent js e
unfolding WereEntriesCurrent
entry_at js [] i e h is = absurd (cc)
entry_at js (x ∷ es) zero e h is = let P : OutboxEntry → Type 0 = λ y. WasEntryCurrent js y in subst P (same_Some x e is) h.0
entry_at js (x ∷ es) (suc i) e h is = entry_at js es i e h.1 is

pub stands_at : {A : Type 0} (f : A → Out) (r : Option A) (B : Base) (J : List Event) (C : Counts) (N : Present) (O : List Out) (longest most room : ℕ) (D : List Event) (i : ℕ)
    → IsDeskKept B J C N O longest most room
    → is_some r ≡ ltb i (length O) → IfSome r (λ x. f x ≡ get_or O i (f x)) → IfSome r (λ x. StandsAt (seen B J O longest most D) i (f x))
stands_at f None B J C N O longest most room D i kept some is = tt
stands_at f (Some x) B J C N O longest most room D i kept some is =
    let found = slice_get_read O (length O) i (f x) refl (ltb-true i (length O) (sym some)) is in
    let e = at_entry (replay_from B.state J).unsent O i (f x) kept.outs found in
    (e.0, e.1, e.2, (kept.past.0, kept.past.1, entry_at (kept.past.0 ++ J) (replay_from B.state J).unsent i e.0 (current_in B J most kept.past.0 kept.past.1 kept.legal) e.1))

-- a new desk
pub kept_start : (B : Base) (J : List Event) (C : Counts) (N : Present) (O : List Out) (longest most room : ℕ)
    → B ≡ first → J ≡ [] → C ≡ no_events → N.documents.items ≡ [] → N.waiting.items ≡ [] → N.next_version ≡ 1 → N.next_ticket ≡ 1 → O ≡ [] → 0 < longest → 0 < most → most < 18446744073709551615 → IsDeskKept B J C N O longest most room
unfolding AreOutsFor replay_from
kept_start B J C N O longest most room b j c d w v t o least some few =
    let P : Base → Type 0 = λ x. IsDeskKept x J C N O longest most room in
    let Q : List Event → Type 0 = λ x. IsDeskKept first x C N O longest most room in
    let R : Counts → Type 0 = λ x. IsDeskKept first [] x N O longest most room in
    let S : List Out → Type 0 = λ x. IsDeskKept first [] no_events N x longest most room in
    subst P (sym b) (subst Q (sym j) (subst R (sym c) (subst S (sym o) (record {
      documents_are = d;
      waiting_are = w;
      version_is = v;
      ticket_is = t;
      outs = tt;
      past = ([], past_first most);
      legal = legal_none most _ _;
      cut = cut_none longest;
      counts_are = sym (counted_none no_events);
      versions = omega arith;
      tickets = omega arith;
      checkpoints = omega arith;
      earlier = omega arith;
      first_is = λ h. refl;
      begun = λ h. refl;
      least = least;
      most = few;
      used = omega arith;
      reserved = omega arith;
    }))))
