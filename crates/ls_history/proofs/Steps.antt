-- Steps of workers and of the writer: one is possible, and they come to an end.
use Rattle.std.proofs.Common.{◌≡◌, ⊎_elim, inl, inr, ◌∙◌, ◌+◌, ◌<◌, ◌≤◌, ◌++◌, ◌∷◌, [], ℕ, zero, suc, List, Bool, true, false, Option, Some, None, length, refl, ap, sym, subst, arith, append_assoc, append-nil, length-append}
use Rattle.std.specs.Prelude.{unwrap_or}
use Rattle.std.proofs.lemmas.Bool.{cases_lt}
use Rattle.std.proofs.lemmas.List.Elements.{filter_map-append}
use Rattle.ls_answers.specs.Told.{Told}
use Rattle.ls_answers.proofs.Documents.{some_document_answer}
use Rattle.ls_machine.specs.Machine.{IsPossible, first_ticket, step, ticket_of}
use Rattle.ls_machine.specs.Progress as machine
use Rattle.ls_machine.specs.declared.event.Event.{Event}
use Rattle.ls_machine.specs.declared.event.Event.TheVariants.{Opened, Changed, Closed, Asked, Cancelled, Said, Took, Returned, Finished, Sent}
use Rattle.ls_machine.specs.declared.event.Out.{Out}
use Rattle.ls_machine.specs.declared.event.Out.TheVariants as out
use Rattle.ls_machine.specs.declared.state.OutboxEntry.{OutboxEntry}
use Rattle.ls_machine.specs.declared.state.OutboxEntry.TheVariants.{Body, Failure, Outcome}
use Rattle.ls_machine.specs.declared.state.Request.{Request}
use Rattle.ls_machine.specs.declared.state.Waiting.{Waiting}
use Rattle.ls_machine.proofs.Steps.{goes_on, nothing_left, steps_few}
use Rattle.ls_machine.proofs.Replays.{total_one}
use Rattle.ls_machine.proofs.ShortTexts.{AreShort, Each, IsShortEntry, short_legal}
use Rattle.ls_desk.specs.Stands.{IsOutFor, out_of, ticket_of_out}
use Rattle.ls_history.specs.declared.history_entry.HistoryEntry.{HistoryEntry}
use Rattle.ls_history.specs.declared.history_entry.HistoryEntry.TheVariants.{Began, Heard, Left, Stopped, Worked}
use Rattle.ls_history.specs.History.{IsLegalHistory, IsLegalHistoryFrom, IsReplyOut, IsRoomy, MayHappen, replay_entries}
use Rattle.ls_history.specs.Places.{Place, beginning, happens}
use Rattle.ls_history.specs.Progress.{AreSteps, BoardCanGoOn, HasRoomForSteps, SchedulesEnd, BoardStepsAreFew, BoardWorkGoesOn, is_board_step, steps_left}
use Rattle.ls_history.specs.Told.{heard_of, heard_of_one}
use Rattle.ls_history.proofs.Histories.{legal_more, replay_more}
use Rattle.ls_history.proofs.Journals.{histories_journals}

-- ---- each step leaves fewer

few_by : (p : Place) (e : Event) → machine.is_step e ≡ true → IsPossible p.state e → machine.left (step p.state e) < machine.left p.state
few_by p e is possible = steps_few p.state e is possible

-- what stays within the room when fewer are left by one event more
room_by : (p : Place) (e : Event) → machine.left (step p.state e) < machine.left p.state → HasRoomForSteps p → HasRoomForSteps (happens p (Worked e))
room_by p e fewer room = omega (arith, fewer, room, total_one p.counts e)

pub few_steps : BoardStepsAreFew
few_steps p (Began most) is may = absurd (cc (is))
few_steps p (Heard e reply) is may = absurd (cc (is))
few_steps p (Stopped stop) is may = absurd (cc (is))
few_steps p (Left out) is may = let e = Sent (ticket_of_out out) in let fewer = few_by p e refl may.0.0 in (fewer, room_by p e fewer)
few_steps p (Worked (Opened uri label text encoding version)) is may = absurd (cc (is))
few_steps p (Worked (Changed uri label edits version)) is may = absurd (cc (is))
few_steps p (Worked (Closed uri)) is may = absurd (cc (is))
few_steps p (Worked (Asked id uri ask links ticket)) is may = absurd (cc (is))
few_steps p (Worked (Cancelled id found)) is may = absurd (cc (is))
few_steps p (Worked (Said body)) is may = absurd (cc (is))
few_steps p (Worked (Took worker)) is may = let e = Took worker in let fewer = few_by p e refl may.0.0 in (fewer, room_by p e fewer)
few_steps p (Worked (Returned ticket)) is may = absurd (cc (is))
few_steps p (Worked (Finished ticket failed)) is may = let e = Finished ticket failed in let fewer = few_by p e refl may.0.0 in (fewer, room_by p e fewer)
few_steps p (Worked (Sent ticket)) is may = absurd (cc (is))

-- ---- the texts of a legal history's place are short

short_by : (o : Option ℕ) (log : List HistoryEntry) → (replay_entries beginning log).limit ≡ o → IsLegalHistory log → HasRoomForSteps (replay_entries beginning log) → 0 < steps_left (replay_entries beginning log) → AreShort (replay_entries beginning log).state
short_by None log limit legal room more =
    let most : unwrap_or (replay_entries beginning log).limit 0 ≡ 0 = ap (λ (l : Option ℕ). unwrap_or l 0) limit in
    absurd (omega (arith, most, room, more))
short_by (Some most) log limit legal room more =
    let is = histories_journals most log legal limit in subst AreShort is.state_is (short_legal most _ is.legal)

-- ---- what can leave

record Leaving (e : OutboxEntry) : Type 0 where
  leaves : Out
  is_for : IsOutFor e leaves
  ticket_is : ticket_of e ≡ ticket_of_out leaves

ticket_of_run : (w : Waiting) (r : Option Request) (done : Told) → done.ticket ≡ ticket_of_out (out_of w r done)
ticket_of_run w None done = refl
ticket_of_run w (Some r) done = refl

some_out : (e : OutboxEntry) → IsShortEntry e → Leaving e
unfolding IsOutFor
some_out (Body body) h = record { leaves = out.Said body; is_for = refl; ticket_is = refl }
some_out (Failure ticket id code) h = record { leaves = out.Failed ticket id code; is_for = refl; ticket_is = refl }
some_out (Outcome w) h =
    let a = some_document_answer w.encoding w.text w.ask h in
    let done : Told = record { ticket = w.ticket; text = w.text; encoding = w.encoding; ask = w.ask; answer = Some a.0 } in
    record {
      leaves = out_of w w.request done;
      is_for = (done, refl, record { ticket = refl; text = refl; encoding = refl; ask = refl; right = (a.0, refl, a.1) });
      ticket_is = ticket_of_run w w.request done;
    }

-- the first entry has a reply
reply_out : (p : Place) (es : List OutboxEntry) (ticket : ℕ) → p.state.unsent ≡ es → first_ticket es ≡ Some ticket → Each IsShortEntry es → (out : Out) × IsReplyOut p out
unfolding IsPossible
reply_out p [] ticket is first short = absurd (cc (first))
reply_out p (e ∷ es) ticket is first short =
    let o = some_out e short.0 in
    (o.leaves, (ap first_ticket is ∙ ap Some o.ticket_is, (e, es, is, o.is_for)))

-- ---- so something can be done

-- an event of a worker or of the writer that leaves fewer has room
roomy_by : (p : Place) (e : Event) → machine.left (step p.state e) < machine.left p.state → HasRoomForSteps p → IsRoomy (happens p (Worked e))
roomy_by p e fewer room = omega (arith, fewer, room, total_one p.counts e)

takes : (p : Place) → HasRoomForSteps p → ((worker : ℕ) → IsPossible p.state (Took worker)) → (worker : ℕ) → MayHappen p (Worked (Took worker))
takes p room possible worker = let e = Took worker in ((possible worker, refl), roomy_by p e (few_by p e refl (possible worker)) room)

finishes : (p : Place) (ticket : ℕ) → HasRoomForSteps p → ((failed : Bool) → IsPossible p.state (Finished ticket failed)) → (failed : Bool) → MayHappen p (Worked (Finished ticket failed))
finishes p ticket room possible failed = let e = Finished ticket failed in ((possible failed, refl), roomy_by p e (few_by p e refl (possible failed)) room)

leaves : (p : Place) (ticket : ℕ) → HasRoomForSteps p → AreShort p.state → IsPossible p.state (Sent ticket) → (out : Out) × MayHappen p (Left out)
unfolding IsPossible
leaves p ticket room short possible =
    let o = reply_out p p.state.unsent ticket refl possible short.unsent in
    let e = Sent (ticket_of_out o.0) in
    (o.0, (o.1, roomy_by p e (few_by p e refl o.1.0) room))

goes : (p : Place) → HasRoomForSteps p → AreShort p.state → machine.CanGoOn p.state → BoardCanGoOn p
goes p room short (inl take) = inl (takes p room take)
goes p room short (inr (inl finish)) = inr (inl (finish.0, finishes p finish.0 room finish.1))
goes p room short (inr (inr send)) = inr (inr (leaves p send.0 room short send.1))

pub histories_go_on : BoardWorkGoesOn
histories_go_on log legal room more =
    let p = replay_entries beginning log in
    goes p room (short_by p.limit log refl legal room more) (goes_on p.state more)

-- ---- and all comes to an end

-- one step that can be made
record Step (p : Place) : Type 0 where
  entry : HistoryEntry
  may : MayHappen p entry
  is : is_board_step entry ≡ true

one_step : (p : Place) → BoardCanGoOn p → Step p
one_step p (inl take) = record { entry = Worked (Took 0); may = take 0; is = refl }
one_step p (inr (inl finish)) = record { entry = Worked (Finished finish.0 false); may = finish.1 false; is = refl }
one_step p (inr (inr send)) = record { entry = Left send.0; may = send.1; is = refl }

-- steps behind a history that leave nothing
record Ends (log : List HistoryEntry) : Type 0 where
  more : List HistoryEntry
  steps : AreSteps more
  few : length more ≤ steps_left (replay_entries beginning log)
  legal : IsLegalHistory (log ++ more)
  none : steps_left (replay_entries beginning (log ++ more)) ≡ 0

ended : (log : List HistoryEntry) → IsLegalHistory log → steps_left (replay_entries beginning log) ≡ 0 → Ends log
ended log legal none = record {
  more = [];
  steps = tt;
  few = omega arith;
  legal = subst IsLegalHistory (sym (append-nil log)) legal;
  none = ap (λ (l : List HistoryEntry). steps_left (replay_entries beginning l)) (append-nil log) ∙ none;
}

after : (log : List HistoryEntry) (h : HistoryEntry) → is_board_step h ≡ true → steps_left (replay_entries beginning (log ++ h ∷ [])) < steps_left (replay_entries beginning log) → Ends (log ++ h ∷ []) → Ends log
after log h is fewer ends =
    let all : (log ++ h ∷ []) ++ ends.more ≡ log ++ h ∷ ends.more = append_assoc log (h ∷ []) ends.more in
    record {
      more = h ∷ ends.more;
      steps = (is, ends.steps);
      few = omega (arith, fewer, ends.few);
      legal = subst IsLegalHistory all ends.legal;
      none = ap (λ (l : List HistoryEntry). steps_left (replay_entries beginning l)) (sym all) ∙ ends.none;
    }

step_on : (log : List HistoryEntry) → IsLegalHistory log → HasRoomForSteps (replay_entries beginning log) → 0 < steps_left (replay_entries beginning log)
    → ((next : List HistoryEntry) → IsLegalHistory next → HasRoomForSteps (replay_entries beginning next) → steps_left (replay_entries beginning next) < steps_left (replay_entries beginning log) → Ends next) → Ends log
step_on log legal room more later =
    let p = replay_entries beginning log in
    let s = one_step p (histories_go_on log legal room more) in
    let few = few_steps p s.entry s.is s.may in
    let led : happens p s.entry ≡ replay_entries beginning (log ++ s.entry ∷ []) = sym (replay_more beginning log (s.entry ∷ [])) in
    let fewer = subst (λ (q : Place). steps_left q < steps_left p) led few.0 in
    after log s.entry s.is fewer (later (log ++ s.entry ∷ []) (legal_more beginning log s.entry legal s.may) (subst HasRoomForSteps led (few.1 room)) fewer)

ends_within : (fuel : ℕ) (log : List HistoryEntry) → IsLegalHistory log → HasRoomForSteps (replay_entries beginning log) → steps_left (replay_entries beginning log) ≤ fuel → Ends log
ends_within zero log legal room within = ended log legal (omega (arith, within))
ends_within (suc fuel) log legal room within = ⊎_elim
    (λ more. step_on log legal room more (λ next fine roomy fewer. ends_within fuel next fine roomy (omega (arith, within, fewer))))
    (λ none. ended log legal (omega (arith, none)))
    (cases_lt 0 (steps_left (replay_entries beginning log)))

-- ---- whichever steps were made

pub legal_behind : (p : Place) (xs ys : List HistoryEntry) → IsLegalHistoryFrom p (xs ++ ys) → IsLegalHistoryFrom (replay_entries p xs) ys
legal_behind p [] ys legal = legal
legal_behind p (x ∷ xs) ys legal = legal_behind (happens p x) xs ys legal.1

-- they have left fewer, and there is room for these
record Kept (p q : Place) (made : List HistoryEntry) : Type 0 where
  room : HasRoomForSteps q
  few : length made + steps_left q ≤ steps_left p

kept_by : (p : Place) (made : List HistoryEntry) → IsLegalHistoryFrom p made → AreSteps made → HasRoomForSteps p → Kept p (replay_entries p made) made
kept_by p [] legal steps room = record { room = room; few = omega arith }
kept_by p (h ∷ hs) legal steps room =
    let one = few_steps p h steps.0 legal.0 in
    let rest = kept_by (happens p h) hs legal.1 steps.1 (one.1 room) in
    record { room = rest.room; few = omega (arith, one.0, rest.few) }

pub schedules : SchedulesEnd
schedules log made legal steps room =
    let p = replay_entries beginning log in
    let led : replay_entries p made ≡ replay_entries beginning (log ++ made) = sym (replay_more beginning log made) in
    let kept = subst (λ (q : Place). Kept p q made) led (kept_by p made (legal_behind beginning log made legal) steps room) in
    let ends = ends_within (steps_left (replay_entries beginning (log ++ made))) (log ++ made) legal kept.room (omega arith) in
    let none = nothing_left (replay_entries beginning (log ++ made ++ ends.more)).state ends.none in
    record {
      more = ends.more;
      steps = ends.steps;
      few = omega (arith, kept.few, ends.few, length-append made ends.more);
      legal = ends.legal;
      none_waits = none.0;
      none_unsent = none.1;
    }

-- ---- and nothing is heard there

steps_heard : (more : List HistoryEntry) → AreSteps more → heard_of more ≡ []
steps_heard [] steps = refl
steps_heard (Began most ∷ hs) steps = absurd (cc (steps.0))
steps_heard (Heard e reply ∷ hs) steps = absurd (cc (steps.0))
steps_heard (Left out ∷ hs) steps = steps_heard hs steps.1
steps_heard (Worked event ∷ hs) steps = steps_heard hs steps.1
steps_heard (Stopped stop ∷ hs) steps = absurd (cc (steps.0))

pub heard_stays : (log more : List HistoryEntry) → AreSteps more → heard_of (log ++ more) ≡ heard_of log
heard_stays log more steps = filter_map-append heard_of_one log more ∙ (ap (λ l. heard_of log ++ l) (steps_heard more steps) ∙ append-nil (heard_of log))
