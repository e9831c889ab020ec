-- Whichever steps are made behind a place of a run's history, they can come to where each request has been answered.
use Rattle.std.proofs.Common.{◌≡◌, ◌∙◌, ℕ, ◌≤◌, List, ◌∷◌, ◌++◌, Option, None, Some, Ok, Bool, length, refl, ap, subst, arith, length-append}
use Rattle.std.specs.Prelude.{filter_map, unwrap_or}
use Rattle.std.proofs.lemmas.List.Elements.{filter_map-append}
use Rattle.ls_rpc.specs.declared.message.Id.{Id}
use Rattle.ls_answers.specs.declared.ask.Ask.{Ask}
use Rattle.ls_machine.specs.declared.client.ClientAnswer.TheVariants.{Ticket}
use Rattle.ls_machine.specs.declared.client.ClientEvent.TheVariants.{Request}
use Rattle.ls_history.specs.declared.history_entry.HistoryEntry.{HistoryEntry}
use Rattle.ls_history.specs.History.{IsLegalHistory, replay_entries}
use Rattle.ls_history.specs.Laws.{answer_of_one}
use Rattle.ls_history.specs.Places.{Place, beginning}
use Rattle.ls_history.specs.Progress.{AreSteps, CanEnd, HasRoomForSteps}
use Rattle.ls_history.specs.Told.{heard_of, outs_of}
use Rattle.ls_history.proofs.Histories.{legal_before, replay_more}
use Rattle.ls_history.proofs.Journals.{limit_kept}
use Rattle.ls_history.proofs.Steps.{heard_stays, legal_behind, schedules}
use Rattle.ls_history.proofs.Tells.{histories_count}
use Rattle.ls_threads.specs.Reading.{HeardReplies}
use Rattle.ls_threads.specs.Laws.{EachRequest, IsAnsweredOnce}
use Rattle.ls_threads.specs.Progress.{RunsCanEnd}
use Rattle.ls_threads.proofs.Answered.{history_answers}

-- a request that was accepted has an answer
one_answer : (heard before later : HeardReplies) (id : Id) (uri : List ℕ) (question : Ask) (links : Bool) (ticket : ℕ)
    → heard ≡ before ++ (Request id uri question links, Ok (Ticket ticket)) ∷ later → 1 ≤ length (filter_map answer_of_one heard)
one_answer heard before later id uri question links ticket among =
    let behind : HeardReplies = (Request id uri question links, Ok (Ticket ticket)) ∷ later in
    let parts : length (filter_map answer_of_one heard) ≡ length (filter_map answer_of_one before ++ filter_map answer_of_one behind) =
    ap (λ (l : HeardReplies). length (filter_map answer_of_one l)) among ∙ ap length (filter_map-append answer_of_one before behind) in
    omega (arith, parts, length-append (filter_map answer_of_one before) (filter_map answer_of_one behind))

-- where the board hasn't begun there is room for no event, so nothing was accepted
none_accepted : (log : List HistoryEntry) → IsLegalHistory log → (replay_entries beginning log).limit ≡ None → HasRoomForSteps (replay_entries beginning log) → (P : ℕ → Id → Type 0) → EachRequest P (heard_of log)
none_accepted log legal limit room P = λ before later id uri question links ticket among.
    let most : unwrap_or (replay_entries beginning log).limit 0 ≡ 0 = ap (λ (l : Option ℕ). unwrap_or l 0) limit in
    let one = one_answer (heard_of log) before later id uri question links ticket among in
    absurd (omega (arith, most, room, one, (histories_count log legal).0))

-- what a history goes on by doesn't change the limit
limit_stays : (most : ℕ) (log more : List HistoryEntry) → (replay_entries beginning log).limit ≡ Some most → IsLegalHistory (log ++ more) → (replay_entries beginning (log ++ more)).limit ≡ Some most
limit_stays most log more limit legal =
    ap (λ (p : Place). p.limit) (replay_more beginning log more) ∙ limit_kept most (replay_entries beginning log) more limit (legal_behind beginning log more legal)

answered_by : (o : Option ℕ) (log made : List HistoryEntry) (end : CanEnd log made) → (replay_entries beginning log).limit ≡ o → IsLegalHistory (log ++ made) → AreSteps made → HasRoomForSteps (replay_entries beginning log)
    → EachRequest (IsAnsweredOnce (outs_of (log ++ made ++ end.more))) (heard_of log)
answered_by None log made end limit legal steps room =
    none_accepted log (legal_before beginning log made legal) limit room (IsAnsweredOnce (outs_of (log ++ made ++ end.more)))
answered_by (Some most) log made end limit legal steps room =
    let kept = limit_stays most (log ++ made) end.more (limit_stays most log made limit legal) end.legal in
    let same = heard_stays (log ++ made) end.more end.steps ∙ heard_stays log made steps in
    subst (EachRequest (IsAnsweredOnce (outs_of (log ++ made ++ end.more)))) same (history_answers most (log ++ made ++ end.more) end.legal kept end.none_waits end.none_unsent)

pub runs_end : RunsCanEnd
runs_end journal events status input left old new served front made begins legal steps room =
    let end = schedules front made legal steps room in
    record { end = end; answered = answered_by (replay_entries beginning front).limit front made end refl legal steps room }
