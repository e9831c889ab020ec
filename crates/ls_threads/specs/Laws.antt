-- What holds of each run that ended well.
use Rattle.std.specs.List.{AllByRecursion}
use Rattle.std.specs.Prelude.{◌≡◌, ◌++◌, ◌∷◌, ◌==◌, ℕ, List, [], count_by, Bool, Option, Ok}
use Rattle.ls_rpc.specs.declared.message.Id.{Id}
use Rattle.ls_answers.specs.declared.ask.Ask.{Ask}
use Rattle.ls_machine.specs.declared.client.ClientAnswer.TheVariants.{Ticket}
use Rattle.ls_machine.specs.declared.client.ClientEvent.TheVariants.{Request}
use Rattle.ls_machine.specs.declared.event.Out.{Out}
use Rattle.ls_machine.specs.declared.event.Out.TheVariants.{Said, Replied, Failed, Findings}
use Rattle.ls_session.specs.declared.turn.Status.{Status}
use Rattle.ls_desk.specs.Stands.{state_of, ticket_of_out}
use Rattle.ls_history.specs.Laws.{IsJournal}
use Rattle.ls_history.specs.Places.{place_of_desk}
use Rattle.ls_history.specs.Told.{heard_of, outs_of}
use Rattle.ls_threads.specs.Reading.{HeardReplies}
use Rattle.ls_threads.specs.Served.{IsServed}

-- This holds of each request that was accepted, by the ticket that it got and by its id.
abbrev pub EachRequest : (ℕ → Id → Type 0) → HeardReplies → Type 0
EachRequest P heard = (before later : HeardReplies) (id : Id) (uri : List ℕ) (question : Ask) (links : Bool) (ticket : ℕ)
    → heard ≡ before ++ (Request id uri question links, Ok (Ticket ticket)) ∷ later → P ticket id

-- The reply is one to the request with this id: its answer, or its error.
abbrev pub IsReplyTo : Id → Out → Type 0
IsReplyTo id (Said body) = ⊥
IsReplyTo id (Replied other uri version label links done) = other ≡ id
IsReplyTo id (Failed ticket other code) = other ≡ id
IsReplyTo id (Findings uri version label done) = ⊥

-- Just one of these replies has this ticket, and it is to the request with this id.
pub record IsAnsweredOnce (outs : List Out) (ticket : ℕ) (id : Id) : Type 0 where
  pub once : count_by (λ out. ticket_of_out out == ticket) outs ≡ 1
  pub to : AllByRecursion (λ out. ticket_of_out out ≡ ticket → IsReplyTo id out) outs

-- The machine's events that stand in a run's history are a legal journal from the start of a session, within the run's limit, and lead to
-- the state and to the counts of the run's desk.
abbrev pub RunsAreJournals : Type 0
RunsAreJournals = (journal events : ℕ) (status : Status) (input left old new : Option (List ℕ)) (served : IsServed journal events status input left old new)
    → IsJournal events served.log (place_of_desk served.desk)

-- Where no job waits in the end, as where the status isn't a full session's, each request of the client that was accepted is answered once
-- by the replies of the run's history, which are those whose frames were written.
abbrev pub RequestsAreAnsweredOnce : Type 0
RequestsAreAnsweredOnce = (journal events : ℕ) (status : Status) (input left old new : Option (List ℕ)) (served : IsServed journal events status input left old new)
    → (state_of served.desk).waiting ≡ [] → EachRequest (IsAnsweredOnce (outs_of served.log)) (heard_of served.log)
