-- A job that has run was taken.
use Rattle.std.proofs.Common.{◌≡◌, ℕ, Bool, true, false, List, [], ◌∷◌, ◌++◌, refl}
use Rattle.std.specs.Prelude.{ℤ, Option, Some, None, find, ◌==◌, cond}
use Rattle.std.proofs.lemmas.Bool.{and_parts}
use Rattle.ls_rpc.specs.declared.message.Id.{Id}
use Rattle.ls_text.specs.Positions.{Measured}
use Rattle.ls_answers.specs.declared.ask.Ask.{Ask}
use Rattle.ls_machine.specs.declared.event.Event.{Event}
use Rattle.ls_machine.specs.declared.state.Document.{Document}
use Rattle.ls_machine.specs.declared.event.Event.TheVariants.{Opened, Changed, Closed, Asked, Cancelled, Said, Took, Returned, Finished, Sent}
use Rattle.ls_machine.specs.declared.state.State.{State}
use Rattle.ls_machine.specs.declared.state.Waiting.{Waiting}
use Rattle.ls_machine.specs.declared.state.Request.{Request}
use Rattle.ls_machine.specs.declared.state.OutboxEntry.{OutboxEntry}
use Rattle.ls_machine.specs.declared.state.OutboxEntry.TheVariants.{Body, Failure, Outcome}
use Rattle.ls_machine.specs.Machine.{start, step, is_held, is_ended, asks_with, content_modified, request_cancelled, internal_error, document_of, edited_at, told_to, told_end, told_if_found, end_of, ends, left_by, left_at, rest, put_text, close_text, ask_at}
use Rattle.ls_machine.specs.Journal.{replay_from}
use Rattle.ls_machine.proofs.Places.{found_passes}

-- each outcome's job was taken
unfoldable pub WereTaken : List OutboxEntry → Type 0
WereTaken [] = Unit {0}
WereTaken (Body body ∷ es) = WereTaken es
WereTaken (Failure ticket id code ∷ es) = WereTaken es
WereTaken (Outcome w ∷ es) = (w.taken ≡ true) × WereTaken es

taken_append : (es fs : List OutboxEntry) → WereTaken es → WereTaken fs → WereTaken (es ++ fs)
unfolding WereTaken
taken_append [] fs h k = k
taken_append (Body body ∷ es) fs h k = taken_append es fs h k
taken_append (Failure ticket id code ∷ es) fs h k = taken_append es fs h k
taken_append (Outcome w ∷ es) fs h k = (h.0, taken_append es fs h.1 k)

taken_rest : (es : List OutboxEntry) → WereTaken es → WereTaken (rest es)
unfolding WereTaken
taken_rest [] h = tt
taken_rest (Body body ∷ es) h = h
taken_rest (Failure ticket id code ∷ es) h = h
taken_rest (Outcome w ∷ es) h = h.1

taken_body : (body : List ℕ) → WereTaken (Body body ∷ [])
unfolding WereTaken
taken_body body = tt

taken_told : (ticket : ℕ) (code : ℤ) (r : Option Request) → WereTaken (told_to ticket code r)
unfolding WereTaken
taken_told ticket code None = tt
taken_told ticket code (Some r) = tt

taken_at : (code : ℤ) (o : Option Waiting) → WereTaken (told_if_found code o)
unfolding WereTaken
taken_at code None = tt
taken_at code (Some w) = taken_told w.ticket code w.request

taken_if : (b : Bool) (es : List OutboxEntry) → WereTaken es → WereTaken (cond b es [])
unfolding WereTaken
taken_if true es h = h
taken_if false es h = tt

taken_ends : (uri : List ℕ) (ws : List Waiting) → WereTaken (ends uri ws)
unfolding WereTaken
taken_ends uri [] = tt
taken_ends uri (w ∷ ws) = taken_append (end_of uri w) (ends uri ws) (taken_if (is_ended uri w) (told_end content_modified w) (taken_told w.ticket content_modified w.request)) (taken_ends uri ws)

taken_left : (failed : Bool) (w : Waiting) → w.taken ≡ true → WereTaken (left_by failed w)
unfolding WereTaken
taken_left true w h = taken_told w.ticket internal_error w.request
taken_left false w h = (h, tt)

taken_left_at : (failed : Bool) (o : Option Waiting) → ((w : Waiting) → o ≡ Some w → w.taken ≡ true) → WereTaken (left_at failed o)
unfolding WereTaken
taken_left_at failed None f = tt
taken_left_at failed (Some w) f = taken_left failed w (f w refl)

taken_put : (s : State) (uri : List ℕ) (label : ℤ) (x : Option Measured) → WereTaken s.unsent → WereTaken (put_text s uri label x).unsent
taken_put s uri label None h = h
taken_put s uri label (Some text) h = h

taken_ask : (s : State) (id : Id) (o : Option Document) (question : Ask) (links : Bool) → WereTaken s.unsent → WereTaken (ask_at s id o question links).unsent
taken_ask s id None question links h = h
taken_ask s id (Some d) question links h = h

taken_step : (s : State) (e : Event) → WereTaken s.unsent → WereTaken (step s e).unsent
unfolding step
taken_step s (Opened uri label text encoding version) h = h
taken_step s (Changed uri label edits version) h =
    taken_put (close_text s uri) uri label (edited_at (document_of uri s.documents) edits) (taken_append s.unsent (ends uri s.waiting) h (taken_ends uri s.waiting))
taken_step s (Closed uri) h = taken_append s.unsent (ends uri s.waiting) h (taken_ends uri s.waiting)
taken_step s (Asked id uri question links ticket) h = taken_ask s id (document_of uri s.documents) question links h
taken_step s (Cancelled id found) h = taken_append s.unsent _ h (taken_at request_cancelled (find (asks_with id) s.waiting))
taken_step s (Said body) h = taken_append s.unsent (Body body ∷ []) h (taken_body body)
taken_step s (Took worker) h = h
taken_step s (Returned ticket) h = h
taken_step s (Finished ticket failed) h =
    taken_append s.unsent _ h (taken_left_at failed (find (is_held ticket) s.waiting) (λ w f. (and_parts (w.ticket == ticket) w.taken (found_passes (is_held ticket) s.waiting w f)).1))
taken_step s (Sent ticket) h = taken_rest s.unsent h

taken_from : (s : State) (es : List Event) → WereTaken s.unsent → WereTaken (replay_from s es).unsent
unfolding replay_from
taken_from s [] h = h
taken_from s (e ∷ es) h = taken_from (step s e) es (taken_step s e h)

-- where events lead to from the start, every outcome's job was taken
pub taken_all : (es : List Event) → WereTaken (replay_from start es).unsent
unfolding WereTaken
taken_all es = taken_from start es tt
