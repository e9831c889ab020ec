-- What each event leaves.
use Rattle.std.proofs.Common.{◌≡◌, ℕ, ◌+◌, ◌≤◌, ◌<◌, Bool, true, false, List, [], ◌∷◌, ◌++◌, length, refl, sym, ap, ◌∙◌, subst, arith}
use Rattle.std.specs.Prelude.{ℤ, Option, Some, None, find, is_some, is_none, IfSome, ◌==◌, cond}
use Rattle.std.specs.Option.{option_map}
use Rattle.std.proofs.lemmas.Bool.{and_parts, eqb-true}
use Rattle.ls_text.specs.Edits.{is_too_large}
use Rattle.ls_text.specs.Positions.{Measured}
use Rattle.ls_text.specs.declared.position.Encoding.{Encoding}
use Rattle.std.proofs.Common.{append-nil}
use Rattle.ls_text.specs.declared.edit.Edit.{Edit}
use Rattle.ls_machine.specs.declared.event.Event.TheVariants.{Opened, Changed, Closed, Asked, Cancelled, Said, Took, Returned, Finished}
use Rattle.ls_machine.specs.declared.event.Out.{Out}
use Rattle.ls_machine.specs.declared.state.Document.{Document}
use Rattle.ls_machine.specs.declared.state.Waiting.{Waiting}
use Rattle.ls_machine.specs.declared.state.OutboxEntry.{OutboxEntry}
use Rattle.ls_machine.specs.declared.state.OutboxEntry.TheVariants.{Body}
use Rattle.ls_machine.specs.declared.event.Out.TheVariants as out
use Rattle.ls_desk.specs.declared.texts.Next.{Next}
use Rattle.ls_rpc.specs.declared.message.Id.{Id}
use Rattle.ls_answers.specs.declared.ask.Ask.{Ask}
use Rattle.ls_answers.specs.declared.answer.Answer.{Answer}
use Rattle.ls_answers.specs.Told.{Told}
use Rattle.ls_answers.specs.Answers.{IsAnswer}
use Rattle.ls_machine.specs.declared.state.State.{State}
use Rattle.ls_machine.specs.Machine.{step, IsPossible, is_open, document_of, edited_at, measured, others, going_on, ends, version_if, put_text, close_text, asked, ask_at, requests, id_waits, asks_with, request_cancelled, internal_error, told_if_found, told_end, left_at, left_by, is_held, is_queued, on_first, with_taken, without_first_job}
use Rattle.ls_desk.specs.declared.present.Present.{Present}
use Rattle.ls_desk.specs.Stands.{AreOutsFor, IsOutFor, failures, failed, finished, out_of}
use Rattle.ls_machine.specs.Same.{is_for}
use Rattle.ls_desk.specs.own.Puts.{next_of, documents_of, jobs_of, count_of}
use Rattle.ls_desk.proofs.Grows.{Holds, Stepped, outs_append, outs_length, failures_outs, failed_outs}
use Rattle.ls_machine.proofs.Places.{found_passes}
use Rattle.ls_machine.proofs.Same.{run_of}

-- ---- a new text

record Puts (s : State) (uri : List ℕ) (label : ℤ) (x : Option Measured) : Type 0 where
  pub documents : s.documents ++ documents_of (next_of s.next_version s.next_ticket uri label x) ≡ (put_text s uri label x).documents
  pub waiting : s.waiting ++ jobs_of (next_of s.next_version s.next_ticket uri label x) ≡ (put_text s uri label x).waiting
  pub version : s.next_version + count_of (next_of s.next_version s.next_ticket uri label x) ≡ (put_text s uri label x).next_version
  pub ticket : s.next_ticket + count_of (next_of s.next_version s.next_ticket uri label x) ≡ (put_text s uri label x).next_ticket
  pub unsent : s.unsent ≡ (put_text s uri label x).unsent

puts : (s : State) (uri : List ℕ) (label : ℤ) (x : Option Measured) → Puts s uri label x
puts s uri label None = record { documents = append-nil s.documents; waiting = append-nil s.waiting; version = omega arith; ticket = omega arith; unsent = refl }
puts s uri label (Some m) = record { documents = refl; waiting = refl; version = refl; ticket = refl; unsent = refl }

count_le : (n : Option Next) → count_of n ≤ 1
count_le None = omega arith
count_le (Some n) = omega arith

version_same : (n v t : ℕ) (uri : List ℕ) (label : ℤ) (x : Option Measured) → version_if n (next_of v t uri label x) ≡ version_if n x
version_same n v t uri label None = refl
version_same n v t uri label (Some m) = refl

change_possible : (s : State) (uri : List ℕ) (label : ℤ) (edits : List Edit) (version : Option ℕ) → is_open uri s.documents ≡ true → version ≡ version_if s.next_version (edited_at (document_of uri s.documents) edits) → IsPossible s (Changed uri label edits version)
unfolding IsPossible
change_possible s uri label edits version there is = (there, is)

pub changed : (s : State) (N : Present) (O : List Out) (uri : List ℕ) (label : ℤ) (edits : List Edit) (next : Option Next)
    (N' : Present) (O' : List Out)
    → Holds s N O
    → is_open uri s.documents ≡ true
    → next ≡ next_of s.next_version s.next_ticket uri label (edited_at (document_of uri s.documents) edits)
    → N'.documents.items ≡ others uri N.documents.items ++ documents_of next
    → N'.waiting.items ≡ going_on uri N.waiting.items ++ jobs_of next
    → N'.next_version ≡ N.next_version + count_of next
    → N'.next_ticket ≡ N.next_ticket + count_of next
    → O' ≡ O ++ failures uri s.waiting
    → Stepped s (Changed uri label edits (version_if N.next_version next)) N N' O'
unfolding step
changed s N O uri label edits next N' O' kept there is_next is_d is_w is_v is_t is_o =
    let x = edited_at (document_of uri s.documents) edits in
    let p = puts (close_text s uri) uri label x in
    let one = count_le next in
    let P : List Out → Type 0 = λ os. AreOutsFor (s.unsent ++ ends uri s.waiting) os in
    let Q : List OutboxEntry → Type 0 = λ es. AreOutsFor es O' in
    record {
      possible = (change_possible s uri label edits _ there ((λ i. version_if (kept.version_is i) (is_next i)) ∙ version_same s.next_version s.next_version s.next_ticket uri label x));
      holds = record {
        documents_are = is_d ∙ ((λ i. others uri (kept.documents_are i) ++ documents_of (is_next i)) ∙ p.documents);
        waiting_are = is_w ∙ ((λ i. going_on uri (kept.waiting_are i) ++ jobs_of (is_next i)) ∙ p.waiting);
        version_is = is_v ∙ ((λ i. kept.version_is i + count_of (is_next i)) ∙ p.version);
        ticket_is = is_t ∙ ((λ i. kept.ticket_is i + count_of (is_next i)) ∙ p.ticket);
        outs = subst Q p.unsent (subst P (sym is_o) (outs_append s.unsent (ends uri s.waiting) O (failures uri s.waiting) kept.outs (failures_outs uri s.waiting)));
      };
      versions = omega arith;
      tickets = omega arith;
    }

close_possible : (s : State) (uri : List ℕ) → is_open uri s.documents ≡ true → IsPossible s (Closed uri)
unfolding IsPossible
close_possible s uri there = there

pub closed : (s : State) (N : Present) (O : List Out) (uri : List ℕ)
    (N' : Present) (O' : List Out)
    → Holds s N O
    → is_open uri s.documents ≡ true
    → N'.documents.items ≡ others uri N.documents.items
    → N'.waiting.items ≡ going_on uri N.waiting.items
    → N'.next_version ≡ N.next_version
    → N'.next_ticket ≡ N.next_ticket
    → O' ≡ O ++ failures uri s.waiting
    → Stepped s (Closed uri) N N' O'
unfolding step
closed s N O uri N' O' kept there is_d is_w is_v is_t is_o =
    let P : List Out → Type 0 = λ os. AreOutsFor (s.unsent ++ ends uri s.waiting) os in
    record {
      possible = (close_possible s uri there);
      holds = record {
        documents_are = is_d ∙ (λ i. others uri (kept.documents_are i));
        waiting_are = is_w ∙ (λ i. going_on uri (kept.waiting_are i));
        version_is = is_v ∙ kept.version_is;
        ticket_is = is_t ∙ kept.ticket_is;
        outs = subst P (sym is_o) (outs_append s.unsent (ends uri s.waiting) O (failures uri s.waiting) kept.outs (failures_outs uri s.waiting));
      };
      versions = omega arith;
      tickets = omega arith;
    }

-- ---- requests

ask_possible : (s : State) (id : Id) (uri : List ℕ) (question : Ask) (links : Bool) (ticket : ℕ) → is_open uri s.documents ≡ true → requests s.waiting < 1024 → id_waits id s.waiting ≡ false → ticket ≡ s.next_ticket → IsPossible s (Asked id uri question links ticket)
unfolding IsPossible
ask_possible s id uri question links ticket there few new is = (there, few, new, is)

record Asks (s : State) (id : Id) (d : Option Document) (question : Ask) (links : Bool) (job : Waiting) : Type 0 where
  pub open_is : is_some d ≡ true
  pub documents : s.documents ≡ (ask_at s id d question links).documents
  pub waiting : s.waiting ++ job ∷ [] ≡ (ask_at s id d question links).waiting
  pub version : s.next_version ≡ (ask_at s id d question links).next_version
  pub ticket : s.next_ticket + 1 ≡ (ask_at s id d question links).next_ticket
  pub unsent : s.unsent ≡ (ask_at s id d question links).unsent

some_job : (a b : Waiting) → Some a ≡ Some b → a ≡ b
some_job a b h = cc

asks : (s : State) (id : Id) (d : Option Document) (question : Ask) (links : Bool) (job : Waiting) → option_map (asked s.next_ticket id question links) d ≡ Some job → Asks s id d question links job
asks s id None question links job h = absurd (cc)
asks s id (Some d) question links job h = record {
  open_is = refl;
  documents = refl;
  waiting = ap (λ (w : Waiting). s.waiting ++ w ∷ []) (sym (some_job (asked s.next_ticket id question links d) job h));
  version = refl;
  ticket = refl;
  unsent = refl;
}

pub requested : (s : State) (N : Present) (O : List Out) (id : Id) (uri : List ℕ) (question : Ask) (links : Bool) (job : Waiting)
    (N' : Present)
    → Holds s N O
    → option_map (asked s.next_ticket id question links) (document_of uri s.documents) ≡ Some job
    → requests s.waiting < 1024
    → id_waits id s.waiting ≡ false
    → N'.documents.items ≡ N.documents.items
    → N'.waiting.items ≡ N.waiting.items ++ job ∷ []
    → N'.next_version ≡ N.next_version
    → N'.next_ticket ≡ N.next_ticket + 1
    → Stepped s (Asked id uri question links N.next_ticket) N N' O
unfolding step
requested s N O id uri question links job N' kept is_job few new is_d is_w is_v is_t =
    let d = document_of uri s.documents in
    let p = asks s id d question links job is_job in
    let P : List OutboxEntry → Type 0 = λ es. AreOutsFor es O in
    record {
      possible = (ask_possible s id uri question links N.next_ticket p.open_is few new kept.ticket_is);
      holds = record {
        documents_are = is_d ∙ (kept.documents_are ∙ p.documents);
        waiting_are = is_w ∙ (ap (λ (ws : List Waiting). ws ++ job ∷ []) kept.waiting_are ∙ p.waiting);
        version_is = is_v ∙ (kept.version_is ∙ p.version);
        ticket_is = is_t ∙ (ap (λ n. n + 1) kept.ticket_is ∙ p.ticket);
        outs = subst P p.unsent kept.outs;
      };
      versions = omega arith;
      tickets = omega arith;
    }

-- ---- jobs

took_possible : (s : State) (worker : ℕ) (w : Waiting) → find is_queued s.waiting ≡ Some w → IsPossible s (Took worker)
unfolding IsPossible
took_possible s worker w h = ap is_some h

pub taken : (s : State) (N : Present) (O : List Out) (worker : ℕ) (w : Waiting)
    (N' : Present)
    → Holds s N O
    → find is_queued s.waiting ≡ Some w
    → N'.documents.items ≡ N.documents.items
    → N'.waiting.items ≡ on_first is_queued (with_taken true) N.waiting.items
    → N'.next_version ≡ N.next_version
    → N'.next_ticket ≡ N.next_ticket
    → Stepped s (Took worker) N N' O
unfolding step
taken s N O worker w N' kept there is_d is_w is_v is_t =
    record {
      possible = (took_possible s worker w there);
      holds = record {
        documents_are = is_d ∙ kept.documents_are;
        waiting_are = is_w ∙ ap (on_first is_queued (with_taken true)) kept.waiting_are;
        version_is = is_v ∙ kept.version_is;
        ticket_is = is_t ∙ kept.ticket_is;
        outs = kept.outs;
      };
      versions = omega arith;
      tickets = omega arith;
    }

returned_possible : (s : State) (ticket : ℕ) → is_some (find (is_held ticket) s.waiting) ≡ true → IsPossible s (Returned ticket)
unfolding IsPossible
returned_possible s ticket h = h

pub returned : (s : State) (N : Present) (O : List Out) (ticket : ℕ)
    (N' : Present)
    → Holds s N O
    → is_some (find (is_held ticket) s.waiting) ≡ true
    → N'.documents.items ≡ N.documents.items
    → N'.waiting.items ≡ on_first (is_held ticket) (with_taken false) N.waiting.items
    → N'.next_version ≡ N.next_version
    → N'.next_ticket ≡ N.next_ticket
    → Stepped s (Returned ticket) N N' O
unfolding step
returned s N O ticket N' kept there is_d is_w is_v is_t =
    record {
      possible = (returned_possible s ticket there);
      holds = record {
        documents_are = is_d ∙ kept.documents_are;
        waiting_are = is_w ∙ ap (on_first (is_held ticket) (with_taken false)) kept.waiting_are;
        version_is = is_v ∙ kept.version_is;
        ticket_is = is_t ∙ kept.ticket_is;
        outs = kept.outs;
      };
      versions = omega arith;
      tickets = omega arith;
    }

-- ---- what a job leaves

finished_outs : (w : Waiting) (done : Told) (a : Option Answer) → done.answer ≡ a → done.ticket ≡ w.ticket → done.text ≡ w.text → done.encoding ≡ w.encoding → done.ask ≡ w.ask → IfSome a (λ x. IsAnswer done.encoding done.text done.ask x)
    → AreOutsFor (left_by (is_none a) w) (cond (is_none a) (failed internal_error w) (out_of w w.request done ∷ []))
unfolding AreOutsFor IsOutFor
finished_outs w done None is ticket text encoding question right = failed_outs w.ticket internal_error w.request
finished_outs w done (Some x) is ticket text encoding question right =
    let P : List ℕ → Type 0 = λ y. IsAnswer done.encoding y done.ask x in
    let R : Encoding → Type 0 = λ y. IsAnswer y w.text done.ask x in
    let Q : Ask → Type 0 = λ y. IsAnswer w.encoding w.text y x in
    ((done, refl, record { ticket = ticket; text = text; encoding = encoding; ask = question; right = (x, is, subst Q question (subst R encoding (subst P text right))) }), tt)

finish_possible : (s : State) (ticket : ℕ) (failed : Bool) (w : Waiting) → find (is_held ticket) s.waiting ≡ Some w → IsPossible s (Finished ticket failed)
unfolding IsPossible
finish_possible s ticket failed w h = ap is_some h

finished_length : (b : Bool) (w : Waiting) (done : Told) → length (cond b (failed internal_error w) (out_of w w.request done ∷ [])) ≡ length (left_by b w)
finished_length true w done = outs_length (told_end internal_error w) (failed internal_error w) (failed_outs w.ticket internal_error w.request)
finished_length false w done = refl

pub finished_length_holds : (w : Waiting) (done : Told) → length (finished w done) ≡ length (left_by (is_none done.answer) w)
finished_length_holds w done = finished_length (is_none done.answer) w done

pub finish : (s : State) (N : Present) (O : List Out) (done : Told) (w : Waiting)
    (N' : Present) (O' : List Out)
    → Holds s N O
    → find (is_held done.ticket) s.waiting ≡ Some w
    → is_for (Some w) done ≡ true
    → IfSome done.answer (λ x. IsAnswer done.encoding done.text done.ask x)
    → N'.documents.items ≡ N.documents.items
    → N'.waiting.items ≡ without_first_job (is_held done.ticket) N.waiting.items
    → N'.next_version ≡ N.next_version
    → N'.next_ticket ≡ N.next_ticket
    → O' ≡ O ++ finished w done
    → Stepped s (Finished done.ticket (is_none done.answer)) N N' O'
unfolding step
finish s N O done w N' O' kept there fits right is_d is_w is_v is_t is_o =
    let held = found_passes (is_held done.ticket) s.waiting w there in
    let ticket : w.ticket ≡ done.ticket = eqb-true _ _ (and_parts (w.ticket == done.ticket) w.taken held).0 in
    let run = (run_of w done).0 fits in
    let P : List Out → Type 0 = λ os. AreOutsFor (s.unsent ++ left_by (is_none done.answer) w) os in
    let Q : Option Waiting → Type 0 = λ found. AreOutsFor (s.unsent ++ left_at (is_none done.answer) found) O' in
    record {
      possible = (finish_possible s done.ticket (is_none done.answer) w there);
      holds = record {
        documents_are = is_d ∙ kept.documents_are;
        waiting_are = is_w ∙ ap (without_first_job (is_held done.ticket)) kept.waiting_are;
        version_is = is_v ∙ kept.version_is;
        ticket_is = is_t ∙ kept.ticket_is;
        outs = subst Q (sym there) (subst P (sym is_o) (outs_append s.unsent (left_by (is_none done.answer) w) O (finished w done) kept.outs
            (finished_outs w done done.answer refl (sym ticket) (sym run.text) (sym run.encoding) (sym run.ask) right)));
      };
      versions = omega arith;
      tickets = omega arith;
    }

cancel_possible : (s : State) (id : Id) (found : Bool) → found ≡ id_waits id s.waiting → IsPossible s (Cancelled id found)
unfolding IsPossible
cancel_possible s id found is = is

-- a cancel without a request that waits
without_by : (b : Bool) (w : Waiting) (o : Option Waiting) (ws xs : List Waiting) → (o ≡ None → xs ≡ ws) → cond b (Some w) o ≡ None → cond b ws (w ∷ xs) ≡ w ∷ ws
without_by true w o ws xs later g = absurd (cc)
without_by false w o ws xs later g = ap (λ (ys : List Waiting). w ∷ ys) (later g)

without_same : (p : Waiting → Bool) (ws : List Waiting) → find p ws ≡ None → without_first_job p ws ≡ ws
without_same p [] h = refl
without_same p (w ∷ ws) h = without_by (p w) w (find p ws) ws (without_first_job p ws) (without_same p ws) h

pub uncancelled : (s : State) (N : Present) (O : List Out) (id : Id)
    → Holds s N O
    → find (asks_with id) s.waiting ≡ None
    → Stepped s (Cancelled id false) N N O
unfolding step
uncancelled s N O id kept there =
    let Q : Option Waiting → Type 0 = λ found. AreOutsFor (s.unsent ++ told_if_found request_cancelled found) O in
    let P : List OutboxEntry → Type 0 = λ es. AreOutsFor es O in
    record {
      possible = (cancel_possible s id false (sym (ap is_some there)));
      holds = record {
        documents_are = kept.documents_are;
        waiting_are = kept.waiting_are ∙ sym (without_same (asks_with id) s.waiting there);
        version_is = kept.version_is;
        ticket_is = kept.ticket_is;
        outs = subst Q (sym there) (subst P (sym (append-nil s.unsent)) kept.outs);
      };
      versions = omega arith;
      tickets = omega arith;
    }

pub cancelled : (s : State) (N : Present) (O : List Out) (id : Id) (w : Waiting)
    (N' : Present) (O' : List Out)
    → Holds s N O
    → find (asks_with id) s.waiting ≡ Some w
    → N'.documents.items ≡ N.documents.items
    → N'.waiting.items ≡ without_first_job (asks_with id) N.waiting.items
    → N'.next_version ≡ N.next_version
    → N'.next_ticket ≡ N.next_ticket
    → O' ≡ O ++ failed request_cancelled w
    → Stepped s (Cancelled id true) N N' O'
unfolding step
cancelled s N O id w N' O' kept there is_d is_w is_v is_t is_o =
    let P : List Out → Type 0 = λ os. AreOutsFor (s.unsent ++ told_end request_cancelled w) os in
    let Q : Option Waiting → Type 0 = λ found. AreOutsFor (s.unsent ++ told_if_found request_cancelled found) O' in
    record {
      possible = (cancel_possible s id true (sym (ap is_some there)));
      holds = record {
        documents_are = is_d ∙ kept.documents_are;
        waiting_are = is_w ∙ ap (without_first_job (asks_with id)) kept.waiting_are;
        version_is = is_v ∙ kept.version_is;
        ticket_is = is_t ∙ kept.ticket_is;
        outs = subst Q (sym there) (subst P (sym is_o) (outs_append s.unsent (told_end request_cancelled w) O (failed request_cancelled w) kept.outs (failed_outs w.ticket request_cancelled w.request)));
      };
      versions = omega arith;
      tickets = omega arith;
    }

-- ---- bodies, and what is sent

said_possible : (s : State) (body : List ℕ) → IsPossible s (Said body)
unfolding IsPossible
said_possible s body = tt

one_out : (body : List ℕ) → AreOutsFor (Body body ∷ []) (out.Said body ∷ [])
unfolding AreOutsFor IsOutFor
one_out body = (refl, tt)

pub said : (s : State) (N : Present) (O : List Out) (body : List ℕ)
    (O' : List Out)
    → Holds s N O
    → O' ≡ O ++ out.Said body ∷ []
    → Stepped s (Said body) N N O'
unfolding step
said s N O body O' kept is_o =
    let P : List Out → Type 0 = λ os. AreOutsFor (s.unsent ++ Body body ∷ []) os in
    record {
      possible = (said_possible s body);
      holds = record {
        documents_are = kept.documents_are;
        waiting_are = kept.waiting_are;
        version_is = kept.version_is;
        ticket_is = kept.ticket_is;
        outs = subst P (sym is_o) (outs_append s.unsent (Body body ∷ []) O (out.Said body ∷ []) kept.outs (one_out body));
      };
      versions = omega arith;
      tickets = omega arith;
    }

open_possible : (s : State) (uri : List ℕ) (label : ℤ) (text : List ℕ) (encoding : Encoding) (version : ℕ) → is_open uri s.documents ≡ false → length s.documents < 256 → is_too_large text ≡ false → version ≡ s.next_version → IsPossible s (Opened uri label text encoding version)
unfolding IsPossible
open_possible s uri label text encoding version closed few fits is = (closed, few, fits, is)

pub opened : (s : State) (N : Present) (O : List Out) (uri : List ℕ) (label : ℤ) (text : List ℕ) (encoding : Encoding) (next : Next)
    (N' : Present)
    → Holds s N O
    → is_open uri s.documents ≡ false
    → length s.documents < 256
    → is_too_large text ≡ false
    → Some next ≡ next_of s.next_version s.next_ticket uri label (Some (measured encoding text))
    → N'.documents.items ≡ N.documents.items ++ documents_of (Some next)
    → N'.waiting.items ≡ N.waiting.items ++ jobs_of (Some next)
    → N'.next_version ≡ N.next_version + 1
    → N'.next_ticket ≡ N.next_ticket + 1
    → Stepped s (Opened uri label text encoding N.next_version) N N' O
unfolding step
opened s N O uri label text encoding next N' kept closed few fits is_next is_d is_w is_v is_t =
    record {
      possible = (open_possible s uri label text encoding N.next_version closed few fits kept.version_is);
      holds = record {
        documents_are = is_d ∙ (λ i. kept.documents_are i ++ documents_of (is_next i));
        waiting_are = is_w ∙ (λ i. kept.waiting_are i ++ jobs_of (is_next i));
        version_is = is_v ∙ ap (λ n. n + 1) kept.version_is;
        ticket_is = is_t ∙ ap (λ n. n + 1) kept.ticket_is;
        outs = kept.outs;
      };
      versions = omega arith;
      tickets = omega arith;
    }
