-- The texts at a desk stay short, whatever happens there, so that each question about them has an answer.
use Rattle.std.proofs.Common.{◌≡◌, ℕ, ◌+◌, ◌^◌, ◌<◌, ◌≤◌, ⊎_elim, Bool, true, false, List, [], ◌∷◌, ◌++◌, length, Option, Some, None, refl, sym, ◌∙◌, arith}
use Rattle.std.specs.Prelude.{ℤ, filter, find, nat_lt, if◌then◌else◌}
use Rattle.std.specs.Option.{option_map}
use Rattle.std.specs.Str.{encode_utf8_all}
use Rattle.std.proofs.lemmas.Bool.{cases_lt, lt-ltb, false≢true}
use Rattle.std.proofs.lemmas.Str.{length-le-encodes}
use Rattle.ls_text.specs.Edits.{edited, edited_all, is_too_large}
use Rattle.ls_text.specs.Lines.{max_bytes, units}
use Rattle.ls_text.specs.Positions.{Measured}
use Rattle.ls_text.specs.declared.edit.Edit.{Edit}
use Rattle.ls_text.specs.declared.position.Encoding.{Encoding}
use Rattle.ls_rpc.specs.declared.message.Id.{Id}
use Rattle.ls_answers.specs.declared.ask.Ask.{Ask}
use Rattle.ls_machine.specs.declared.event.Event.{Event}
use Rattle.ls_machine.specs.declared.event.Event.TheVariants.{Opened, Changed, Closed, Asked, Cancelled, Said, Took, Returned, Finished, Sent}
use Rattle.ls_machine.specs.declared.state.Document.{Document}
use Rattle.ls_machine.specs.declared.state.Request.{Request}
use Rattle.ls_machine.specs.declared.state.Waiting.{Waiting}
use Rattle.ls_machine.specs.declared.state.OutboxEntry.{OutboxEntry}
use Rattle.ls_machine.specs.declared.state.OutboxEntry.TheVariants.{Body, Failure, Outcome}
use Rattle.ls_machine.specs.declared.state.State.{State}
use Rattle.ls_machine.specs.Machine.{IsPossible, start, step, is_named, document_of, edited_at, measured, asks_with, is_held, is_queued, on_first, without_first_job, with_taken, told_to, told_end, told_if_found, end_of, ends, is_ended, left_at, rest, put_text, close_text, ask_at, content_modified, request_cancelled, internal_error}
use Rattle.ls_machine.specs.Journal.{IsLegal, IsLegalFrom, replay, replay_from}

-- ---- lists of which each element has a property

abbrev pub Each : {A : Type 0} → (A → Type 0) → List A → Type 0
Each P [] = Unit {0}
Each P (x ∷ xs) = P x × Each P xs

abbrev pub At : {A : Type 0} → (A → Type 0) → Option A → Type 0
At P None = Unit {0}
At P (Some x) = P x

each_append : {A : Type 0} (P : A → Type 0) (xs ys : List A) → Each P xs → Each P ys → Each P (xs ++ ys)
each_append P [] ys p q = q
each_append P (x ∷ xs) ys p q = (p.0, each_append P xs ys p.1 q)

each_filter : {A : Type 0} (P : A → Type 0) (test : A → Bool) (xs : List A) → Each P xs → Each P (filter test xs)
each_filter P test [] p = tt
each_filter P test (x ∷ xs) p = by (test x) refl (each_filter P test xs p.1)
  where
    by : (b : Bool) → test x ≡ b → Each P (filter test xs) → Each P (filter test (x ∷ xs))
    by true e more = rw e (p.0, more)
    by false e more = rw e more

each_find : {A : Type 0} (P : A → Type 0) (test : A → Bool) (xs : List A) → Each P xs → At P (find test xs)
each_find P test [] p = tt
each_find P test (x ∷ xs) p = by (test x) refl (each_find P test xs p.1)
  where
    by : (b : Bool) → test x ≡ b → At P (find test xs) → At P (find test (x ∷ xs))
    by true e later = rw e p.0
    by false e later = rw e later

each_without : (P : Waiting → Type 0) (test : Waiting → Bool) (xs : List Waiting) → Each P xs → Each P (without_first_job test xs)
each_without P test [] p = tt
each_without P test (x ∷ xs) p = by (test x) refl (each_without P test xs p.1)
  where
    by : (b : Bool) → test x ≡ b → Each P (without_first_job test xs) → Each P (without_first_job test (x ∷ xs))
    by true e more = rw e p.1
    by false e more = rw e (p.0, more)

each_on : (P : Waiting → Type 0) (test : Waiting → Bool) (f : Waiting → Waiting) → ((w : Waiting) → P w → P (f w)) → (xs : List Waiting) → Each P xs → Each P (on_first test f xs)
each_on P test f keeps [] p = tt
each_on P test f keeps (x ∷ xs) p = by (test x) refl (each_on P test f keeps xs p.1)
  where
    by : (b : Bool) → test x ≡ b → Each P (on_first test f xs) → Each P (on_first test f (x ∷ xs))
    by true e more = rw e (keeps x p.0, p.1)
    by false e more = rw e (p.0, more)

each_if : {A : Type 0} (P : A → Type 0) (b : Bool) (xs ys : List A) → Each P xs → Each P ys → Each P (if b then xs else ys)
each_if P true xs ys p q = p
each_if P false xs ys p q = q

each_rest : (P : OutboxEntry → Type 0) (es : List OutboxEntry) → Each P es → Each P (rest es)
each_rest P [] p = tt
each_rest P (e ∷ es) p = p.1

-- ---- short texts

abbrev pub IsShort : List ℕ → Type 0
IsShort text = length text < 2 ^ 62

abbrev pub IsShortEntry : OutboxEntry → Type 0
IsShortEntry (Body body) = Unit {0}
IsShortEntry (Failure ticket id code) = Unit {0}
IsShortEntry (Outcome w) = IsShort w.text

abbrev HasShortText : Document → Type 0
HasShortText d = IsShort d.text

abbrev IsShortJob : Waiting → Type 0
IsShortJob w = IsShort w.text

pub record AreShort (s : State) : Type 0 where
  pub documents : Each HasShortText s.documents
  pub waiting : Each IsShortJob s.waiting
  pub unsent : Each IsShortEntry s.unsent

-- an event that opens a document has a short text
abbrev pub IsShortEvent : Event → Type 0
IsShortEvent (Opened uri label text encoding version) = IsShort text
IsShortEvent _ = Unit {0}

at_most : (m n : ℕ) → nat_lt m n ≡ false → n ≤ m
at_most m n e = ⊎_elim (λ less. absurd (false≢true (sym e ∙ lt-ltb m n less))) (λ ge. ge) (cases_lt m n)

-- a text that isn't too large
pub short_chars_of : (text : List ℕ) → is_too_large text ≡ false → IsShort text
short_chars_of text e = omega (arith, at_most max_bytes (length (encode_utf8_all text)) e, length-le-encodes text)

short_edited : (width : ℕ → ℕ) (t : List ℕ) (es : List Edit) → IsShort t → At IsShort (edited_all width t es)
unfolding edited_all
short_edited width t [] small = small
short_edited width t (e ∷ es) small = by (is_too_large (edited width t e)) (λ s. short_edited width (edited width t e) es s) refl
  where
    by : (b : Bool) → (IsShort (edited width t e) → At IsShort (edited_all width (edited width t e) es)) → is_too_large (edited width t e) ≡ b → At IsShort (if is_too_large (edited width t e) then None else edited_all width (edited width t e) es)
    by true later large = rw large tt
    by false later large =
        let few = at_most 4_194_304 (length (encode_utf8_all (edited width t e))) large in
        rw large (later (omega (arith, few, length-le-encodes (edited width t e))))

-- a text with what its positions count
abbrev IsShortText : Measured → Type 0
IsShortText m = IsShort m.text

short_measured : (encoding : Encoding) (o : Option (List ℕ)) → At IsShort o → At IsShortText (option_map (measured encoding) o)
short_measured encoding None h = tt
short_measured encoding (Some t) h = h

short_edited_at : (o : Option Document) (edits : List Edit) → At HasShortText o → At IsShortText (edited_at o edits)
short_edited_at None edits h = tt
short_edited_at (Some d) edits h = short_measured d.encoding (edited_all (units d.encoding) d.text edits) (short_edited (units d.encoding) d.text edits h)

-- ---- what is said

short_told : (ticket : ℕ) (code : ℤ) (r : Option Request) → Each IsShortEntry (told_to ticket code r)
short_told ticket code None = tt
short_told ticket code (Some r) = (tt, tt)

short_told_at : (code : ℤ) (o : Option Waiting) → Each IsShortEntry (told_if_found code o)
short_told_at code None = tt
short_told_at code (Some w) = short_told w.ticket code w.request

short_ends : (uri : List ℕ) (ws : List Waiting) → Each IsShortEntry (ends uri ws)
short_ends uri [] = tt
short_ends uri (w ∷ ws) =
    each_append IsShortEntry (end_of uri w) (ends uri ws)
    (each_if IsShortEntry (is_ended uri w) (told_end content_modified w) [] (short_told w.ticket content_modified w.request) tt) (short_ends uri ws)

short_left : (failed : Bool) (o : Option Waiting) → At IsShortJob o → Each IsShortEntry (left_at failed o)
short_left failed None h = tt
short_left failed (Some w) h = each_if IsShortEntry failed (told_end internal_error w) (Outcome w ∷ []) (short_told w.ticket internal_error w.request) (h, tt)

-- ---- events

short_put : (s : State) (uri : List ℕ) (label : ℤ) (o : Option Measured) → AreShort s → At IsShortText o → AreShort (put_text s uri label o)
short_put s uri label None h t = h
short_put s uri label (Some m) h t = record {
  documents = each_append HasShortText s.documents _ h.documents (t, tt);
  waiting = each_append IsShortJob s.waiting _ h.waiting (t, tt);
  unsent = h.unsent;
}

short_close : (s : State) (uri : List ℕ) → AreShort s → AreShort (close_text s uri)
short_close s uri h = record {
  documents = each_filter HasShortText _ s.documents h.documents;
  waiting = each_filter IsShortJob _ s.waiting h.waiting;
  unsent = each_append IsShortEntry s.unsent (ends uri s.waiting) h.unsent (short_ends uri s.waiting);
}

short_ask : (s : State) (id : Id) (o : Option Document) (ask : Ask) (links : Bool) → AreShort s → At HasShortText o → AreShort (ask_at s id o ask links)
short_ask s id None ask links h d = h
short_ask s id (Some d) ask links h t = record { documents = h.documents; waiting = each_append IsShortJob s.waiting _ h.waiting (t, tt); unsent = h.unsent }

pub short_step : (s : State) (e : Event) → AreShort s → IsShortEvent e → AreShort (step s e)
unfolding step
short_step s (Opened uri label text encoding version) h t = short_put s uri label (Some (measured encoding text)) h t
short_step s (Changed uri label edits version) h t =
    short_put (close_text s uri) uri label (edited_at (document_of uri s.documents) edits) (short_close s uri h)
    (short_edited_at (document_of uri s.documents) edits (each_find HasShortText (is_named uri) s.documents h.documents))
short_step s (Closed uri) h t = short_close s uri h
short_step s (Asked id uri ask links ticket) h t =
    short_ask s id (document_of uri s.documents) ask links h (each_find HasShortText (is_named uri) s.documents h.documents)
short_step s (Cancelled id found) h t = record {
  documents = h.documents;
  waiting = each_without IsShortJob (asks_with id) s.waiting h.waiting;
  unsent = each_append IsShortEntry s.unsent _ h.unsent (short_told_at request_cancelled (find (asks_with id) s.waiting));
}
short_step s (Said body) h t = record { documents = h.documents; waiting = h.waiting; unsent = each_append IsShortEntry s.unsent (Body body ∷ []) h.unsent (tt, tt) }
short_step s (Took worker) h t = record {
  documents = h.documents;
  waiting = each_on IsShortJob is_queued (with_taken true) (λ w p. p) s.waiting h.waiting;
  unsent = h.unsent;
}
short_step s (Returned ticket) h t = record {
  documents = h.documents;
  waiting = each_on IsShortJob (is_held ticket) (with_taken false) (λ w p. p) s.waiting h.waiting;
  unsent = h.unsent;
}
short_step s (Finished ticket failed) h t = record {
  documents = h.documents;
  waiting = each_without IsShortJob (is_held ticket) s.waiting h.waiting;
  unsent = each_append IsShortEntry s.unsent _ h.unsent (short_left failed (find (is_held ticket) s.waiting) (each_find IsShortJob (is_held ticket) s.waiting h.waiting));
}
short_step s (Sent ticket) h t = record { documents = h.documents; waiting = h.waiting; unsent = each_rest IsShortEntry s.unsent h.unsent }

-- the state that a journal leads to has short texts
abbrev pub IsFine : State → List Event → Type 0
IsFine s journal = AreShort (replay_from s journal)

-- ---- legal journals

short_start : AreShort start
short_start = record { documents = tt; waiting = tt; unsent = tt }

-- an event that is possible has a short text
short_possible : (s : State) (e : Event) → IsPossible s e → IsShortEvent e
unfolding IsPossible
short_possible s (Opened uri label text encoding version) h = short_chars_of text h.2
short_possible s (Changed uri label edits version) h = tt
short_possible s (Closed uri) h = tt
short_possible s (Asked id uri ask links ticket) h = tt
short_possible s (Cancelled id found) h = tt
short_possible s (Said body) h = tt
short_possible s (Took worker) h = tt
short_possible s (Returned ticket) h = tt
short_possible s (Finished ticket failed) h = tt
short_possible s (Sent ticket) h = tt

short_from : (most n : ℕ) (s : State) (events : List Event) → IsLegalFrom most n s events → AreShort s → AreShort (replay_from s events)
unfolding IsLegalFrom replay_from
short_from most n s [] legal h = h
short_from most n s (e ∷ es) legal h = short_from most (n + 1) (step s e) es legal.2 (short_step s e h (short_possible s e legal.0))

-- so the texts of the state that a legal journal leads to are short
pub short_legal : (most : ℕ) (journal : List Event) → IsLegal most journal → AreShort (replay journal)
short_legal most journal legal = short_from most 0 start journal legal short_start
