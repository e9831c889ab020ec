-- Tickets and ids of waiting jobs, and the texts that they are for.
use Rattle.std.proofs.Common.{◌≡◌, ℕ, ◌+◌, ◌≤◌, Bool, true, false, cond, List, [], ◌∷◌, ◌++◌, refl, sym, ap, ◌∙◌, subst, arith, append_assoc, append-nil}
use Rattle.std.specs.Prelude.{ℤ, Option, Some, None, find, filter, not, bytes_eq}
use Rattle.std.specs.Cmp.{signed_Decides}
use Rattle.std.proofs.lemmas.Slice.Eq.{bytes_eq-Decides}
use Rattle.std.proofs.lemmas.Option.{same_Some}
use Rattle.std.specs.Ordering.{int_eq}
use Rattle.ls_text.specs.Positions.{Measured}
use Rattle.ls_rpc.specs.declared.message.Id.{Id}
use Rattle.ls_rpc.specs.declared.message.Id.TheVariants as id
use Rattle.ls_answers.specs.declared.ask.Ask.{Ask}
use Rattle.ls_machine.specs.declared.event.Event.{Event}
use Rattle.ls_machine.specs.declared.event.Event.TheVariants.{Opened, Changed, Closed, Asked, Cancelled, Said, Took, Returned, Finished, Sent}
use Rattle.ls_machine.specs.declared.state.Document.{Document}
use Rattle.ls_machine.specs.declared.state.Waiting.{Waiting}
use Rattle.ls_machine.specs.declared.state.Request.{Request}
use Rattle.ls_machine.specs.declared.state.OutboxEntry.{OutboxEntry}
use Rattle.ls_machine.specs.declared.state.OutboxEntry.TheVariants.{Body, Failure, Outcome}
use Rattle.ls_machine.specs.Same.{id_eq}
use Rattle.ls_machine.specs.declared.state.State.{State}
use Rattle.ls_machine.specs.Machine.{start, step, IsPossible, is_named, document, document_of, others, edited_at, measured, is_for_id, asks_with, is_queued, is_held, on_first, without_first_job, with_taken, diagnosis, asked, told_to, told_if_found, told_end, request_cancelled, internal_error, content_modified, is_ended, end_of, ends, left_by, left_at, rest, put_text, close_text, ask_at, version_if}
use Rattle.ls_machine.specs.Journal.{replay_from, replay, IsLegalFrom, IsLegal}
use Rattle.ls_machine.specs.Laws.{IsMadeBy, WasAsked, WasCurrent, IsAlone, WereCurrentInOrder, WasEntryCurrent, WereEntriesCurrent, IsOrdered}
use Rattle.ls_machine.proofs.Places.{found_passes, none_from}
use Rattle.ls_machine.proofs.Replays.{replay_push}

-- ---- what isn't found

head_fails : {A : Type 0} (b : Bool) (x : A) (o : Option A) → cond b (Some x) o ≡ None → b ≡ false
head_fails true x o h = absurd (cc)
head_fails false x o h = refl

tail_fails : {A : Type 0} (b : Bool) (x : A) (o : Option A) → cond b (Some x) o ≡ None → o ≡ None
tail_fails true x o h = absurd (cc)
tail_fails false x o h = h

both_fail : {A : Type 0} (b : Bool) (x : A) (o : Option A) → b ≡ false → o ≡ None → cond b (Some x) o ≡ None
both_fail b x o p h = (λ i. cond (p i) (Some x) o) ∙ h

none_if : (q : Waiting → Bool) (b : Bool) (w : Waiting) (ws xs : List Waiting) → find q (w ∷ ws) ≡ None → find q xs ≡ None → find q (cond b (w ∷ xs) xs) ≡ None
none_if q true w ws xs h k = both_fail (q w) w (find q xs) (head_fails (q w) w (find q ws) h) k
none_if q false w ws xs h k = k

none_filter : (q p : Waiting → Bool) (ws : List Waiting) → find q ws ≡ None → find q (filter p ws) ≡ None
none_filter q p [] h = refl
none_filter q p (w ∷ ws) h = none_if q (p w) w ws (filter p ws) h (none_filter q p ws (tail_fails (q w) w (find q ws) h))

none_unless : (q : Waiting → Bool) (b : Bool) (w : Waiting) (ws xs : List Waiting) → find q (w ∷ ws) ≡ None → find q xs ≡ None → find q (cond b ws (w ∷ xs)) ≡ None
none_unless q true w ws xs h k = tail_fails (q w) w (find q ws) h
none_unless q false w ws xs h k = both_fail (q w) w (find q xs) (head_fails (q w) w (find q ws) h) k

none_without : (q p : Waiting → Bool) (ws : List Waiting) → find q ws ≡ None → find q (without_first_job p ws) ≡ None
none_without q p [] h = refl
none_without q p (w ∷ ws) h = none_unless q (p w) w ws (without_first_job p ws) h (none_without q p ws (tail_fails (q w) w (find q ws) h))

none_marked : (id : Id) (taken b : Bool) (w : Waiting) (ws xs : List Waiting) → find (asks_with id) (w ∷ ws) ≡ None → find (asks_with id) xs ≡ None
    → find (asks_with id) (cond b (with_taken taken w ∷ ws) (w ∷ xs)) ≡ None
none_marked id taken true w ws xs h k =
    both_fail (asks_with id w) (with_taken taken w) (find (asks_with id) ws) (head_fails (asks_with id w) w (find (asks_with id) ws) h) (tail_fails (asks_with id w) w (find (asks_with id) ws) h)
none_marked id taken false w ws xs h k = both_fail (asks_with id w) w (find (asks_with id) xs) (head_fails (asks_with id w) w (find (asks_with id) ws) h) k

none_on : (id : Id) (taken : Bool) (p : Waiting → Bool) (ws : List Waiting) → find (asks_with id) ws ≡ None → find (asks_with id) (on_first p (with_taken taken) ws) ≡ None
none_on id taken p [] h = refl
none_on id taken p (w ∷ ws) h =
    none_marked id taken (p w) w ws (on_first p (with_taken taken) ws) h (none_on id taken p ws (tail_fails (asks_with id w) w (find (asks_with id) ws) h))

none_last : {A : Type 0} (q : A → Bool) (ws : List A) (w : A) → find q ws ≡ None → q w ≡ false → find q (ws ++ w ∷ []) ≡ None
none_last q [] w h k = both_fail (q w) w None k refl
none_last q (x ∷ ws) w h k = both_fail (q x) x (find q (ws ++ w ∷ [])) (head_fails (q x) x (find q ws) h) (none_last q ws w (tail_fails (q x) x (find q ws) h) k)

last_by : {A : Type 0} (b : Bool) (x w : A) (o p : Option A) → cond b (Some x) o ≡ None → p ≡ Some w → cond b (Some x) p ≡ Some w
last_by true x w o p h k = absurd (cc)
last_by false x w o p h k = k

found_last : {A : Type 0} (q : A → Bool) (ws : List A) (w : A) → find q ws ≡ None → q w ≡ true → find q (ws ++ w ∷ []) ≡ Some w
found_last q [] w h k = (λ i. cond (k i) (Some w) None)
found_last q (x ∷ ws) w h k = last_by (q x) x w (find q ws) (find q (ws ++ w ∷ [])) h (found_last q ws w (tail_fails (q x) x (find q ws) h) k)

-- ---- ids

id_back : (a b : Bool) → (a ≡ true → b ≡ true) → b ≡ false → a ≡ false
id_back true b f h = sym (f refl) ∙ h
id_back false b f h = refl

id_apart : (a b : Id) → id_eq a b ≡ false → id_eq b a ≡ false
id_apart (id.Number a) (id.Number b) h = id_back (int_eq b a) (int_eq a b) (λ e. (signed_Decides a b).1 (sym ((signed_Decides b a).0 e))) h
id_apart (id.Text a) (id.Text b) h = id_back (bytes_eq b a) (bytes_eq a b) (λ e. (bytes_eq-Decides a b).1 (sym ((bytes_eq-Decides b a).0 e))) h
id_apart (id.Number a) (id.Text b) h = refl
id_apart (id.Text a) (id.Number b) h = refl

new_head : (r : Option Request) (w : Waiting) (ws : List Waiting) → IsAlone r (w ∷ ws) → (q : Request) → w.request ≡ Some q → is_for_id q.id r ≡ false
new_head None w ws h q is = refl
new_head (Some r) w ws h q is =
    let fails : is_for_id r.id w.request ≡ false = head_fails (asks_with r.id w) w (find (asks_with r.id) ws) h in
    id_apart q.id r.id (sym (λ i. is_for_id r.id (is i)) ∙ fails)

new_tail : (r : Option Request) (w : Waiting) (ws : List Waiting) → IsAlone r (w ∷ ws) → IsAlone r ws
new_tail None w ws h = tt
new_tail (Some r) w ws h = tail_fails (asks_with r.id w) w (find (asks_with r.id) ws) h

alone : (r : Option Request) → IsAlone r []
alone None = tt
alone (Some q) = refl

alone_last : (r : Option Request) (ws : List Waiting) (w : Waiting) → IsAlone r ws → ((q : Request) → r ≡ Some q → is_for_id q.id w.request ≡ false) → IsAlone r (ws ++ w ∷ [])
alone_last None ws w h f = tt
alone_last (Some q) ws w h f = none_last (asks_with q.id) ws w h (f q refl)

alone_filter : (r : Option Request) (p : Waiting → Bool) (ws : List Waiting) → IsAlone r ws → IsAlone r (filter p ws)
alone_filter None p ws h = tt
alone_filter (Some q) p ws h = none_filter (asks_with q.id) p ws h

alone_without : (r : Option Request) (p : Waiting → Bool) (ws : List Waiting) → IsAlone r ws → IsAlone r (without_first_job p ws)
alone_without None p ws h = tt
alone_without (Some q) p ws h = none_without (asks_with q.id) p ws h

alone_on : (r : Option Request) (taken : Bool) (p : Waiting → Bool) (ws : List Waiting) → IsAlone r ws → IsAlone r (on_first p (with_taken taken) ws)
alone_on None taken p ws h = tt
alone_on (Some q) taken p ws h = none_on q.id taken p ws h

-- ---- the order of the waiting jobs

ordered_below : (js : List Event) (low less : ℕ) (ws : List Waiting) (high : ℕ) → less ≤ low → WereCurrentInOrder js low ws high → WereCurrentInOrder js less ws high
unfolding WereCurrentInOrder
ordered_below js low less [] high below h = omega arith
ordered_below js low less (w ∷ ws) high below h = (let l = h.0 in omega arith, h.1, h.2, h.3)

ordered_last : (js : List Event) (low : ℕ) (ws : List Waiting) (high : ℕ) (w : Waiting) → WereCurrentInOrder js low ws high → w.ticket ≡ high → IsAlone w.request ws → WasCurrent js w
    → WereCurrentInOrder js low (ws ++ w ∷ []) (high + 1)
unfolding WereCurrentInOrder
ordered_last js low [] high w h is new current = (omega arith, alone w.request, current, omega arith)
ordered_last js low (x ∷ ws) high w h is new current =
    (h.0, alone_last x.request ws w h.1 (new_head w.request x ws new), h.2, ordered_last js (x.ticket + 1) ws high w h.3 is (new_tail w.request x ws new) current)

ordered_if : (js : List Event) (low : ℕ) (b : Bool) (w : Waiting) (xs : List Waiting) (high : ℕ) → low ≤ w.ticket → IsAlone w.request xs → WasCurrent js w → WereCurrentInOrder js (w.ticket + 1) xs high
    → WereCurrentInOrder js low (cond b (w ∷ xs) xs) high
unfolding WereCurrentInOrder
ordered_if js low true w xs high l alone current h = (l, alone, current, h)
ordered_if js low false w xs high l alone current h = ordered_below js (w.ticket + 1) low xs high (omega arith) h

ordered_filter : (js : List Event) (low : ℕ) (p : Waiting → Bool) (ws : List Waiting) (high : ℕ) → WereCurrentInOrder js low ws high → WereCurrentInOrder js low (filter p ws) high
unfolding WereCurrentInOrder
ordered_filter js low p [] high h = h
ordered_filter js low p (w ∷ ws) high h =
    ordered_if js low (p w) w (filter p ws) high h.0 (alone_filter w.request p ws h.1) h.2 (ordered_filter js (w.ticket + 1) p ws high h.3)

ordered_unless : (js : List Event) (low : ℕ) (b : Bool) (w : Waiting) (ws xs : List Waiting) (high : ℕ) → low ≤ w.ticket → WereCurrentInOrder js (w.ticket + 1) ws high → IsAlone w.request xs → WasCurrent js w → WereCurrentInOrder js (w.ticket + 1) xs high
    → WereCurrentInOrder js low (cond b ws (w ∷ xs)) high
unfolding WereCurrentInOrder
ordered_unless js low true w ws xs high l h alone current k = ordered_below js (w.ticket + 1) low ws high (omega arith) h
ordered_unless js low false w ws xs high l h alone current k = (l, alone, current, k)

ordered_without : (js : List Event) (low : ℕ) (p : Waiting → Bool) (ws : List Waiting) (high : ℕ) → WereCurrentInOrder js low ws high → WereCurrentInOrder js low (without_first_job p ws) high
unfolding WereCurrentInOrder
ordered_without js low p [] high h = h
ordered_without js low p (w ∷ ws) high h =
    ordered_unless js low (p w) w ws (without_first_job p ws) high h.0 h.3 (alone_without w.request p ws h.1) h.2 (ordered_without js (w.ticket + 1) p ws high h.3)

made_marked : (e : Event) (taken : Bool) (w : Waiting) → IsMadeBy e w → IsMadeBy e (with_taken taken w)
made_marked (Asked id uri question links ticket) taken w h = h
made_marked (Opened uri label text encoding version) taken w h = h
made_marked (Changed uri label edits version) taken w h = h
made_marked (Closed uri) taken w h = h
made_marked (Cancelled id found) taken w h = h
made_marked (Said body) taken w h = h
made_marked (Took worker) taken w h = h
made_marked (Returned ticket) taken w h = h
made_marked (Finished ticket failed) taken w h = h
made_marked (Sent ticket) taken w h = h

-- who has a job doesn't matter
current_marked : (js : List Event) (taken : Bool) (w : Waiting) → WasCurrent js w → WasCurrent js (with_taken taken w)
current_marked js taken w c = record {
  before = c.before;
  event = c.event;
  later = c.later;
  journal_is = c.journal_is;
  made_by = made_marked c.event taken w c.made_by;
  ticket_is = c.ticket_is;
  given = c.given;
  document_is = c.document_is;
}

ordered_marked : (js : List Event) (low : ℕ) (taken b : Bool) (w : Waiting) (ws xs : List Waiting) (high : ℕ) → low ≤ w.ticket → IsAlone w.request ws → WasCurrent js w → WereCurrentInOrder js (w.ticket + 1) ws high → IsAlone w.request xs → WereCurrentInOrder js (w.ticket + 1) xs high
    → WereCurrentInOrder js low (cond b (with_taken taken w ∷ ws) (w ∷ xs)) high
unfolding WereCurrentInOrder
ordered_marked js low taken true w ws xs high l alone current h other k = (l, alone, current_marked js taken w current, h)
ordered_marked js low taken false w ws xs high l alone current h other k = (l, other, current, k)

ordered_on : (js : List Event) (low : ℕ) (taken : Bool) (p : Waiting → Bool) (ws : List Waiting) (high : ℕ) → WereCurrentInOrder js low ws high → WereCurrentInOrder js low (on_first p (with_taken taken) ws) high
unfolding WereCurrentInOrder
ordered_on js low taken p [] high h = h
ordered_on js low taken p (w ∷ ws) high h =
    ordered_marked js low taken (p w) w ws (on_first p (with_taken taken) ws) high h.0 h.1 h.2 h.3 (alone_on w.request taken p ws h.1) (ordered_on js (w.ticket + 1) taken p ws high h.3)

current_found : (js : List Event) (b : Bool) (w : Waiting) (o : Option Waiting) (x : Waiting) → WasCurrent js w → (o ≡ Some x → WasCurrent js x) → cond b (Some w) o ≡ Some x → WasCurrent js x
current_found js true w o x c f h = let P : Waiting → Type 0 = λ y. WasCurrent js y in subst P (same_Some w x h) c
current_found js false w o x c f h = f h

pub found_current : (js : List Event) (low : ℕ) (p : Waiting → Bool) (ws : List Waiting) (high : ℕ) (x : Waiting) → WereCurrentInOrder js low ws high → find p ws ≡ Some x → WasCurrent js x
unfolding WereCurrentInOrder
found_current js low p [] high x h is = absurd (cc)
found_current js low p (w ∷ ws) high x h is = current_found js (p w) w (find p ws) x h.2 (found_current js (w.ticket + 1) p ws high x h.3) is

-- ---- one event more

current_later : (js : List Event) (e : Event) (w : Waiting) → WasCurrent js w → WasCurrent (js ++ e ∷ []) w
current_later js e w c = record {
  before = c.before;
  event = c.event;
  later = c.later ++ e ∷ [];
  journal_is = ap (λ (es : List Event). es ++ e ∷ []) c.journal_is ∙ append_assoc c.before (c.event ∷ c.later) (e ∷ []);
  made_by = c.made_by;
  ticket_is = c.ticket_is;
  given = c.given;
  document_is = c.document_is;
}

ordered_later : (js : List Event) (e : Event) (low : ℕ) (ws : List Waiting) (high : ℕ) → WereCurrentInOrder js low ws high → WereCurrentInOrder (js ++ e ∷ []) low ws high
unfolding WereCurrentInOrder
ordered_later js e low [] high h = h
ordered_later js e low (w ∷ ws) high h = (h.0, h.1, current_later js e w h.2, ordered_later js e (w.ticket + 1) ws high h.3)

asked_later : (js : List Event) (e : Event) (ticket : ℕ) (id : Id) → WasAsked js ticket id → WasAsked (js ++ e ∷ []) ticket id
asked_later js e ticket id a = record {
  before = a.before;
  uri = a.uri;
  question = a.question;
  links = a.links;
  later = a.later ++ e ∷ [];
  journal_is = ap (λ (es : List Event). es ++ e ∷ []) a.journal_is ∙ append_assoc a.before (Asked id a.uri a.question a.links ticket ∷ a.later) (e ∷ []);
}

entry_later : (js : List Event) (e : Event) (x : OutboxEntry) → WasEntryCurrent js x → WasEntryCurrent (js ++ e ∷ []) x
entry_later js e (Body body) h = tt
entry_later js e (Failure ticket id code) h = asked_later js e ticket id h
entry_later js e (Outcome w) h = current_later js e w h

entries_later : (js : List Event) (e : Event) (es : List OutboxEntry) → WereEntriesCurrent js es → WereEntriesCurrent (js ++ e ∷ []) es
unfolding WereEntriesCurrent
entries_later js e [] h = tt
entries_later js e (x ∷ es) h = (entry_later js e x h.0, entries_later js e es h.1)

-- ---- the entries

entries_append : (js : List Event) (es fs : List OutboxEntry) → WereEntriesCurrent js es → WereEntriesCurrent js fs → WereEntriesCurrent js (es ++ fs)
unfolding WereEntriesCurrent
entries_append js [] fs h k = k
entries_append js (e ∷ es) fs h k = (h.0, entries_append js es fs h.1 k)

entries_rest : (js : List Event) (es : List OutboxEntry) → WereEntriesCurrent js es → WereEntriesCurrent js (rest es)
unfolding WereEntriesCurrent
entries_rest js [] h = tt
entries_rest js (e ∷ es) h = h.1

body_current : (js : List Event) (body : List ℕ) → WereEntriesCurrent js (Body body ∷ [])
unfolding WereEntriesCurrent
body_current js body = (tt, tt)

-- a request's job was made by that request
asked_by : (js before : List Event) (e : Event) (later : List Event) (w : Waiting) (r : Request) → js ≡ before ++ e ∷ later → IsMadeBy e w → w.request ≡ Some r → WasAsked js w.ticket r.id
asked_by js before (Asked id uri question links ticket) later w r is made some =
    let same : record { id = id; links = links } ≡ r = same_Some (record { id = id; links = links }) r (sym made.0 ∙ some) in
    record {
      before = before;
      uri = uri;
      question = question;
      links = links;
      later = later;
      journal_is = is ∙ (λ i. before ++ Asked (ap (λ (q : Request). q.id) same i) uri question links (sym made.3 i) ∷ later);
    }
asked_by js before (Opened uri label text encoding version) later w r is made some = let none = made.0.0 in absurd (cc)
asked_by js before (Changed uri label edits version) later w r is made some = let none = made.0.0 in absurd (cc)
asked_by js before (Closed uri) later w r is made some = absurd made
asked_by js before (Cancelled id found) later w r is made some = absurd made
asked_by js before (Said body) later w r is made some = absurd made
asked_by js before (Took worker) later w r is made some = absurd made
asked_by js before (Returned ticket) later w r is made some = absurd made
asked_by js before (Finished ticket failed) later w r is made some = absurd made
asked_by js before (Sent ticket) later w r is made some = absurd made

told_to_asker : (js : List Event) (ticket : ℕ) (code : ℤ) (r : Option Request) → ((q : Request) → r ≡ Some q → WasAsked js ticket q.id) → WereEntriesCurrent js (told_to ticket code r)
unfolding WereEntriesCurrent
told_to_asker js ticket code None f = tt
told_to_asker js ticket code (Some r) f = (f r refl, tt)

told_current : (js : List Event) (code : ℤ) (w : Waiting) → WasCurrent js w → WereEntriesCurrent js (told_to w.ticket code w.request)
told_current js code w c = told_to_asker js w.ticket code w.request (λ q is. asked_by js c.before c.event c.later w q c.journal_is c.made_by is)

at_current : (js : List Event) (code : ℤ) (o : Option Waiting) → ((w : Waiting) → o ≡ Some w → WasCurrent js w) → WereEntriesCurrent js (told_if_found code o)
unfolding WereEntriesCurrent
at_current js code None f = tt
at_current js code (Some w) f = told_current js code w (f w refl)

if_current : (js : List Event) (b : Bool) (es : List OutboxEntry) → WereEntriesCurrent js es → WereEntriesCurrent js (cond b es [])
unfolding WereEntriesCurrent
if_current js true es h = h
if_current js false es h = tt

ends_current : (js : List Event) (uri : List ℕ) (low : ℕ) (ws : List Waiting) (high : ℕ) → WereCurrentInOrder js low ws high → WereEntriesCurrent js (ends uri ws)
unfolding WereCurrentInOrder WereEntriesCurrent
ends_current js uri low [] high h = tt
ends_current js uri low (w ∷ ws) high h =
    entries_append js (end_of uri w) (ends uri ws) (if_current js (is_ended uri w) (told_end content_modified w) (told_current js content_modified w h.2)) (ends_current js uri (w.ticket + 1) ws high h.3)

left_current : (js : List Event) (failed : Bool) (w : Waiting) → WasCurrent js w → WereEntriesCurrent js (left_by failed w)
unfolding WereEntriesCurrent
left_current js true w c = told_current js internal_error w c
left_current js false w c = (c, tt)

left_at_current : (js : List Event) (failed : Bool) (o : Option Waiting) → ((w : Waiting) → o ≡ Some w → WasCurrent js w) → WereEntriesCurrent js (left_at failed o)
unfolding WereEntriesCurrent
left_at_current js failed None f = tt
left_at_current js failed (Some w) f = left_current js failed w (f w refl)

-- ---- events

-- the waiting jobs and the unsent entries of a state, by a journal
pub record Fits (js : List Event) (s : State) : Type 0 where
  pub waiting : WereCurrentInOrder js 1 s.waiting s.next_ticket
  pub unsent : WereEntriesCurrent js s.unsent

named_self : (uri : List ℕ) (version : ℕ) (label : ℤ) (m : Measured) → is_named uri (document uri version label m) ≡ true
named_self uri version label m = (bytes_eq-Decides uri uri).1 refl

no_other_if : (uri : List ℕ) (d : Document) (ds : List Document) (b : Bool) → is_named uri d ≡ b → find (is_named uri) ds ≡ None → find (is_named uri) (cond (not b) (d ∷ ds) ds) ≡ None
no_other_if uri d ds true is h = h
no_other_if uri d ds false is h = both_fail (is_named uri d) d (find (is_named uri) ds) is h

no_other : (uri : List ℕ) (ds : List Document) → find (is_named uri) (others uri ds) ≡ None
no_other uri [] = refl
no_other uri (d ∷ ds) = no_other_if uri d (others uri ds) (is_named uri d) refl (no_other uri ds)

-- a new text, where the event that put it down has come to the journal
fits_text : (js : List Event) (e : Event) (s : State) (uri : List ℕ) (label : ℤ) (x : Option Measured)
    → Fits (js ++ e ∷ []) s
    → find (is_named uri) s.documents ≡ None
    → (replay js).next_ticket ≡ s.next_ticket
    → step (replay js) e ≡ put_text s uri label x
    → ((m : Measured) → x ≡ Some m → IsMadeBy e (diagnosis s.next_ticket uri s.next_version label m))
    → Fits (js ++ e ∷ []) (put_text s uri label x)
fits_text js e s uri label None fits none same is made = fits
fits_text js e s uri label (Some m) fits none same is made =
    let w : Waiting = diagnosis s.next_ticket uri s.next_version label m in
    let current : WasCurrent (js ++ e ∷ []) w = record {
      before = js;
      event = e;
      later = [];
      journal_is = refl;
      made_by = made m refl;
      ticket_is = same;
      given = ap (λ (t : State). t.next_ticket) is;
      document_is = ap (λ (t : State). document_of uri t.documents) is
          ∙ found_last (is_named uri) s.documents (document uri s.next_version label m) none (named_self uri s.next_version label m);
    } in
    record {
      waiting = ordered_last (js ++ e ∷ []) 1 s.waiting s.next_ticket w fits.waiting refl tt current;
      unsent = fits.unsent;
    }

fits_close : (js : List Event) (s : State) (uri : List ℕ) → Fits js s → Fits js (close_text s uri)
fits_close js s uri fits = record {
  waiting = ordered_filter js 1 (λ w. not (is_ended uri w)) s.waiting s.next_ticket fits.waiting;
  unsent = entries_append js s.unsent (ends uri s.waiting) fits.unsent (ends_current js uri 1 s.waiting s.next_ticket fits.waiting);
}

-- a request, where it has come to the journal
fits_ask : (js : List Event) (e : Event) (s : State) (id : Id) (uri : List ℕ) (question : Ask) (links : Bool) (o : Option Document)
    → Fits (js ++ e ∷ []) s
    → document_of uri s.documents ≡ o
    → find (asks_with id) s.waiting ≡ None
    → replay js ≡ s
    → step (replay js) e ≡ ask_at s id o question links
    → ((d : Document) → uri ≡ d.uri → IsMadeBy e (asked s.next_ticket id question links d))
    → Fits (js ++ e ∷ []) (ask_at s id o question links)
fits_ask js e s id uri question links None fits found new same is made = fits
fits_ask js e s id uri question links (Some d) fits found new same is made =
    let w : Waiting = asked s.next_ticket id question links d in
    let named : uri ≡ d.uri = sym ((bytes_eq-Decides d.uri uri).0 (found_passes (is_named uri) s.documents d found)) in
    let current : WasCurrent (js ++ e ∷ []) w = record {
      before = js;
      event = e;
      later = [];
      journal_is = refl;
      made_by = made d named;
      ticket_is = ap (λ (t : State). t.next_ticket) same;
      given = ap (λ (t : State). t.next_ticket) is;
      document_is = ap (λ (t : State). document_of d.uri t.documents) is ∙ (sym (λ i. document_of (named i) s.documents) ∙ found);
    } in
    record {
      waiting = ordered_last (js ++ e ∷ []) 1 s.waiting s.next_ticket w fits.waiting refl new current;
      unsent = fits.unsent;
    }

fits_later : (js : List Event) (e : Event) (s : State) → Fits js s → Fits (js ++ e ∷ []) s
fits_later js e s fits = record {
  waiting = ordered_later js e 1 s.waiting s.next_ticket fits.waiting;
  unsent = entries_later js e s.unsent fits.unsent;
}

pub fits_step : (js : List Event) (e : Event) → IsPossible (replay js) e → Fits js (replay js) → Fits (js ++ e ∷ []) (step (replay js) e)
unfolding step IsPossible
fits_step js (Opened uri label text encoding version) possible fits =
    fits_text js (Opened uri label text encoding version) (replay js) uri label (Some (measured encoding text)) (fits_later js (Opened uri label text encoding version) (replay js) fits) (none_from _ possible.0) refl refl
    (λ m is. ((refl, refl), refl, refl, sym possible.3))
fits_step js (Changed uri label edits version) possible fits =
    let e = Changed uri label edits version in
    fits_text js e (close_text (replay js) uri) uri label (edited_at (document_of uri (replay js).documents) edits)
    (fits_close (js ++ e ∷ []) (replay js) uri (fits_later js e (replay js) fits))
    (no_other uri (replay js).documents)
    refl refl
    (λ m is. ((refl, refl), refl, refl, sym (possible.1 ∙ ap (version_if (replay js).next_version) is)))
fits_step js (Closed uri) possible fits = fits_close (js ++ Closed uri ∷ []) (replay js) uri (fits_later js (Closed uri) (replay js) fits)
fits_step js (Asked id uri question links ticket) possible fits =
    let e = Asked id uri question links ticket in
    fits_ask js e (replay js) id uri question links (document_of uri (replay js).documents) (fits_later js e (replay js) fits) refl (none_from _ possible.2) refl refl
    (λ d named. (refl, sym named, refl, sym possible.3))
fits_step js (Cancelled id found) possible fits =
    let now = fits_later js (Cancelled id found) (replay js) fits in
    record {
      waiting = ordered_without (js ++ Cancelled id found ∷ []) 1 (asks_with id) (replay js).waiting (replay js).next_ticket now.waiting;
      unsent = entries_append (js ++ Cancelled id found ∷ []) (replay js).unsent _ now.unsent
          (at_current (js ++ Cancelled id found ∷ []) request_cancelled (find (asks_with id) (replay js).waiting)
          (λ w h. found_current (js ++ Cancelled id found ∷ []) 1 (asks_with id) (replay js).waiting (replay js).next_ticket w now.waiting h));
    }
fits_step js (Said body) possible fits =
    let now = fits_later js (Said body) (replay js) fits in
    record {
      waiting = now.waiting;
      unsent = entries_append (js ++ Said body ∷ []) (replay js).unsent (Body body ∷ []) now.unsent (body_current (js ++ Said body ∷ []) body);
    }
fits_step js (Took worker) possible fits =
    let now = fits_later js (Took worker) (replay js) fits in
    record {
      waiting = ordered_on (js ++ Took worker ∷ []) 1 true is_queued (replay js).waiting (replay js).next_ticket now.waiting;
      unsent = now.unsent;
    }
fits_step js (Returned ticket) possible fits =
    let now = fits_later js (Returned ticket) (replay js) fits in
    record {
      waiting = ordered_on (js ++ Returned ticket ∷ []) 1 false (is_held ticket) (replay js).waiting (replay js).next_ticket now.waiting;
      unsent = now.unsent;
    }
fits_step js (Finished ticket failed) possible fits =
    let now = fits_later js (Finished ticket failed) (replay js) fits in
    record {
      waiting = ordered_without (js ++ Finished ticket failed ∷ []) 1 (is_held ticket) (replay js).waiting (replay js).next_ticket now.waiting;
      unsent = entries_append (js ++ Finished ticket failed ∷ []) (replay js).unsent _ now.unsent
          (left_at_current (js ++ Finished ticket failed ∷ []) failed (find (is_held ticket) (replay js).waiting)
          (λ w h. found_current (js ++ Finished ticket failed ∷ []) 1 (is_held ticket) (replay js).waiting (replay js).next_ticket w now.waiting h));
    }
fits_step js (Sent ticket) possible fits =
    let now = fits_later js (Sent ticket) (replay js) fits in
    record { waiting = now.waiting; unsent = entries_rest (js ++ Sent ticket ∷ []) (replay js).unsent now.unsent }

-- ---- journals

fits_from : (most n : ℕ) (js es : List Event) → IsLegalFrom most n (replay js) es → Fits js (replay js) → Fits (js ++ es) (replay (js ++ es))
unfolding IsLegalFrom
fits_from most n js [] legal fits = let P : List Event → Type 0 = λ ks. Fits ks (replay ks) in subst P (sym (append-nil js)) fits
fits_from most n js (e ∷ es) legal fits =
    let now : replay (js ++ e ∷ []) ≡ step (replay js) e = replay_push start js e in
    let P : State → Type 0 = λ s. Fits (js ++ e ∷ []) s in
    let Q : State → Type 0 = λ s. IsLegalFrom most (n + 1) s es in
    let R : List Event → Type 0 = λ ks. Fits ks (replay ks) in
    subst R (append_assoc js (e ∷ []) es)
    (fits_from most (n + 1) (js ++ e ∷ []) es (subst Q (sym now) legal.2) (subst P (sym now) (fits_step js e legal.0 fits)))

pub fits_start : Fits [] start
unfolding WereCurrentInOrder WereEntriesCurrent
fits_start = record { waiting = omega arith; unsent = tt }

fits_all : (most : ℕ) (js : List Event) → IsLegal most js → Fits js (replay js)
unfolding replay_from
fits_all most js legal = fits_from most 0 [] js legal fits_start

pub ordered : (most : ℕ) (js : List Event) → IsLegal most js → IsOrdered js
ordered most js legal = let f = fits_all most js legal in record { waiting = f.waiting; unsent = f.unsent }
