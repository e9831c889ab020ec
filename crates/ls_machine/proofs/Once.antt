-- Each ticket stands at one place.
use Rattle.std.proofs.Common.{◌≡◌, ℕ, zero, suc, ◌+◌, ◌<◌, ◌≤◌, Bool, true, false, cond, List, [], ◌∷◌, ◌++◌, refl, sym, ap, ◌∙◌, subst, arith, append_assoc, append-nil, inl, inr}
use Rattle.std.specs.Prelude.{ℤ, Option, Some, None, find, count_by, is_some, is_none, not, ◌&&◌, ◌==◌, ◌⊎◌}
use Rattle.std.proofs.lemmas.Bool.{and_parts, eqb-true}
use Rattle.std.proofs.lemmas.Bool.Decides.{nat_tests}
use Rattle.std.proofs.lemmas.List.Sums.{sum_by-append}
use Rattle.std.proofs.lemmas.List.Elements.{filter_map-append}
use Rattle.std.proofs.lemmas.Option.{same_Some}
use Rattle.std.proofs.lemmas.Slice.Eq.{bytes_eq-Decides}
use Rattle.ls_text.specs.Positions.{Measured}
use Rattle.ls_rpc.specs.declared.message.Id.{Id}
use Rattle.ls_answers.specs.declared.ask.Ask.{Ask}
use Rattle.ls_machine.specs.declared.event.Event.{Event}
use Rattle.ls_machine.specs.declared.event.Event.TheVariants.{Opened, Changed, Closed, Asked, Cancelled, Said, Took, Returned, Finished, Sent}
use Rattle.ls_machine.specs.declared.state.Document.{Document}
use Rattle.ls_machine.specs.declared.state.Waiting.{Waiting}
use Rattle.ls_machine.specs.declared.state.Request.{Request}
use Rattle.ls_machine.specs.declared.state.State.{State}
use Rattle.ls_machine.specs.declared.state.OutboxEntry.{OutboxEntry}
use Rattle.ls_machine.specs.declared.state.OutboxEntry.TheVariants.{Body, Failure, Outcome}
use Rattle.ls_machine.specs.Machine.{start, step, IsPossible, document_of, edited_at, measured, is_for_id, asks_with, is_queued, is_held, on_first, without_first_job, with_taken, diagnosis, asked, told_to, told_if_found, request_cancelled, internal_error, content_modified, is_ended, ends, going_on, left_at, rest, first_ticket, ticket_of, put_text, close_text, ask_at}
use Rattle.ls_machine.specs.Journal.{replay_from, replay, IsLegalFrom, IsLegal}
use Rattle.ls_machine.specs.Client.{sent_ticket, sent_tickets}
use Rattle.ls_machine.specs.Laws.{IsForFindings, IsMadeBy, IsOrdered, EndsUntold, IsKeptOnce, RequestsAreKeptOnce, TicketsAreKeptOnce, WasLetGo, has_ticket, is_told_of, places}
use Rattle.ls_machine.proofs.Places.{found_passes}
use Rattle.ls_machine.proofs.Replays.{replay_append, replay_push}
use Rattle.ls_machine.proofs.Ordered.{Fits, fits_start, fits_step, found_current, ordered}

-- ---- counts

count_cons : {X : Type 0} (p : X → Bool) (x : X) (xs : List X) → count_by p (x ∷ xs) ≡ cond (p x) 1 0 + count_by p xs
count_cons p x xs = omega (arith, sum_by-append (λ y. cond (p y) 1 0) (x ∷ []) xs)

pub count_append : {X : Type 0} (p : X → Bool) (xs ys : List X) → count_by p (xs ++ ys) ≡ count_by p xs + count_by p ys
count_append p xs ys = sum_by-append (λ y. cond (p y) 1 0) xs ys

count_last : {X : Type 0} (p : X → Bool) (xs : List X) (x : X) → count_by p (xs ++ x ∷ []) ≡ count_by p xs + cond (p x) 1 0
count_last p xs x = let a = count_append p xs (x ∷ []) in let b = count_cons p x [] in omega arith

no_request : (r : Option Request) → is_none r ≡ true → r ≡ None
no_request None h = refl
no_request (Some r) h = absurd (cc)

-- ---- what ends, and what is said of it

-- the end of the text ends it, and nothing is said of it
untold : List ℕ → Waiting → Bool
untold uri w = is_ended uri w && is_none w.request

close_head : (b : Bool) (r : Option Request) (code : ℤ) (t : ℕ) (w : Waiting) (ws : List Waiting) (es : List OutboxEntry)
    → count_by (has_ticket t) (cond (not b) (w ∷ ws) ws) + count_by (is_told_of t) (cond b (told_to w.ticket code r) [] ++ es) + cond ((b && is_none r) && has_ticket t w) 1 0
    ≡ cond (has_ticket t w) 1 0 + count_by (has_ticket t) ws + count_by (is_told_of t) es
close_head false r code t w ws es = let c = count_cons (has_ticket t) w ws in omega arith
close_head true None code t w ws es = omega arith
close_head true (Some r) code t w ws es = let c = count_cons (is_told_of t) (Failure w.ticket r.id code) es in omega arith

close_count : (uri : List ℕ) (t : ℕ) (ws : List Waiting)
    → count_by (has_ticket t) (going_on uri ws) + count_by (is_told_of t) (ends uri ws) + count_by (λ w. untold uri w && has_ticket t w) ws ≡ count_by (has_ticket t) ws
unfolding untold
close_count uri t [] = omega arith
close_count uri t (w ∷ ws) =
    let h = close_head (is_ended uri w) w.request content_modified t w (going_on uri ws) (ends uri ws) in
    let more = close_count uri t ws in
    let a = count_cons (has_ticket t) w ws in
    let b = count_cons (λ x. untold uri x && has_ticket t x) w ws in
    omega arith

counted_at : ℕ → Option Waiting → ℕ
counted_at t None = 0
counted_at t (Some w) = cond (has_ticket t w) 1 0

without_head : (b : Bool) (t : ℕ) (w : Waiting) (o : Option Waiting) (ws xs : List Waiting) → count_by (has_ticket t) xs + counted_at t o ≡ count_by (has_ticket t) ws
    → count_by (has_ticket t) (cond b ws (w ∷ xs)) + counted_at t (cond b (Some w) o) ≡ cond (has_ticket t w) 1 0 + count_by (has_ticket t) ws
unfolding counted_at
without_head true t w o ws xs h = omega arith
without_head false t w o ws xs h = let c = count_cons (has_ticket t) w xs in omega arith

without_count : (q : Waiting → Bool) (t : ℕ) (ws : List Waiting) → count_by (has_ticket t) (without_first_job q ws) + counted_at t (find q ws) ≡ count_by (has_ticket t) ws
unfolding counted_at
without_count q t [] = omega arith
without_count q t (w ∷ ws) =
    let h = without_head (q w) t w (find q ws) ws (without_first_job q ws) (without_count q t ws) in
    let c = count_cons (has_ticket t) w ws in
    omega arith

on_head : (b taken : Bool) (t : ℕ) (w : Waiting) (ws xs : List Waiting) → count_by (has_ticket t) xs ≡ count_by (has_ticket t) ws
    → count_by (has_ticket t) (cond b (with_taken taken w ∷ ws) (w ∷ xs)) ≡ cond (has_ticket t w) 1 0 + count_by (has_ticket t) ws
on_head true taken t w ws xs h = count_cons (has_ticket t) (with_taken taken w) ws
on_head false taken t w ws xs h = let c = count_cons (has_ticket t) w xs in omega arith

on_count : (q : Waiting → Bool) (taken : Bool) (t : ℕ) (ws : List Waiting) → count_by (has_ticket t) (on_first q (with_taken taken) ws) ≡ count_by (has_ticket t) ws
on_count q taken t [] = refl
on_count q taken t (w ∷ ws) = on_head (q w) taken t w ws (on_first q (with_taken taken) ws) (on_count q taken t ws) ∙ sym (count_cons (has_ticket t) w ws)

-- a run without memory leaves nothing of a job for findings
gone_at : Bool → ℕ → Option Waiting → ℕ
gone_at failed t None = 0
gone_at failed t (Some w) = cond ((failed && is_none w.request) && has_ticket t w) 1 0

left_head : (failed : Bool) (r : Option Request) (t : ℕ) (w : Waiting)
    → count_by (is_told_of t) (cond failed (told_to w.ticket internal_error r) (Outcome w ∷ [])) + cond ((failed && is_none r) && has_ticket t w) 1 0 ≡ cond (has_ticket t w) 1 0
left_head false r t w = let c = count_cons (is_told_of t) (Outcome w) [] in omega arith
left_head true None t w = omega arith
left_head true (Some r) t w = let c = count_cons (is_told_of t) (Failure w.ticket r.id internal_error) [] in omega arith

left_count : (failed : Bool) (t : ℕ) (o : Option Waiting) → count_by (is_told_of t) (left_at failed o) + gone_at failed t o ≡ counted_at t o
unfolding counted_at gone_at
left_count failed t None = omega arith
left_count failed t (Some w) = left_head failed w.request t w

told_head : (r : Option Request) (id : Id) (t : ℕ) (w : Waiting) → is_for_id id r ≡ true → count_by (is_told_of t) (told_to w.ticket request_cancelled r) ≡ cond (has_ticket t w) 1 0
told_head None id t w h = absurd (cc)
told_head (Some r) id t w h = let c = count_cons (is_told_of t) (Failure w.ticket r.id request_cancelled) [] in omega arith

told_count : (id : Id) (t : ℕ) (o : Option Waiting) → ((w : Waiting) → o ≡ Some w → asks_with id w ≡ true) → count_by (is_told_of t) (told_if_found request_cancelled o) ≡ counted_at t o
unfolding counted_at
told_count id t None f = refl
told_count id t (Some w) f = told_head w.request id t w (f w refl)

rest_count : (es : List OutboxEntry) (t ticket : ℕ) → first_ticket es ≡ Some ticket → count_by (is_told_of t) (rest es) + cond (ticket == t) 1 0 ≡ count_by (is_told_of t) es
rest_count [] t ticket h = absurd (cc)
rest_count (e ∷ es) t ticket h =
    let one : ℕ → ℕ = λ n. cond (n == t) 1 0 in
    let same : one (ticket_of e) ≡ one ticket = ap one (same_Some (ticket_of e) ticket h) in
    let c = count_cons (is_told_of t) e es in
    omega arith

-- ---- a job that is let go

both_head : (a b : Bool) (n m : ℕ) → n ≤ m → cond (a && b) 1 0 + n ≤ cond b 1 0 + m
both_head true true n m h = omega arith
both_head true false n m h = omega arith
both_head false true n m h = omega arith
both_head false false n m h = omega arith

both_le : (r p : Waiting → Bool) (ws : List Waiting) → count_by (λ w. r w && p w) ws ≤ count_by p ws
both_le r p [] = omega arith
both_le r p (w ∷ ws) =
    let a = count_cons (λ x. r x && p x) w ws in
    let b = count_cons p w ws in
    let h = both_head (r w) (p w) (count_by (λ x. r x && p x) ws) (count_by p ws) (both_le r p ws) in
    omega arith

-- the one that passes both is the one that passes
both_by : (a b : Bool) (r p : Waiting → Bool) (w : Waiting) (o : Option Waiting) (n m : ℕ) → r w ≡ a → n ≤ m
    → 0 < cond (a && b) 1 0 + n → cond b 1 0 + m ≤ 1
    → (0 < n → m ≤ 1 → (x : Waiting) × (o ≡ Some x) × (r x ≡ true))
    → (x : Waiting) × (cond b (Some w) o ≡ Some x) × (r x ≡ true)
both_by true true r p w o n m is below some one later = (w, refl, is)
both_by false true r p w o n m is below some one later = absurd (omega arith)
both_by true false r p w o n m is below some one later = later (omega arith) (omega arith)
both_by false false r p w o n m is below some one later = later (omega arith) (omega arith)

both_found : (r p : Waiting → Bool) (ws : List Waiting) → 0 < count_by (λ w. r w && p w) ws → count_by p ws ≤ 1 → (w : Waiting) × (find p ws ≡ Some w) × (r w ≡ true)
both_found r p [] some one = absurd (omega arith)
both_found r p (w ∷ ws) some one =
    let a = count_cons (λ x. r x && p x) w ws in
    let b = count_cons p w ws in
    both_by (r w) (p w) r p w (find p ws) (count_by (λ x. r x && p x) ws) (count_by p ws) refl (both_le r p ws) (omega arith) (omega arith) (both_found r p ws)

found_by : (b : Bool) (p : Waiting → Bool) (w : Waiting) (o : Option Waiting) (x : Waiting) (n : ℕ) → cond b (Some w) o ≡ Some x → p x ≡ true → (o ≡ Some x → 0 < n) → 0 < cond (p w) 1 0 + n
found_by true p w o x n h is later = let f : Bool → ℕ = λ c. cond c 1 0 in let one : f (p w) ≡ f true = ap f (ap p (same_Some w x h) ∙ is) in omega arith
found_by false p w o x n h is f = let one = f h in omega arith

-- what is found is counted
found_counted : (q p : Waiting → Bool) (ws : List Waiting) (x : Waiting) → find q ws ≡ Some x → p x ≡ true → 0 < count_by p ws
found_counted q p [] x h is = absurd (cc)
found_counted q p (w ∷ ws) x h is =
    let c = count_cons p w ws in
    let f = found_by (q w) p w (find q ws) x (count_by p ws) h is (λ g. found_counted q p ws x g is) in
    omega arith

same_by : (b c : Bool) (p : Waiting → Bool) (w : Waiting) (o s : Option Waiting) (x : Waiting) (n : ℕ) → p w ≡ c → cond b (Some w) o ≡ Some x → p x ≡ true
    → (o ≡ Some x → 0 < n) → cond c 1 0 + n ≤ 1 → (o ≡ Some x → n ≤ 1 → s ≡ Some x) → cond c (Some w) s ≡ Some x
same_by true true p w o s x n e h is f one later = h
same_by true false p w o s x n e h is f one later = let up : p w ≡ true = ap p (same_Some w x h) ∙ is in absurd (cc)
same_by false true p w o s x n e h is f one later = let some = f h in absurd (omega arith)
same_by false false p w o s x n e h is f one later = later h (omega arith)

-- where one passes, what is found by another test and passes is that one
same_found : (q p : Waiting → Bool) (ws : List Waiting) (x : Waiting) → find q ws ≡ Some x → p x ≡ true → count_by p ws ≤ 1 → find p ws ≡ Some x
same_found q p [] x h is one = absurd (cc)
same_found q p (w ∷ ws) x h is one =
    let c = count_cons p w ws in
    same_by (q w) (p w) p w (find q ws) (find p ws) x (count_by p ws) refl h is (λ g. found_counted q p ws x g is) (omega arith) (λ g k. same_found q p ws x g is k)

-- ---- what an event does to a ticket

stood : State → ℕ → ℕ
stood s t = count_by (has_ticket t) s.waiting + count_by (is_told_of t) s.unsent

sent_of : Event → ℕ → ℕ
sent_of e t = count_by (λ sent. sent == t) (sent_tickets (e ∷ []))

record Moves (s : State) (e : Event) (t : ℕ) : Type 0 where
  pub given : ℕ
  pub gone : ℕ
  pub one : given ≤ 1
  pub next : (step s e).next_ticket ≡ s.next_ticket + given
  pub sum : stood (step s e) t + sent_of e t + gone ≡ stood s t + cond (s.next_ticket == t) given 0
  pub few : gone ≤ count_by (has_ticket t) s.waiting
  pub let_go : 0 < gone → count_by (has_ticket t) s.waiting ≤ 1 → (w : Waiting) × (find (has_ticket t) s.waiting ≡ Some w) × (w.request ≡ None) × EndsUntold e w

record Puts (s z : State) (t : ℕ) : Type 0 where
  pub given : ℕ
  pub one : given ≤ 1
  pub next : z.next_ticket ≡ s.next_ticket + given
  pub sum : stood z t ≡ stood s t + cond (s.next_ticket == t) given 0
  pub same : z.unsent ≡ s.unsent

cond_none : (b : Bool) → ◌≡◌ {A = ℕ} (cond b 0 0) 0
cond_none true = refl
cond_none false = refl

puts : (s : State) (uri : List ℕ) (label : ℤ) (x : Option Measured) (t : ℕ) → Puts s (put_text s uri label x) t
unfolding stood
puts s uri label None t = record { given = 0; one = omega arith; next = omega arith; sum = (let z = cond_none (s.next_ticket == t) in omega arith); same = refl }
puts s uri label (Some m) t = record { given = 1; one = omega arith; next = refl; sum = (let c = count_last (has_ticket t) s.waiting (diagnosis s.next_ticket uri s.next_version label m) in omega arith); same = refl }

asks : (s : State) (id : Id) (d : Option Document) (question : Ask) (links : Bool) (t : ℕ) → Puts s (ask_at s id d question links) t
unfolding stood
asks s id None question links t = record { given = 0; one = omega arith; next = omega arith; sum = (let z = cond_none (s.next_ticket == t) in omega arith); same = refl }
asks s id (Some d) question links t = record { given = 1; one = omega arith; next = refl; sum = (let c = count_last (has_ticket t) s.waiting (asked s.next_ticket id question links d) in omega arith); same = refl }

-- a document goes
closes : (s : State) (uri : List ℕ) (t : ℕ) → stood (close_text s uri) t + count_by (λ w. untold uri w && has_ticket t w) s.waiting ≡ stood s t
unfolding stood
closes s uri t =
    let c = close_count uri t s.waiting in
    let a = count_append (is_told_of t) s.unsent (ends uri s.waiting) in
    omega arith

ended_uri : (uri : List ℕ) (w : Waiting) → is_ended uri w ≡ true → w.uri ≡ uri
ended_uri uri w h = (bytes_eq-Decides w.uri uri).0 (and_parts _ _ h).0

let_go_holds : (uri : List ℕ) (t : ℕ) (ws : List Waiting) → 0 < count_by (λ w. untold uri w && has_ticket t w) ws → count_by (has_ticket t) ws ≤ 1
    → (w : Waiting) × (find (has_ticket t) ws ≡ Some w) × (w.request ≡ None) × (w.uri ≡ uri)
unfolding untold
let_go_holds uri t ws some one =
    let f = both_found (untold uri) (has_ticket t) ws some one in
    let parts = and_parts (is_ended uri f.0) (is_none f.0.request) f.2 in
    (f.0, f.1, no_request f.0.request parts.1, ended_uri uri f.0 parts.0)

gone_le : (failed : Bool) (t : ℕ) (o : Option Waiting) → gone_at failed t o ≤ counted_at t o
gone_le failed t o = let l = left_count failed t o in omega arith

gone_by : (failed n : Bool) (b : Bool) → 0 < cond ((failed && n) && b) 1 0 → (failed ≡ true) × (n ≡ true) × (b ≡ true)
gone_by true true true h = (refl, refl, refl)
gone_by true true false h = absurd (omega arith)
gone_by true false b h = absurd (omega arith)
gone_by false n b h = absurd (omega arith)

run_go : (failed : Bool) (ticket t : ℕ) (ws : List Waiting) (o : Option Waiting) → find (is_held ticket) ws ≡ o → 0 < gone_at failed t o → count_by (has_ticket t) ws ≤ 1
    → (w : Waiting) × (find (has_ticket t) ws ≡ Some w) × (w.request ≡ None) × (w.ticket ≡ ticket) × (failed ≡ true)
unfolding gone_at
run_go failed ticket t ws None is some one = absurd (omega arith)
run_go failed ticket t ws (Some w) is some one =
    let g = gone_by failed (is_none w.request) (has_ticket t w) some in
    let held = found_passes (is_held ticket) ws w is in
    (w, same_found (is_held ticket) (has_ticket t) ws w is g.2 one, no_request w.request g.1, eqb-true _ _ (and_parts (w.ticket == ticket) w.taken held).0, g.0)

no_body_by : (b : Bool) (t : ℕ) → (0 == t) ≡ b → 0 < t → ◌≡◌ {A = ℕ} (cond b 1 0) 0
no_body_by true t is h = let same = eqb-true 0 t is in absurd (omega arith)
no_body_by false t is h = refl

no_body : (t : ℕ) → 0 < t → ◌≡◌ {A = ℕ} (cond (0 == t) 1 0) 0
no_body t h = no_body_by (0 == t) t refl h

-- an event that gives no ticket and lets no job go
stays : (s : State) (e : Event) (t : ℕ) → (step s e).next_ticket ≡ s.next_ticket → stood (step s e) t + sent_of e t ≡ stood s t → Moves s e t
stays s e t next sum =
    let z = cond_none (s.next_ticket == t) in
    record { given = 0; gone = 0; one = omega arith; next = omega arith; sum = omega arith; few = omega arith; let_go = λ h k. absurd (omega arith) }

moves : (s : State) (e : Event) (t : ℕ) → 0 < t → IsPossible s e → Moves s e t
unfolding step IsPossible stood sent_of
moves s (Opened uri label text encoding version) t some possible =
    let p = puts s uri label (Some (measured encoding text)) t in
    record { given = p.given; gone = 0; one = p.one; next = p.next; sum = (let q = p.sum in omega arith); few = omega arith; let_go = λ h k. absurd (omega arith) }
moves s (Changed uri label edits version) t some possible =
    let p = puts (close_text s uri) uri label (edited_at (document_of uri s.documents) edits) t in
    record {
      given = p.given;
      gone = count_by (λ w. untold uri w && has_ticket t w) s.waiting;
      one = p.one;
      next = p.next;
      sum = (let q = p.sum in let c = closes s uri t in omega arith);
      few = both_le (untold uri) (has_ticket t) s.waiting;
      let_go = λ h k. let_go_holds uri t s.waiting h k;
    }
moves s (Closed uri) t some possible =
    record {
      given = 0;
      gone = count_by (λ w. untold uri w && has_ticket t w) s.waiting;
      one = omega arith;
      next = omega arith;
      sum = (let z = cond_none (s.next_ticket == t) in let c = closes s uri t in omega arith);
      few = both_le (untold uri) (has_ticket t) s.waiting;
      let_go = λ h k. let_go_holds uri t s.waiting h k;
    }
moves s (Asked id uri question links ticket) t some possible =
    let p = asks s id (document_of uri s.documents) question links t in
    record { given = p.given; gone = 0; one = p.one; next = p.next; sum = (let q = p.sum in omega arith); few = omega arith; let_go = λ h k. absurd (omega arith) }
moves s (Cancelled id found) t some possible =
    let w = without_count (asks_with id) t s.waiting in
    let a = count_append (is_told_of t) s.unsent (told_if_found request_cancelled (find (asks_with id) s.waiting)) in
    let c = told_count id t (find (asks_with id) s.waiting) (λ w h. found_passes (asks_with id) s.waiting w h) in
    stays s _ t refl (omega arith)
moves s (Said body) t some possible =
    let a = count_last (is_told_of t) s.unsent (Body body) in
    let b = no_body t some in
    stays s _ t refl (omega arith)
moves s (Took worker) t some possible =
    let c = on_count is_queued true t s.waiting in stays s _ t refl (omega arith)
moves s (Returned ticket) t some possible =
    let c = on_count (is_held ticket) false t s.waiting in stays s _ t refl (omega arith)
moves s (Finished ticket failed) t some possible =
    let o = find (is_held ticket) s.waiting in
    record {
      given = 0;
      gone = gone_at failed t o;
      one = omega arith;
      next = omega arith;
      sum = (let z = cond_none (s.next_ticket == t) in
          let w = without_count (is_held ticket) t s.waiting in
          let a = count_append (is_told_of t) s.unsent (left_at failed o) in
          let c = left_count failed t o in
          omega arith);
      few = (let w = without_count (is_held ticket) t s.waiting in let g = gone_le failed t o in omega arith);
      let_go = λ h k. let g = run_go failed ticket t s.waiting o refl h k in (g.0, g.1, g.2, (g.3, g.4));
    }
moves s (Sent ticket) t some possible =
    let r = rest_count s.unsent t ticket possible in
    let c = count_cons (λ sent. sent == t) ticket [] in
    stays s _ t refl (omega arith)

-- ---- one event more

sent_push : (js : List Event) (e : Event) (t : ℕ) → count_by (λ sent. sent == t) (sent_tickets (js ++ e ∷ [])) ≡ count_by (λ sent. sent == t) (sent_tickets js) + sent_of e t
unfolding sent_of
sent_push js e t =
    ap (λ (ns : List ℕ). count_by (λ sent. sent == t) ns) (filter_map-append sent_ticket js (e ∷ []))
    ∙ count_append (λ sent. sent == t) (sent_tickets js) (sent_tickets (e ∷ []))

places_push : (js : List Event) (e : Event) (t : ℕ) → places (js ++ e ∷ []) t ≡ stood (step (replay js) e) t + sent_of e t + count_by (λ sent. sent == t) (sent_tickets js)
unfolding stood
places_push js e t =
    let a = ap (λ (s : State). count_by (has_ticket t) s.waiting) (replay_push start js e) in
    let b = ap (λ (s : State). count_by (is_told_of t) s.unsent) (replay_push start js e) in
    let c = sent_push js e t in
    omega arith

stood_places : (js : List Event) (t : ℕ) → places js t ≡ stood (replay js) t + count_by (λ sent. sent == t) (sent_tickets js)
unfolding stood
stood_places js t = omega arith

waiting_places : (js : List Event) (t : ℕ) → count_by (has_ticket t) (replay js).waiting ≤ places js t
waiting_places js t = omega arith

-- the places of a ticket before and after an event
moved : (js : List Event) (e : Event) (t : ℕ) (m : Moves (replay js) e t) → places (js ++ e ∷ []) t + m.gone ≡ places js t + cond ((replay js).next_ticket == t) m.given 0
moved js e t m =
    let a = places_push js e t in
    let b = stood_places js t in
    let c = m.sum in
    omega arith

go_later : (js : List Event) (e : Event) (t : ℕ) → WasLetGo js t → WasLetGo (js ++ e ∷ []) t
go_later js e t g = record {
  before = g.before;
  event = g.event;
  later = g.later ++ e ∷ [];
  journal_is = ap (λ (es : List Event). es ++ e ∷ []) g.journal_is ∙ append_assoc g.before (g.event ∷ g.later) (e ∷ []);
  job = g.job;
  waited = g.waited;
  findings = g.findings;
  ends = g.ends;
}

kept_on : (js : List Event) (e : Event) (t gone : ℕ) → places (js ++ e ∷ []) t + gone ≡ places js t → (0 < gone → places js t ≤ 1 → WasLetGo (js ++ e ∷ []) t) → IsKeptOnce js t → IsKeptOnce (js ++ e ∷ []) t
kept_on js e t zero sum f (inl one) = inl (omega arith)
kept_on js e t (suc n) sum f (inl one) = inr (omega arith, f (omega arith) (omega arith))
kept_on js e t gone sum f (inr none) = inr ((let z = none.0 in omega arith), go_later js e t none.1)

-- a job of nobody's is for findings
made_findings : (e : Event) (w : Waiting) → IsMadeBy e w → w.request ≡ None → IsForFindings w
made_findings (Asked id uri question links ticket) w made none = let some = made.0 in absurd (cc)
made_findings (Opened uri label text encoding version) w made none = made.0
made_findings (Changed uri label edits version) w made none = made.0
made_findings (Closed uri) w made none = absurd made
made_findings (Cancelled id found) w made none = absurd made
made_findings (Said body) w made none = absurd made
made_findings (Took worker) w made none = absurd made
made_findings (Returned ticket) w made none = absurd made
made_findings (Finished ticket failed) w made none = absurd made
made_findings (Sent ticket) w made none = absurd made

was_let_go : (js : List Event) (e : Event) (t : ℕ) (m : Moves (replay js) e t) → IsOrdered js → 0 < m.gone → places js t ≤ 1 → WasLetGo (js ++ e ∷ []) t
was_let_go js e t m is some one =
    let few = waiting_places js t in
    let g = m.let_go some (omega arith) in
    let current = found_current js 1 (has_ticket t) (replay js).waiting (replay js).next_ticket g.0 is.waiting g.1 in
    record {
      before = js;
      event = e;
      later = [];
      journal_is = refl;
      job = g.0;
      waited = g.1;
      findings = made_findings current.event g.0 current.made_by g.2;
      ends = g.3;
    }

-- each ticket so far stands at one place, and the next ones at none
record Once (js : List Event) : Type 0 where
  pub fresh : (t : ℕ) → 0 < t → (replay js).next_ticket ≤ t → places js t ≡ 0
  pub given : (t : ℕ) → 0 < t → t < (replay js).next_ticket → IsKeptOnce js t

other_by : (b : Bool) (a t n : ℕ) → (a == t) ≡ b → a + n ≤ t → cond b n 0 ≡ 0
other_by true a t n is h = let same = eqb-true a t is in omega arith
other_by false a t n is h = refl

fresh_step : (js : List Event) (e : Event) (t : ℕ) → Moves (replay js) e t → Once js → 0 < t → (replay (js ++ e ∷ [])).next_ticket ≤ t → places (js ++ e ∷ []) t ≡ 0
fresh_step js e t m once some high =
    let now = ap (λ (s : State). s.next_ticket) (replay_push start js e) in
    let next = m.next in
    let sum = moved js e t m in
    let none = other_by ((replay js).next_ticket == t) (replay js).next_ticket t m.given refl (omega arith) in
    let before = once.fresh t some (omega arith) in
    omega arith

given_by : (b : Bool) (js : List Event) (e : Event) (t : ℕ) (m : Moves (replay js) e t) → IsOrdered js → Once js → 0 < t → ((replay js).next_ticket == t) ≡ b
    → places (js ++ e ∷ []) t + m.gone ≡ places js t + cond b m.given 0 → t < (replay js).next_ticket + m.given → IsKeptOnce (js ++ e ∷ []) t
given_by true js e t m is once some same sum low =
    let is_next = eqb-true (replay js).next_ticket t same in
    let before = once.fresh t some (omega arith) in
    let few = waiting_places js t in
    let none = m.few in
    let one = m.one in
    inl (omega arith)
given_by false js e t m is once some same sum low =
    let one = m.one in
    kept_on js e t m.gone (omega arith) (was_let_go js e t m is) (once.given t some (below (replay js).next_ticket t m.given same one low))
  where
    below : (a t n : ℕ) → (a == t) ≡ false → n ≤ 1 → t < a + n → t < a
    below a t n same one low = grind (arith, nat_tests)

given_step : (js : List Event) (e : Event) (t : ℕ) → Moves (replay js) e t → IsOrdered js → Once js → 0 < t → t < (replay (js ++ e ∷ [])).next_ticket → IsKeptOnce (js ++ e ∷ []) t
given_step js e t m is once some low =
    let now = ap (λ (s : State). s.next_ticket) (replay_push start js e) in
    let next = m.next in
    given_by ((replay js).next_ticket == t) js e t m is once some refl (moved js e t m) (omega arith)

once_step : (js : List Event) (e : Event) → IsPossible (replay js) e → IsOrdered js → Once js → Once (js ++ e ∷ [])
once_step js e possible is once = record {
  fresh = λ t some high. fresh_step js e t (moves (replay js) e t some possible) once some high;
  given = λ t some low. given_step js e t (moves (replay js) e t some possible) is once some low;
}

-- ---- journals

once_from : (most n : ℕ) (js es : List Event) → IsLegalFrom most n (replay js) es → Fits js (replay js) → Once js → Once (js ++ es)
unfolding IsLegalFrom
once_from most n js [] legal fits once = let P : List Event → Type 0 = λ ks. Once ks in subst P (sym (append-nil js)) once
once_from most n js (e ∷ es) legal fits once =
    let now : replay (js ++ e ∷ []) ≡ step (replay js) e = replay_push start js e in
    let P : State → Type 0 = λ s. Fits (js ++ e ∷ []) s in
    let Q : State → Type 0 = λ s. IsLegalFrom most (n + 1) s es in
    let R : List Event → Type 0 = λ ks. Once ks in
    let is : IsOrdered js = record { waiting = fits.waiting; unsent = fits.unsent } in
    subst R (append_assoc js (e ∷ []) es)
    (once_from most (n + 1) (js ++ e ∷ []) es (subst Q (sym now) legal.2) (subst P (sym now) (fits_step js e legal.0 fits)) (once_step js e legal.0 is once))

once_start : Once []
unfolding replay_from
once_start = record { fresh = λ t some high. omega arith; given = λ t some low. absurd (omega arith) }

once_all : (most : ℕ) (js : List Event) → IsLegal most js → Once js
unfolding replay_from
once_all most js legal = once_from most 0 [] js legal fits_start once_start

pub tickets_once : TicketsAreKeptOnce
tickets_once = λ most journal legal t some low. (once_all most journal legal).given t some low

-- ---- requests

grows_put : (s : State) (uri : List ℕ) (label : ℤ) (x : Option Measured) → s.next_ticket ≤ (put_text s uri label x).next_ticket
grows_put s uri label None = omega arith
grows_put s uri label (Some m) = omega arith

grows_ask : (s : State) (id : Id) (d : Option Document) (question : Ask) (links : Bool) → s.next_ticket ≤ (ask_at s id d question links).next_ticket
grows_ask s id None question links = omega arith
grows_ask s id (Some d) question links = omega arith

grows : (s : State) (e : Event) → s.next_ticket ≤ (step s e).next_ticket
unfolding step
grows s (Opened uri label text encoding version) = grows_put s uri label (Some (measured encoding text))
grows s (Changed uri label edits version) = grows_put (close_text s uri) uri label (edited_at (document_of uri s.documents) edits)
grows s (Closed uri) = omega arith
grows s (Asked id uri question links ticket) = grows_ask s id (document_of uri s.documents) question links
grows s (Cancelled id found) = omega arith
grows s (Said body) = omega arith
grows s (Took worker) = omega arith
grows s (Returned ticket) = omega arith
grows s (Finished ticket failed) = omega arith
grows s (Sent ticket) = omega arith

grows_from : (s : State) (es : List Event) → s.next_ticket ≤ (replay_from s es).next_ticket
unfolding replay_from
grows_from s [] = omega arith
grows_from s (e ∷ es) = let a = grows s e in let b = grows_from (step s e) es in omega arith

-- one event gives a ticket
pub one_giver : (s : State) (b c : List Event) (x y : Event) (l m : List Event) (t : ℕ) → b ++ x ∷ l ≡ c ++ y ∷ m
    → (replay_from s b).next_ticket ≡ t → (step (replay_from s b) x).next_ticket ≡ t + 1
    → (replay_from s c).next_ticket ≡ t → (step (replay_from s c) y).next_ticket ≡ t + 1
    → x ≡ y
unfolding replay_from
one_giver s [] [] x y l m t same x_is x_next y_is y_next = let now : x ∷ l ≡ y ∷ m = same in cc
one_giver s [] (z ∷ c) x y l m t same x_is x_next y_is y_next =
    let now : x ∷ l ≡ z ∷ (c ++ y ∷ m) = same in
    let first : x ≡ z = cc in
    let more = grows_from (step s z) c in
    let next = ap (λ (e : Event). (step s e).next_ticket) first in
    absurd (omega arith)
one_giver s (w ∷ b) [] x y l m t same x_is x_next y_is y_next =
    let now : w ∷ (b ++ x ∷ l) ≡ y ∷ m = same in
    let first : w ≡ y = cc in
    let more = grows_from (step s w) b in
    let next = ap (λ (e : Event). (step s e).next_ticket) first in
    absurd (omega arith)
one_giver s (w ∷ b) (z ∷ c) x y l m t same x_is x_next y_is y_next =
    let now : w ∷ (b ++ x ∷ l) ≡ z ∷ (c ++ y ∷ m) = same in
    let first : w ≡ z = cc in
    let later : b ++ x ∷ l ≡ c ++ y ∷ m = cc in
    one_giver (step s w) b c x y l m t later x_is x_next
    (ap (λ (e : Event). (replay_from (step s e) c).next_ticket) first ∙ y_is)
    (ap (λ (e : Event). (step (replay_from (step s e) c) y).next_ticket) first ∙ y_next)

pub legal_before : (most n : ℕ) (s : State) (es fs : List Event) → IsLegalFrom most n s (es ++ fs) → IsLegalFrom most n s es
unfolding IsLegalFrom
legal_before most n s [] fs legal = tt
legal_before most n s (e ∷ es) fs legal = (legal.0, legal.1, legal_before most (n + 1) (step s e) es fs legal.2)

pub legal_at : (most n : ℕ) (s : State) (es : List Event) (e : Event) (fs : List Event) → IsLegalFrom most n s (es ++ e ∷ fs) → IsPossible (replay_from s es) e
unfolding IsLegalFrom replay_from
legal_at most n s [] e fs legal = legal.0
legal_at most n s (x ∷ es) e fs legal = legal_at most (n + 1) (step s x) es e fs legal.2

asked_gives : (s : State) (id : Id) (d : Option Document) (question : Ask) (links : Bool) → is_some d ≡ true → (ask_at s id d question links).next_ticket ≡ s.next_ticket + 1
asked_gives s id None question links h = absurd (cc)
asked_gives s id (Some d) question links h = refl

-- a request gets the next ticket
pub record Gives (s : State) (id : Id) (uri : List ℕ) (question : Ask) (links : Bool) (ticket : ℕ) : Type 0 where
  pub is : ticket ≡ s.next_ticket
  pub next : (step s (Asked id uri question links ticket)).next_ticket ≡ s.next_ticket + 1

pub gives : (s : State) (id : Id) (uri : List ℕ) (question : Ask) (links : Bool) (ticket : ℕ) → IsPossible s (Asked id uri question links ticket) → Gives s id uri question links ticket
unfolding step IsPossible
gives s id uri question links ticket possible = record { is = possible.3; next = asked_gives s id (document_of uri s.documents) question links possible.0 }

not_let_go : (most : ℕ) (before later : List Event) (id : Id) (uri : List ℕ) (question : Ask) (links : Bool) (ticket : ℕ)
    → IsLegal most (before ++ Asked id uri question links ticket ∷ later) → Gives (replay before) id uri question links ticket
    → WasLetGo (before ++ Asked id uri question links ticket ∷ later) ticket → ⊥
not_let_go most before later id uri question links ticket legal gave g =
    let e = Asked id uri question links ticket in
    let P : List Event → Type 0 = λ js. IsLegal most js in
    let sooner = legal_before most 0 start g.before (g.event ∷ g.later) (subst P g.journal_is legal) in
    let current = found_current g.before 1 (has_ticket ticket) (replay g.before).waiting (replay g.before).next_ticket g.job (ordered most g.before sooner).waiting g.waited in
    let same : g.job.ticket ≡ ticket = eqb-true g.job.ticket ticket (found_passes (has_ticket ticket) (replay g.before).waiting g.job g.waited) in
    let split : current.before ++ current.event ∷ (current.later ++ g.event ∷ g.later) ≡ before ++ e ∷ later
    = sym (g.journal_is ∙ (ap (λ (es : List Event). es ++ g.event ∷ g.later) current.journal_is ∙ append_assoc current.before (current.event ∷ current.later) (g.event ∷ g.later))) in
    let it : current.event ≡ e
    = one_giver start current.before before current.event e (current.later ++ g.event ∷ g.later) later ticket split
    (current.ticket_is ∙ same) (current.given ∙ ap (λ n. n + 1) same) (sym gave.is) (gave.next ∙ ap (λ n. n + 1) (sym gave.is)) in
    let Q : Event → Type 0 = λ x. IsMadeBy x g.job in
    let made = subst Q it current.made_by in
    let some = made.0 in
    let none = g.findings.0 in
    absurd (cc)

once_or : {A B : Type 0} → A ⊎ B → (B → ⊥) → A
once_or (inl a) f = a
once_or (inr b) f = absurd (f b)

above : (s : State) (e : Event) (later : List Event) (ticket n : ℕ) → ticket ≡ s.next_ticket → (step s e).next_ticket ≡ s.next_ticket + 1 → n ≡ (replay_from s (e ∷ later)).next_ticket → ticket < n
unfolding replay_from
above s e later ticket n is next all = let up = grows_from (step s e) later in omega arith

pub low_start : (es : List Event) → 1 ≤ (replay es).next_ticket
low_start es = grows_from start es

pub requests_once : RequestsAreKeptOnce
requests_once = λ most before later id uri question links ticket legal.
    let e = Asked id uri question links ticket in
    let gave = gives (replay before) id uri question links ticket (legal_at most 0 start before e later legal) in
    let low = low_start before in
    let is = gave.is in
    let all = ap (λ (s : State). s.next_ticket) (replay_append start before (e ∷ later)) in
    once_or (tickets_once most (before ++ e ∷ later) legal ticket (omega arith) (above (replay before) e later ticket (replay (before ++ e ∷ later)).next_ticket is gave.next all))
    (λ k. not_let_go most before later id uri question links ticket legal gave k.1)
