-- Steps that are left: one can be made, and each makes them fewer.
use Rattle.std.proofs.Common.{◌≡◌, inl, inr, ℕ, ◌+◌, ◌<◌, ◌≤◌, Bool, true, false, cond, List, [], ◌∷◌, ◌++◌, length, refl, sym, ap, subst, length-append, arith}
use Rattle.std.specs.Prelude.{ℤ, Option, Some, None, find, is_some, not, sum_by, if◌then◌else◌}
use Rattle.std.proofs.lemmas.Bool.Decides.{nat_tests}
use Rattle.std.proofs.lemmas.List.Sums.{sum_by-cons}
use Rattle.ls_machine.specs.declared.event.Event.TheVariants.{Opened, Changed, Closed, Asked, Cancelled, Said, Took, Returned, Finished, Sent}
use Rattle.ls_machine.specs.declared.state.OutboxEntry.{OutboxEntry}
use Rattle.ls_machine.specs.declared.state.OutboxEntry.TheVariants.{Outcome}
use Rattle.ls_machine.specs.declared.state.Request.{Request}
use Rattle.ls_machine.specs.declared.state.State.{State}
use Rattle.ls_machine.specs.declared.state.Waiting.{Waiting}
use Rattle.ls_machine.specs.Machine.{IsPossible, first_ticket, internal_error, is_held, is_queued, left_at, on_first, rest, step, ticket_of, told_to, with_taken, without_first_job}
use Rattle.ls_machine.specs.Progress.{CanGoOn, NothingIsLeft, StepsAreFew, TakenJobsCanFinish, WorkGoesOn, left, steps_of}

-- ---- something can be done

here : (p : Waiting → Bool) (w : Waiting) (ws : List Waiting) → p w ≡ true → is_some (find p (w ∷ ws)) ≡ true
here p w ws e = ap (λ b. is_some (cond b (Some w) (find p ws))) e

behind : (b : Bool) (w : Waiting) (o : Option Waiting) → is_some o ≡ true → is_some (cond b (Some w) o) ≡ true
behind true w o h = refl
behind false w o h = h

-- a taken job is the one that its ticket finds, or another one with that ticket stands before it
taken_found : (before later : List Waiting) (w : Waiting) → w.taken ≡ true → is_some (find (is_held w.ticket) (before ++ w ∷ later)) ≡ true
taken_found [] later w h = here (is_held w.ticket) w later (grind (arith, nat_tests, h))
taken_found (x ∷ before) later w h = behind (is_held w.ticket x) x (find (is_held w.ticket) (before ++ w ∷ later)) (taken_found before later w h)

pub taken_finish : TakenJobsCanFinish
unfolding IsPossible
taken_finish s before later w failed is h = subst (λ ws. is_some (find (is_held w.ticket) ws) ≡ true) (sym is) (taken_found before later w h)

first_goes : (s : State) (b : Bool) (w : Waiting) (ws : List Waiting) → s.waiting ≡ w ∷ ws → w.taken ≡ b → CanGoOn s
unfolding IsPossible
first_goes s true w ws is h = inr (inl (w.ticket, λ failed. taken_finish s [] ws w failed is h))
first_goes s false w ws is h = inl (λ worker. subst (λ l. is_some (find is_queued l) ≡ true) (sym is) (here is_queued w ws (ap not h)))

goes : (s : State) (ws : List Waiting) (es : List OutboxEntry) → s.waiting ≡ ws → s.unsent ≡ es → 0 < left s → CanGoOn s
unfolding IsPossible
goes s (w ∷ ws) es e f less = first_goes s w.taken w ws e refl
goes s [] (x ∷ es) e f less = inr (inr (ticket_of x, ap first_ticket f))
goes s [] [] e f less =
    let jobs : sum_by steps_of s.waiting ≡ 0 = ap (sum_by steps_of) e in
    let entries : length s.unsent ≡ 0 = ap length f in
    absurd (omega (arith, jobs, entries, less))

pub goes_on : WorkGoesOn
goes_on s less = goes s s.waiting s.unsent refl refl less

-- ---- nothing is left

two_or_more : (b : Bool) → 2 ≤ (if b then 2 else 3)
two_or_more true = omega arith
two_or_more false = omega arith

none_left : (ws : List Waiting) (es : List OutboxEntry) → sum_by steps_of ws + length es ≡ 0 → (ws ≡ []) × (es ≡ [])
none_left [] [] h = (refl, refl)
none_left [] (e ∷ es) h = absurd (omega (arith, h))
none_left (w ∷ ws) es h =
    let two : 2 ≤ steps_of w = two_or_more w.taken in
    absurd (omega (arith, h, two, sum_by-cons steps_of w ws))

pub nothing_left : NothingIsLeft
nothing_left s h = none_left s.waiting s.unsent h

-- ---- a job is taken

took_by : (b : Bool) (w : Waiting) (ws : List Waiting) → steps_of w ≡ (if b then 2 else 3) → is_some (cond (not b) (Some w) (find is_queued ws)) ≡ true
    → (is_some (find is_queued ws) ≡ true → sum_by steps_of (on_first is_queued (with_taken true) ws) + 1 ≡ sum_by steps_of ws)
    → sum_by steps_of (cond (not b) (with_taken true w ∷ ws) (w ∷ on_first is_queued (with_taken true) ws)) + 1 ≡ sum_by steps_of (w ∷ ws)
took_by true w ws steps h later =
    let one = sum_by-cons steps_of w (on_first is_queued (with_taken true) ws) in
    let all = sum_by-cons steps_of w ws in
    omega (arith, later h, one, all)
took_by false w ws steps h later =
    let one = sum_by-cons steps_of (with_taken true w) ws in
    let all = sum_by-cons steps_of w ws in
    omega (arith, steps, one, all)

took : (ws : List Waiting) → is_some (find is_queued ws) ≡ true → sum_by steps_of (on_first is_queued (with_taken true) ws) + 1 ≡ sum_by steps_of ws
took [] h = absurd (cc)
took (w ∷ ws) h = took_by w.taken w ws refl h (took ws)

-- ---- a job is finished

steps_at : Option Waiting → ℕ
steps_at None = 0
steps_at (Some w) = steps_of w

removed_by : (b : Bool) (w : Waiting) (o : Option Waiting) (ws xs : List Waiting) → sum_by steps_of xs + steps_at o ≡ sum_by steps_of ws
    → sum_by steps_of (cond b ws (w ∷ xs)) + steps_at (cond b (Some w) o) ≡ sum_by steps_of (w ∷ ws)
unfolding steps_at
removed_by true w o ws xs h = let all = sum_by-cons steps_of w ws in omega (arith, all)
removed_by false w o ws xs h = let one = sum_by-cons steps_of w xs in let all = sum_by-cons steps_of w ws in omega (arith, h, one, all)

removed : (p : Waiting → Bool) (ws : List Waiting) → sum_by steps_of (without_first_job p ws) + steps_at (find p ws) ≡ sum_by steps_of ws
unfolding steps_at
removed p [] = refl
removed p (w ∷ ws) = removed_by (p w) w (find p ws) ws (without_first_job p ws) (removed p ws)

two_at : (o : Option Waiting) → is_some o ≡ true → 2 ≤ steps_at o
unfolding steps_at
two_at None h = absurd (cc)
two_at (Some w) h = two_or_more w.taken

one_reported : (ticket : ℕ) (code : ℤ) (r : Option Request) → length (told_to ticket code r) ≤ 1
one_reported ticket code None = omega arith
one_reported ticket code (Some r) = omega arith

one_by : (failed : Bool) (w : Waiting) (es : List OutboxEntry) → length es ≤ 1 → length (if failed then es else (Outcome w ∷ [])) ≤ 1
one_by true w es h = h
one_by false w es h = omega arith

one_left : (failed : Bool) (o : Option Waiting) → length (left_at failed o) ≤ 1
one_left failed None = omega arith
one_left failed (Some w) = one_by failed w (told_to w.ticket internal_error w.request) (one_reported w.ticket internal_error w.request)

finished : (s : State) (p : Waiting → Bool) (failed : Bool) → is_some (find p s.waiting) ≡ true
    → sum_by steps_of (without_first_job p s.waiting) + length (s.unsent ++ left_at failed (find p s.waiting)) < left s
finished s p failed h =
    let gone = removed p s.waiting in
    let two = two_at (find p s.waiting) h in
    let one = one_left failed (find p s.waiting) in
    omega (arith, gone, two, one, length-append s.unsent (left_at failed (find p s.waiting)))

-- ---- an entry is sent

sent : (es : List OutboxEntry) (ticket : ℕ) → first_ticket es ≡ Some ticket → length (rest es) + 1 ≡ length es
sent [] ticket h = absurd (cc)
sent (e ∷ es) ticket h = omega arith

-- ---- so each step leaves fewer

pub steps_few : StepsAreFew
unfolding step IsPossible
steps_few s (Opened uri label text encoding version) is h = absurd (cc (is))
steps_few s (Changed uri label edits version) is h = absurd (cc (is))
steps_few s (Closed uri) is h = absurd (cc (is))
steps_few s (Asked id uri ask links ticket) is h = absurd (cc (is))
steps_few s (Cancelled id found) is h = absurd (cc (is))
steps_few s (Said body) is h = absurd (cc (is))
steps_few s (Took worker) is h = omega (arith, took s.waiting h)
steps_few s (Returned ticket) is h = absurd (cc (is))
steps_few s (Finished ticket failed) is h = finished s (is_held ticket) failed h
steps_few s (Sent ticket) is h = omega (arith, sent s.unsent ticket h)
