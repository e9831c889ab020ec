-- A run that goes on, step by step.
use Rattle.std.proofs.Common.{◌≡◌, ℕ, ◌+◌, ◌<◌, ◌≤◌, List, [], ◌∷◌, ◌++◌, length, get_or, drop, Option, Some, None, refl, sym, ap, subst, ◌∙◌, append_assoc, append-nil, add-one, drop-cons}
use Rattle.std.specs.Prelude.{Bool, true, false, Vec, find, is_some, slice_get, if◌then◌else◌}
use Rattle.std.proofs.Math.ListN.{get_or-map}
use Rattle.std.proofs.lemmas.List.{drop_all}
use Rattle.std.proofs.lemmas.Option.{get_or_from_slice_get, slice_get-get_or}
use Rattle.std.specs.declared.alloc.Global.{Global}
use Rattle.ls_frame.specs.declared.fault.FrameFault.{FrameFault}
use Rattle.ls_frame.specs.Feeds.{contents_of}
use Rattle.ls_steps.specs.declared.steps.Step.{Step}
use Rattle.ls_steps.specs.declared.steps.Step.TheVariants as step
use Rattle.ls_rpc.specs.Message.{message_of}
use Rattle.ls_answers.specs.declared.answer.Answer.{Answer}
use Rattle.ls_machine.specs.declared.event.DeskFault.{DeskFault}
use Rattle.ls_machine.specs.declared.state.OutboxEntry.{OutboxEntry}
use Rattle.ls_machine.specs.declared.state.Waiting.{Waiting}
use Rattle.ls_desk.specs.Faults.{take_fault}
use Rattle.ls_machine.specs.Machine.{is_queued}
use Rattle.ls_session.specs.Session.{turn_of}
use Rattle.ls_session.specs.declared.turn.Status.TheVariants.{BadFrame}
use Rattle.ls_session.specs.declared.turn.Turn.{Turn}
use Rattle.ls_session.specs.declared.turn.Turn.TheVariants.{Nothing, Event, Exit}
use Rattle.ls_steps.specs.Runs.{Act, Going, Held, IsSent, Runs, Steps, acts_of, begun, break_off, bytes_in, desk_of, finish_job, hear, heard, is_filled, on_turn, runs, send, state_at, take_job, takes, took}

-- what is left of the acts ends a run of all of them, with these bytes before it
abbrev pub Continues : Going → List Act → List ℕ → List Act → Type 0
Continues talk left bytes all = (h : Going) (later : List ℕ) → Runs true talk left h later → Runs true begun all h (bytes ++ later)

continue_start : (all : List Act) → Continues begun all [] all
continue_start all h later r = r

continue_act : (talk next : Going) (act : Act) (left all : List Act) (bytes now : List ℕ) → Steps true talk act next now → Continues talk (act ∷ left) bytes all → Continues next left (bytes ++ now) all
unfolding Runs
continue_act talk next act left all bytes now s k h later r =
    let P : List ℕ → Type 0 = λ l. Runs true begun all h l in
    subst P (sym (append_assoc bytes now later)) (k h (now ++ later) (next, now, later, (s, r, refl)))

-- an act that writes nothing
continue_silent : (talk next : Going) (act : Act) (left all : List Act) (bytes : List ℕ) → Steps true talk act next [] → Continues talk (act ∷ left) bytes all → Continues next left bytes all
continue_silent talk next act left all bytes s k =
    let P : List ℕ → Type 0 = λ l. Continues next left l all in
    subst P (append-nil bytes) (continue_act talk next act left all bytes [] s k)

continue_end : (talk : Going) (all : List Act) (bytes : List ℕ) → Continues talk [] bytes all → Runs true begun all talk bytes
unfolding Runs
continue_end talk all bytes k =
    let P : List ℕ → Type 0 = λ l. Runs true begun all talk l in
    subst P (append-nil bytes) (k talk [] (refl, refl))

-- ---- the steps that are left

next_step : (steps : List Step) (i : ℕ) (s : Step) → i < length steps → s ≡ get_or steps i s → drop i steps ≡ s ∷ drop (i + 1) steps
next_step steps i s h e =
    let P : Step → Type 0 = λ x. drop i steps ≡ x ∷ drop (i + 1) steps in
    subst P (sym e) (rw add-one (drop-cons steps i s h))

-- the acts that are left once a step has been taken up
acts_next : (bodies : List (List ℕ)) (fault : Option FrameFault) (steps : List Step) (i : ℕ) (s : Step) → i < length steps → s ≡ get_or steps i s
    → acts_of bodies fault (drop i steps) ≡ acts_of bodies fault (s ∷ drop (i + 1) steps)
acts_next bodies fault steps i s h e = ap (acts_of bodies fault) (next_step steps i s h e)

-- ---- the bodies that are left

next_body : (contents : List (List ℕ)) (i : ℕ) (body : List ℕ) → i < length contents → body ≡ get_or contents i body → drop i contents ≡ body ∷ drop (i + 1) contents
next_body contents i body h e =
    let P : List ℕ → Type 0 = λ x. drop i contents ≡ x ∷ drop (i + 1) contents in
    subst P (sym e) (rw add-one (drop-cons contents i body h))

-- a Message that hears a body
pub hears : (contents : List (List ℕ)) (fault : Option FrameFault) (rest : List Step) (i : ℕ) (body : List ℕ) → i < length contents → body ≡ get_or contents i body
    → acts_of (drop i contents) fault (step.Message ∷ rest) ≡ hear body ∷ acts_of (drop (i + 1) contents) fault rest
hears contents fault rest i body h e =
    let P : List (List ℕ) → Type 0 = λ l. acts_of l fault (step.Message ∷ rest) ≡ hear body ∷ acts_of (drop (i + 1) contents) fault rest in
    subst P (sym (next_body contents i body h e)) refl

drop_all_holds : (contents : List (List ℕ)) (i : ℕ) → length contents ≤ i → drop i contents ≡ []
drop_all_holds contents i h = drop_all i contents h

-- one with no body left
breaks : (contents : List (List ℕ)) (fault : FrameFault) (rest : List Step) (i : ℕ) → length contents ≤ i
    → acts_of (drop i contents) (Some fault) (step.Message ∷ rest) ≡ break_off fault ∷ acts_of (drop i contents) (Some fault) rest
breaks contents fault rest i h =
    let P : List (List ℕ) → Type 0 = λ l. acts_of l (Some fault) (step.Message ∷ rest) ≡ break_off fault ∷ acts_of l (Some fault) rest in
    subst P (sym (drop_all_holds contents i h)) refl

passes : (contents : List (List ℕ)) (rest : List Step) (i : ℕ) → length contents ≤ i
    → acts_of (drop i contents) None (step.Message ∷ rest) ≡ acts_of (drop i contents) None rest
passes contents rest i h =
    let P : List (List ℕ) → Type 0 = λ l. acts_of l None (step.Message ∷ rest) ≡ acts_of l None rest in
    subst P (sym (drop_all_holds contents i h)) refl

-- ---- a run that has come to a step

-- what is left goes on from here: so many bodies have been heard, and so many steps taken up
abbrev pub GoesOn : List (List ℕ) → Option FrameFault → List Step → Going → List ℕ → ℕ → ℕ → Type 0
GoesOn contents fault steps talk bytes read i = Continues talk (acts_of (drop read contents) fault (drop i steps)) bytes (acts_of contents fault steps)

pub goes_as : (contents : List (List ℕ)) (fault : Option FrameFault) (steps : List Step) (talk seen : Going) (bytes written : List ℕ) (read count i : ℕ)
    → seen ≡ talk → written ≡ bytes → count ≡ read → GoesOn contents fault steps talk bytes read i → GoesOn contents fault steps seen written count i
goes_as contents fault steps talk seen bytes written read count i t b r g =
    let P : Going → Type 0 = λ x. GoesOn contents fault steps x written count i in
    let Q : List ℕ → Type 0 = λ l. GoesOn contents fault steps talk l count i in
    let R : ℕ → Type 0 = λ n. GoesOn contents fault steps talk bytes n i in
    subst P (sym t) (subst Q (sym b) (subst R (sym r) g))

-- the step at a place, whatever would stand for one past the end
item : (steps : List Step) (i : ℕ) (other s : Step) → i < length steps → get_or steps i other ≡ s → s ≡ get_or steps i s
item steps i other s h e = sym (get_or_from_slice_get steps i s s (slice_get-get_or steps i other h ∙ ap Some e))

-- a step that does an act
act_on : (contents : List (List ℕ)) (fault : Option FrameFault) (steps : List Step) (s : Step) (act : Act) (i read later : ℕ) (talk next : Going) (bytes now : List ℕ)
    → i < length steps → get_or steps i step.Message ≡ s
    → acts_of (drop read contents) fault (s ∷ drop (i + 1) steps) ≡ act ∷ acts_of (drop later contents) fault (drop (i + 1) steps)
    → Steps true talk act next now → GoesOn contents fault steps talk bytes read i → GoesOn contents fault steps next (bytes ++ now) later (i + 1)
act_on contents fault steps s act i read later talk next bytes now within is does did g =
    let P : List Act → Type 0 = λ acts. Continues talk acts bytes (acts_of contents fault steps) in
    continue_act talk next act (acts_of (drop later contents) fault (drop (i + 1) steps)) (acts_of contents fault steps) bytes now did
    (subst P (acts_next (drop read contents) fault steps i s within (item steps i step.Message s within is) ∙ does) g)

-- an act that writes nothing
silent_on : (contents : List (List ℕ)) (fault : Option FrameFault) (steps : List Step) (next : Going) (bytes : List ℕ) (later i : ℕ)
    → GoesOn contents fault steps next (bytes ++ []) later i → GoesOn contents fault steps next bytes later i
silent_on contents fault steps next bytes later i g =
    let P : List ℕ → Type 0 = λ l. GoesOn contents fault steps next l later i in subst P (append-nil bytes) g

pub heard_on : (contents : List (List ℕ)) (fault : Option FrameFault) (steps : List Step) (i read : ℕ) (talk next : Going) (bytes body : List ℕ)
    → i < length steps → get_or steps i step.Message ≡ step.Message → read < length contents → body ≡ get_or contents read body
    → Steps true talk (hear body) next [] → GoesOn contents fault steps talk bytes read i → GoesOn contents fault steps next bytes (read + 1) (i + 1)
heard_on contents fault steps i read talk next bytes body within is there body_is did g =
    silent_on contents fault steps next bytes (read + 1) (i + 1)
    (act_on contents fault steps step.Message (hear body) i read (read + 1) talk next bytes [] within is (hears contents fault (drop (i + 1) steps) read body there body_is) did g)

breaks_as : (contents : List (List ℕ)) (o : Option FrameFault) (fault : FrameFault) (rest : List Step) (i : ℕ) → length contents ≤ i → o ≡ Some fault
    → acts_of (drop i contents) o (step.Message ∷ rest) ≡ break_off fault ∷ acts_of (drop i contents) o rest
breaks_as contents o fault rest i h e =
    let P : Option FrameFault → Type 0 = λ x. acts_of (drop i contents) x (step.Message ∷ rest) ≡ break_off fault ∷ acts_of (drop i contents) x rest in
    subst P (sym e) (breaks contents fault rest i h)

pub broken_on : (contents : List (List ℕ)) (o : Option FrameFault) (fault : FrameFault) (steps : List Step) (i read : ℕ) (talk next : Going) (bytes : List ℕ)
    → i < length steps → get_or steps i step.Message ≡ step.Message → length contents ≤ read → o ≡ Some fault
    → Steps true talk (break_off fault) next [] → GoesOn contents o steps talk bytes read i → GoesOn contents o steps next bytes read (i + 1)
broken_on contents o fault steps i read talk next bytes within is past e did g =
    silent_on contents o steps next bytes read (i + 1)
    (act_on contents o steps step.Message (break_off fault) i read read talk next bytes [] within is (breaks_as contents o fault (drop (i + 1) steps) read past e) did g)

passes_as : (contents : List (List ℕ)) (o : Option FrameFault) (rest : List Step) (i : ℕ) → length contents ≤ i → o ≡ None
    → acts_of (drop i contents) o (step.Message ∷ rest) ≡ acts_of (drop i contents) o rest
passes_as contents o rest i h e =
    let P : Option FrameFault → Type 0 = λ x. acts_of (drop i contents) x (step.Message ∷ rest) ≡ acts_of (drop i contents) x rest in
    subst P (sym e) (passes contents rest i h)

pub passed_on : (contents : List (List ℕ)) (o : Option FrameFault) (steps : List Step) (i read : ℕ) (talk : Going) (bytes : List ℕ)
    → i < length steps → get_or steps i step.Message ≡ step.Message → length contents ≤ read → o ≡ None
    → GoesOn contents o steps talk bytes read i → GoesOn contents o steps talk bytes read (i + 1)
passed_on contents o steps i read talk bytes within is past e g =
    let P : List Act → Type 0 = λ acts. Continues talk acts bytes (acts_of contents o steps) in
    subst P (acts_next (drop read contents) o steps i step.Message within (sym is) ∙ passes_as contents o (drop (i + 1) steps) read past e) g

pub taken_on : (contents : List (List ℕ)) (fault : Option FrameFault) (steps : List Step) (i read : ℕ) (talk next : Going) (bytes : List ℕ)
    → i < length steps → get_or steps i step.Message ≡ step.Take → Steps true talk take_job next []
    → GoesOn contents fault steps talk bytes read i → GoesOn contents fault steps next bytes read (i + 1)
taken_on contents fault steps i read talk next bytes within is did g =
    silent_on contents fault steps next bytes read (i + 1) (act_on contents fault steps step.Take take_job i read read talk next bytes [] within is refl did g)

pub finished_on : (contents : List (List ℕ)) (fault : Option FrameFault) (steps : List Step) (i read at : ℕ) (talk next : Going) (bytes : List ℕ)
    → i < length steps → get_or steps i step.Message ≡ step.Finish at → Steps true talk (finish_job at) next []
    → GoesOn contents fault steps talk bytes read i → GoesOn contents fault steps next bytes read (i + 1)
finished_on contents fault steps i read at talk next bytes within is did g =
    silent_on contents fault steps next bytes read (i + 1)
    (act_on contents fault steps (step.Finish at) (finish_job at) i read read talk next bytes [] within is refl did g)

pub sent_on : (contents : List (List ℕ)) (fault : Option FrameFault) (steps : List Step) (i read : ℕ) (talk next : Going) (bytes : List ℕ) (frame given : Option (Vec ℕ Global))
    → i < length steps → get_or steps i step.Message ≡ step.Send → frame ≡ given → Steps true talk send next (bytes_in frame)
    → GoesOn contents fault steps talk bytes read i → GoesOn contents fault steps next (bytes ++ bytes_in given) read (i + 1)
sent_on contents fault steps i read talk next bytes frame given within is e did g =
    let P : Option (Vec ℕ Global) → Type 0 = λ o. Steps true talk send next (bytes_in o) in
    act_on contents fault steps step.Send send i read read talk next bytes (bytes_in given) within is refl (subst P e did) g

pub unsent_on : (contents : List (List ℕ)) (fault : Option FrameFault) (steps : List Step) (i read : ℕ) (talk next : Going) (bytes : List ℕ) (frame : Option (Vec ℕ Global))
    → i < length steps → get_or steps i step.Message ≡ step.Send → frame ≡ None → Steps true talk send next (bytes_in frame)
    → GoesOn contents fault steps talk bytes read i → GoesOn contents fault steps next bytes read (i + 1)
unsent_on contents fault steps i read talk next bytes frame within is e did g =
    silent_on contents fault steps next bytes read (i + 1) (sent_on contents fault steps i read talk next bytes frame None within is e did g)

-- no step is left
pub ends_on : (contents : List (List ℕ)) (fault : Option FrameFault) (steps : List Step) (talk : Going) (bytes : List ℕ) (read i : ℕ)
    → length steps ≤ i → GoesOn contents fault steps talk bytes read i → Runs true begun (acts_of contents fault steps) talk bytes
ends_on contents fault steps talk bytes read i past g =
    let P : List Step → Type 0 = λ left. Continues talk (acts_of (drop read contents) fault left) bytes (acts_of contents fault steps) in
    continue_end talk (acts_of contents fault steps) bytes (subst P (drop_all i steps past) g)

-- the body at a place
pub body_at : (bodies : List (Vec ℕ Global)) (i : ℕ) (v : Vec ℕ Global) (body : List ℕ) → v ≡ get_or bodies i v → body ≡ v.items → body ≡ get_or (contents_of bodies) i body
body_at bodies i v body e f =
    let P : List ℕ → Type 0 = λ b. b ≡ get_or (contents_of bodies) i b in
    let items : Vec ℕ Global → List ℕ = λ x. x.items in
    subst P (sym f) (ap items e ∙ sym (get_or-map items bodies i v))

-- ---- the most events stay the same

if_most : (b : Bool) (g h : Going) → h.max_events ≡ g.max_events → (if b then g else h).max_events ≡ g.max_events
if_most true g h e = refl
if_most false g h e = e

turn_most : (g : Going) (turn : Turn) → (on_turn g turn).max_events ≡ g.max_events
turn_most g Nothing = refl
turn_most g (Event e) = refl
turn_most g (Exit status) = refl

took_most : (g : Going) (w : Waiting) (fault : Option DeskFault) → (took g w fault).max_events ≡ g.max_events
took_most g w None = refl
took_most g w (Some fault) = refl

takes_most : (g : Going) (w : Option Waiting) → (takes g w).max_events ≡ g.max_events
takes_most g None = refl
takes_most g (Some w) = took_most g w (take_fault (desk_of g))

runs_most : (g : Going) (at : ℕ) (answer : Option Answer) (job : Option Held) → (runs g at answer job).max_events ≡ g.max_events
runs_most g at answer None = refl
runs_most g at answer (Some job) = refl

sent_most : (g h : Going) (es : List OutboxEntry) (bytes : List ℕ) → IsSent g es h bytes → h.max_events ≡ g.max_events
sent_most g h [] bytes s = ap (λ (x : Going). x.max_events) s.0
sent_most g h (e ∷ es) bytes s = ap (λ (x : Going). x.max_events) s.0

step_most : (g h : Going) (act : Act) (bytes : List ℕ) → Steps true g act h bytes → h.max_events ≡ g.max_events
unfolding Steps
step_most g h (hear body) bytes s = ap (λ (x : Going). x.max_events) s.0 ∙ if_most (is_some g.status) g (heard g body) (turn_most (record g { stage = (turn_of g.stage (message_of body)).1 }) (turn_of g.stage (message_of body)).0)
step_most g h (break_off fault) bytes s = ap (λ (x : Going). x.max_events) s.0 ∙ if_most (is_some g.status) g (record g { status = Some (BadFrame fault) }) refl
step_most g h take_job bytes s = ap (λ (x : Going). x.max_events) s.0 ∙ if_most (is_filled g.status) g (takes g (find is_queued (state_at g).waiting)) (takes_most g (find is_queued (state_at g).waiting))
step_most g h (finish_job at) bytes s =
    ap (λ (x : Going). x.max_events) s.2 ∙ if_most (is_filled g.status) g (runs g at s.0 (slice_get g.held at)) (runs_most g at s.0 (slice_get g.held at))
step_most g h send bytes s = sent_most g h (state_at g).unsent bytes s

pub run_most : (g h : Going) (acts : List Act) (bytes : List ℕ) → Runs true g acts h bytes → h.max_events ≡ g.max_events
unfolding Runs
run_most g h [] bytes r = ap (λ (x : Going). x.max_events) r.0
run_most g h (act ∷ acts) bytes r = run_most r.0 h acts r.2 r.3.1 ∙ step_most g r.0 act r.1 r.3.0
