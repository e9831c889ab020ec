-- What a run by acts writes, and what is said on messages, is one thing where no memory is refused in a job.
use Rattle.std.proofs.Common.{◌≡◌, inl, ℕ, zero, suc, ◌++◌, Bool, true, false, List, [], ◌∷◌, Option, Some, None, refl, sym, ap, subst, ◌∙◌}
use Rattle.std.specs.Prelude.{◌+◌, find, is_none, is_some, length, not, slice_get, remove, option_map}
use Rattle.std.proofs.lemmas.Option.{same_Some}
use Rattle.ls_answers.specs.Told.{Told}
use Rattle.ls_answers.specs.declared.answer.Answer.{Answer}
use Rattle.ls_answers.proofs.Documents.{one_document_answer}
use Rattle.ls_machine.specs.declared.event.Out.{Out}
use Rattle.ls_machine.specs.declared.event.DeskFault.{DeskFault}
use Rattle.ls_machine.specs.declared.event.DeskFault.TheVariants as fault
use Rattle.ls_machine.specs.declared.state.OutboxEntry.{OutboxEntry}
use Rattle.ls_machine.specs.declared.state.OutboxEntry.TheVariants.{Body, Failure, Outcome}
use Rattle.ls_machine.specs.declared.state.Request.{Request}
use Rattle.ls_machine.specs.declared.state.Waiting.{Waiting}
use Rattle.ls_desk.specs.Stands.{IsOutFor, Seen, out_of, state_of}
use Rattle.ls_machine.specs.Machine.{is_held, left_at}
use Rattle.ls_answers.specs.Answers.{IsAnswer}
use Rattle.ls_machine.specs.Same.{is_for}
use Rattle.ls_desk.specs.Faults.{finish_fault, full_fault, or_else}
use Rattle.ls_frame.specs.Frames.{frame_of}
use Rattle.ls_bodies.specs.Bodies.{reply_body, findings_body}
use Rattle.ls_bodies.proofs.WithoutCert.{same_findings, same_reply}
use Rattle.ls_session.specs.Bodies.{body_of}
use Rattle.ls_steps.specs.Runs.{Act, Going, Held, IsSent, Runs, Steps, break_off, desk_of, finish_job, finished_by, finishes, hear, leaving, ran, runs, send, state_at, take_job, unless_full}
use Rattle.ls_steps.specs.Plain.{Replies, RunsUntil, Says, Serves, Works, has_run_all, has_sent_all, job_acts}

-- ---- jobs

finished_alike : (d : Seen) (job : Held) (a b : Answer) (f : Option DeskFault) → finished_by d (ran job (Some a)) f ≡ finished_by d (ran job (Some b)) f
finished_alike d job a b None = refl
finished_alike d job a b (Some fault.NotOpen) = refl
finished_alike d job a b (Some fault.AlreadyOpen) = refl
finished_alike d job a b (Some fault.TooManyDocuments) = refl
finished_alike d job a b (Some fault.TooManyWaiting) = refl
finished_alike d job a b (Some fault.IdInUse) = refl
finished_alike d job a b (Some fault.TooLarge) = refl
finished_alike d job a b (Some fault.UnknownTicket) = refl
finished_alike d job a b (Some fault.OtherText) = refl
finished_alike d job a b (Some fault.SessionFull) = refl
finished_alike d job a b (Some fault.Memory) = refl

is_for_alike : (w : Option Waiting) (job : Held) (a b : Answer) → is_for w (ran job (Some a)) ≡ is_for w (ran job (Some b))
is_for_alike None job a b = refl
is_for_alike (Some w) job a b = refl

fault_alike : (d : Seen) (job : Held) (a b : Answer) → finish_fault d (ran job (Some a)) ≡ finish_fault d (ran job (Some b))
fault_alike d job a b =
    let w = find (is_held job.ticket) (state_of d).waiting in
    ap (λ x. or_else (is_none w) fault.UnknownTicket (or_else (not x) fault.OtherText (full_fault d (1 + length (left_at false w))))) (is_for_alike w job a b)

-- What a job answers doesn't change what the machine does, but that memory was refused or not.
finishes_alike : (d : Seen) (job : Held) (a b : Answer) → finishes d (ran job (Some a)) ≡ finishes d (ran job (Some b))
finishes_alike d job a b = ap (finished_by d (ran job (Some a))) (fault_alike d job a b) ∙ finished_alike d job a b (finish_fault d (ran job (Some b)))

runs_alike : (g : Going) (k : ℕ) (a b : Option Answer) (o : Option Held) → is_some a ≡ true → is_some b ≡ true → runs g k a o ≡ runs g k b o
runs_alike g k a b None p q = refl
runs_alike g k None b (Some job) p q = absurd (cc)
runs_alike g k (Some a) None (Some job) p q = absurd (cc)
runs_alike g k (Some a) (Some b) (Some job) p q =
    ap (leaving (record g { held = remove g.held k })) (finishes_alike (desk_of g) job a b)

-- ---- what leaves

abbrev pub body_for : Waiting → Option Request → Answer → List ℕ
body_for w None a = findings_body w.uri w.label a
body_for w (Some r) a = reply_body r.id w.uri w.label r.links a

told_body : (w : Waiting) (r : Option Request) (done : Told) (a : Answer) → done.answer ≡ Some a → body_of (out_of w r done) ≡ Some (body_for w r a)
unfolding body_of
told_body w None done a e = ap (option_map (findings_body w.uri w.label)) e
told_body w (Some r) done a e = ap (option_map (reply_body r.id w.uri w.label r.links)) e

pub body_told : (w : Waiting) (out : Out) (done : Told) (a : Answer) → out ≡ out_of w w.request done → done.answer ≡ Some a → body_of out ≡ Some (body_for w w.request a)
body_told w out done a o e = ap body_of o ∙ told_body w w.request done a e

one_told : (w : Waiting) (r : Option Request) (a b : Answer) → IsAnswer w.encoding w.text w.ask a → IsAnswer w.encoding w.text w.ask b → body_for w r a ≡ body_for w r b
one_told w None a b p q = same_findings w.uri w.label a b (one_document_answer w.encoding w.text w.ask a b p q)
one_told w (Some r) a b p q = same_reply r.id w.uri w.label r.links a b (one_document_answer w.encoding w.text w.ask a b p q)

one_body : (e : OutboxEntry) (o p : Out) (a b : List ℕ) → IsOutFor e o → IsOutFor e p → body_of o ≡ Some a → body_of p ≡ Some b → a ≡ b
unfolding IsOutFor
one_body (Body body) o p a b x y s t = same_Some a b (sym s ∙ (ap body_of (x ∙ sym y) ∙ t))
one_body (Failure ticket id code) o p a b x y s t = same_Some a b (sym s ∙ (ap body_of (x ∙ sym y) ∙ t))
one_body (Outcome w) o p a b x y s t =
    same_Some a b
    (sym s
    ∙ (body_told w o x.0 x.2.right.0 x.1 x.2.right.1
    ∙ (ap Some (one_told w w.request x.2.right.0 y.2.right.0 x.2.right.2 y.2.right.2)
    ∙ (sym (body_told w p y.0 y.2.right.0 y.1 y.2.right.1) ∙ t))))

one_sent : (g h k : Going) (es : List OutboxEntry) (a b : List ℕ) → IsSent g es h a → IsSent g es k b → (h ≡ k) × (a ≡ b)
one_sent g h k [] a b p q = (p.0 ∙ sym q.0, p.1 ∙ sym q.1)
one_sent g h k (e ∷ es) a b p q =
    let x = p.2 in
    let y = q.2 in
    (p.0 ∙ sym q.0, x.4 ∙ (ap frame_of (one_body e x.0 y.0 x.1 y.1 x.2 y.2 x.3 y.3) ∙ sym y.4))

-- ---- runs

one_step : (g h k : Going) (act : Act) (a b : List ℕ) → Steps false g act h a → Steps false g act k b → (h ≡ k) × (a ≡ b)
unfolding Steps
one_step g h k (hear body) a b p q = (p.0 ∙ sym q.0, p.1 ∙ sym q.1)
one_step g h k (break_off fault) a b p q = (p.0 ∙ sym q.0, p.1 ∙ sym q.1)
one_step g h k take_job a b p q = (p.0 ∙ sym q.0, p.1 ∙ sym q.1)
one_step g h k (finish_job at) a b p q =
    (p.2 ∙ (ap (unless_full g.status g) (runs_alike g at p.0 q.0 (slice_get g.held at) (p.1 (inl refl)) (q.1 (inl refl))) ∙ sym q.2), p.3 ∙ sym q.3)
one_step g h k send a b p q = one_sent g h k (state_at g).unsent a b p q

pub one_run : (g h k : Going) (acts : List Act) (a b : List ℕ) → Runs false g acts h a → Runs false g acts k b → (h ≡ k) × (a ≡ b)
unfolding Runs
one_run g h k [] a b p q = (p.0 ∙ sym q.0, p.1 ∙ sym q.1)
one_run g h k (act ∷ acts) a b p q =
    let first = one_step g p.0 q.0 act p.1 q.1 p.3.0 q.3.0 in
    let rest = one_run q.0 h k acts p.2 q.2 (subst (λ t. Runs false t acts h p.2) first.0 p.3.1) q.3.1 in
    (rest.0, p.3.2 ∙ ((λ i. first.1 i ++ rest.1 i) ∙ sym q.3.2))

not_both : {A : Type 0} (b : Bool) → b ≡ true → b ≡ false → A
not_both b p q = absurd (cc)

one_until : (is_done : Going → Bool) (acts : List Act) (n m : ℕ) (g h k : Going) (a b : List ℕ)
    → RunsUntil false is_done acts n g h a → RunsUntil false is_done acts m g k b → (h ≡ k) × (a ≡ b)
unfolding RunsUntil
one_until is_done acts zero zero g h k a b p q = (p.1 ∙ sym q.1, p.2 ∙ sym q.2)
one_until is_done acts zero (suc m) g h k a b p q = not_both (is_done g) p.0 q.0
one_until is_done acts (suc n) zero g h k a b p q = not_both (is_done g) q.0 p.0
one_until is_done acts (suc n) (suc m) g h k a b p q =
    let x = p.1 in
    let y = q.1 in
    let first = one_run g x.0 y.0 acts x.1 y.1 x.3.0 y.3.0 in
    let rest = one_until is_done acts n m y.0 h k x.2 y.2 (subst (λ t. RunsUntil false is_done acts n t h x.2) first.0 x.3.1) y.3.1 in
    (rest.0, x.3.2 ∙ ((λ i. first.1 i ++ rest.1 i) ∙ sym y.3.2))

-- ---- messages

one_message : (g h k : Going) (body bytes other : List ℕ) → Serves false g body h bytes → Serves false g body k other → (h ≡ k) × (bytes ≡ other)
one_message g h k body bytes other p q =
    let heard = one_step g p.hears.heard q.hears.heard (hear body) [] [] p.hears.hears q.hears.hears in
    let worked = one_until has_run_all job_acts p.hears.jobs q.hears.jobs q.hears.heard p.worked q.worked [] [] (subst (λ t. Works false p.hears.jobs t p.worked) heard.0 p.hears.works) q.hears.works in
    one_until has_sent_all (send ∷ []) p.replies q.replies q.worked h k bytes other (subst (λ t. Replies false p.replies t h bytes) worked.0 p.sends) q.sends

pub one_session : (g h k : Going) (bodies : List (List ℕ)) (bytes other : List ℕ) → Says false g bodies h bytes → Says false g bodies k other → (h ≡ k) × (bytes ≡ other)
unfolding Says
one_session g h k [] bytes other p q = (p.0 ∙ sym q.0, p.1 ∙ sym q.1)
one_session g h k (body ∷ bodies) bytes other p q =
    let first = one_message g p.0 q.0 body p.1 q.1 p.3.0 q.3.0 in
    let rest = one_session q.0 h k bodies p.2 q.2 (subst (λ t. Says false t bodies h p.2) first.0 p.3.1) q.3.1 in
    (rest.0, p.3.2 ∙ ((λ i. first.1 i ++ rest.1 i) ∙ sym q.3.2))
