-- No job with a ticket is held.
use Rattle.std.proofs.Common.{◌≡◌, ◌∙◌, ◌<◌, ◌≤◌, ◌+◌, ◌==◌, ◌&&◌, ◌||◌, ℕ, Bool, true, false, cond, List, [], ◌∷◌, ◌++◌, refl, sym, ap, subst, arith, inl, inr}
use Rattle.std.specs.Prelude.{IfNone, Option, Some, None, find, is_none, unwrap_or}
use Rattle.std.proofs.lemmas.Bool.Decides.{nat_tests}
use Rattle.ls_answers.specs.Told.{Told}
use Rattle.ls_machine.specs.Counts.{count_one, total}
use Rattle.ls_machine.specs.Journal as journal
use Rattle.ls_machine.specs.Journal.{replay_from}
use Rattle.ls_machine.specs.Laws.{WereCurrentInOrder}
use Rattle.ls_machine.specs.Machine.{is_held, step, waits, without_first_job}
use Rattle.ls_machine.specs.declared.base.Counts.{Counts}
use Rattle.ls_machine.specs.declared.event.DeskFault.{DeskFault}
use Rattle.ls_machine.specs.declared.event.DeskFault.TheVariants.{Memory, OtherText, SessionFull, UnknownTicket}
use Rattle.ls_machine.specs.declared.event.Event.{Event}
use Rattle.ls_machine.specs.declared.event.Event.TheVariants.{Finished}
use Rattle.ls_machine.specs.declared.event.Kept.{Kept}
use Rattle.ls_machine.specs.declared.state.State.{State}
use Rattle.ls_machine.specs.declared.state.Waiting.{Waiting}
use Rattle.ls_machine.proofs.Ordered.{ordered}
use Rattle.ls_desk.specs.Faults.{finish_fault, or_else}
use Rattle.ls_history.specs.History.{IsLegalHistory, IsLegalHistoryFrom, IsRoomy, MayHappen, replay_entries}
use Rattle.ls_history.specs.Places.{Place, beginning, happens}
use Rattle.ls_history.specs.Told.{events_of}
use Rattle.ls_history.specs.declared.history_entry.HistoryEntry.{HistoryEntry}
use Rattle.ls_history.specs.declared.history_entry.HistoryEntry.TheVariants.{Worked}
use Rattle.ls_history.proofs.Histories.{legal_before, replay_more}
use Rattle.ls_history.proofs.Journals.{histories_journals}
use Rattle.ls_workers.specs.Jobs.{IsFinishedAt, IsNotHeld, IsRefusedAt, led_by}

-- ---- among the jobs that wait

none_before : (b : Bool) (w : Waiting) (o : Option Waiting) → b ≡ false → o ≡ None → cond b (Some w) o ≡ None
none_before b w o fails none = (λ i. cond (fails i) (Some w) o) ∙ none

first_false : (a b : Bool) → (a || b) ≡ false → a ≡ false
first_false true b e = absurd (cc)
first_false false b e = refl

second_false : (a b : Bool) → (a || b) ≡ false → b ≡ false
second_false true b e = absurd (cc)
second_false false b e = e

both_false : (a b : Bool) → a ≡ false → (a && b) ≡ false
both_false true b e = absurd (cc)
both_false false b e = refl

both_true : (a b : Bool) → (a && b) ≡ true → a ≡ true
both_true true b e = refl
both_true false b e = absurd (cc)

-- a ticket that doesn't wait isn't held
pub unwanted : (ticket : ℕ) (ws : List Waiting) → waits ticket ws ≡ false → find (is_held ticket) ws ≡ None
unwanted ticket [] e = refl
unwanted ticket (w ∷ ws) e =
    none_before (is_held ticket w) w (find (is_held ticket) ws) (both_false (w.ticket == ticket) w.taken (first_false (w.ticket == ticket) (waits ticket ws) e))
    (unwanted ticket ws (second_false (w.ticket == ticket) (waits ticket ws) e))

apart : (a b : ℕ) → b < a → (a == b) ≡ false
apart a b h = grind (arith, nat_tests)

same : (a b : ℕ) → (a == b) ≡ true → a ≡ b
same a b e = grind (arith, nat_tests)

-- nor is one that is less than those that wait
below : (js : List Event) (low high ticket : ℕ) (ws : List Waiting) → ticket < low → WereCurrentInOrder js low ws high → find (is_held ticket) ws ≡ None
unfolding WereCurrentInOrder
below js low high ticket [] less rise = refl
below js low high ticket (w ∷ ws) less rise =
    let here : low ≤ w.ticket = rise.0 in
    none_before (is_held ticket w) w (find (is_held ticket) ws) (both_false (w.ticket == ticket) w.taken (apart w.ticket ticket (omega (arith, here, less))))
    (below js (w.ticket + 1) high ticket ws (omega (arith, here, less)) rise.3)

gone_by : (b : Bool) (ticket : ℕ) (w : Waiting) (ws : List Waiting) → is_held ticket w ≡ b → (is_held ticket w ≡ true → find (is_held ticket) ws ≡ None)
    → find (is_held ticket) (without_first_job (is_held ticket) ws) ≡ None → find (is_held ticket) (cond b ws (w ∷ without_first_job (is_held ticket) ws)) ≡ None
gone_by true ticket w ws is behind rest = behind is
gone_by false ticket w ws is behind rest = none_before (is_held ticket w) w (find (is_held ticket) (without_first_job (is_held ticket) ws)) is rest

-- the tickets rise, so where the first job with a ticket goes no other has it
gone : (js : List Event) (low high ticket : ℕ) (ws : List Waiting) → WereCurrentInOrder js low ws high → find (is_held ticket) (without_first_job (is_held ticket) ws) ≡ None
unfolding WereCurrentInOrder
gone js low high ticket [] rise = refl
gone js low high ticket (w ∷ ws) rise =
    gone_by (is_held ticket w) ticket w ws refl
    (λ e. let own : w.ticket ≡ ticket = same w.ticket ticket (both_true (w.ticket == ticket) w.taken e) in below js (w.ticket + 1) high ticket ws (omega (arith, own)) rise.3)
    (gone js (w.ticket + 1) high ticket ws rise.3)

-- ---- where a history has led

limit_is : (limit : Option ℕ) (n : ℕ) → 0 < n → n ≤ unwrap_or limit 0 → (most : ℕ) × (limit ≡ Some most)
limit_is None n some within = absurd (omega (arith, some, within))
limit_is (Some most) n some within = (most, refl)

one_more : (c : Counts) (ticket : ℕ) (failed : Bool) → 0 < total (count_one c (Finished ticket failed))
one_more c ticket failed = omega arith

last_may : (p : Place) (xs : List HistoryEntry) (h : HistoryEntry) → IsLegalHistoryFrom p (xs ++ h ∷ []) → MayHappen (replay_entries p xs) h
last_may p [] h legal = legal.0
last_may p (x ∷ xs) h legal = last_may (happens p x) xs h legal.1

finished_from : (p : Place) (js : List Event) (high ticket : ℕ) (failed : Bool) → WereCurrentInOrder js 1 p.state.waiting high → find (is_held ticket) (happens p (Worked (Finished ticket failed))).state.waiting ≡ None
unfolding step
finished_from p js high ticket failed rise = gone js 1 high ticket p.state.waiting rise

-- a job that has run is held no more
finished_gone : (ticket : ℕ) (failed : Bool) (before new : List HistoryEntry) → new ≡ before ++ Worked (Finished ticket failed) ∷ [] → IsLegalHistory new → IsNotHeld ticket new
finished_gone ticket failed before new is legal =
    let h = Worked (Finished ticket failed) in
    let p = led_by before in
    let all : IsLegalHistory (before ++ h ∷ []) = subst IsLegalHistory is legal in
    let may = last_may beginning before h all in
    let roomy : IsRoomy (happens p h) = may.1 in
    let some : 0 < total (count_one p.counts (Finished ticket failed)) = one_more p.counts ticket failed in
    let limit = limit_is p.limit (total (count_one p.counts (Finished ticket failed))) some (omega (arith, roomy)) in
    let run = histories_journals limit.0 before (legal_before beginning before (h ∷ []) all) limit.1 in
    let js = events_of before in
    let rise = (ordered limit.0 js run.legal).waiting in
    let Rises : State → Type 0 = λ s. WereCurrentInOrder js 1 s.waiting (journal.replay js).next_ticket in
    let led : led_by new ≡ happens p h = ap led_by is ∙ replay_more beginning before (h ∷ []) in
    subst (λ (q : Place). find (is_held ticket) q.state.waiting ≡ None) (sym led) (finished_from p js (journal.replay js).next_ticket ticket failed (subst Rises run.state_is rise))

pub finished_not_held : (done : Told) (kept : Kept) (old new : List HistoryEntry) → IsFinishedAt done kept old new → IsLegalHistory new → IsNotHeld done.ticket new
finished_not_held done kept old new finished legal = finished_gone done.ticket (is_none done.answer) finished.before new finished.ends legal

-- ---- where the desk doesn't know the ticket

is_none_so : {A : Type 0} (o : Option A) → is_none o ≡ true → o ≡ None
is_none_so None e = refl
is_none_so (Some x) e = absurd (cc)

full_is : (b : Bool) → or_else b SessionFull None ≡ Some UnknownTicket → ⊥
full_is true e = cc
full_is false e = cc

other_is : (a b : Bool) → or_else a OtherText (or_else b SessionFull None) ≡ Some UnknownTicket → ⊥
other_is true b e = cc
other_is false b e = full_is b e

unknown_is : (a b c : Bool) → or_else a UnknownTicket (or_else b OtherText (or_else c SessionFull None)) ≡ Some UnknownTicket → a ≡ true
unknown_is true b c e = refl
unknown_is false b c e = absurd (other_is b c e)

pub unknown_not_held : (done : Told) (log : List HistoryEntry) (fault : DeskFault) → IsRefusedAt (λ desk. finish_fault desk done) fault log → fault ≡ UnknownTicket → IsNotHeld done.ticket log
unfolding replay_from
unknown_not_held done log fault cause is =
    elim cause [ inl e ↦ is_none_so _ (unknown_is _ _ _ (e ∙ ap Some is)) | inr n ↦ absurd (let m : Memory ≡ UnknownTicket = sym n.1 ∙ is in cc (m)) ]

pub none_then : {A : Type 0} {P Q : Type 0} (o : Option A) → (P → Q) → IfNone o P → IfNone o Q
none_then None f p = f p
none_then (Some x) f p = tt
