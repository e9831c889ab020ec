-- What holds at a desk holds where its history has led.
use Rattle.std.proofs.Common.{◌≡◌, ◌⊎◌, ◌∙◌, ◌++◌, ◌∷◌, [], ℕ, List, true, Option, Some, None, length, inl, inr, refl, ap, sym, subst, append_assoc, arith}
use Rattle.std.proofs.lemmas.Bool.Decides.{nat_tests}
use mathlib.Core.List.{IsPrefix}
use Rattle.std.specs.Prelude.{IfNone, is_none}
use Rattle.ls_answers.specs.Told.{Told}
use Rattle.ls_answers.specs.declared.job.Job.{Job}
use Rattle.ls_machine.specs.Counts.{counted_with}
use Rattle.ls_machine.specs.Journal.{replay_from}
use Rattle.ls_machine.specs.declared.event.DeskFault.{DeskFault}
use Rattle.ls_machine.specs.declared.event.Event.TheVariants.{Finished, Returned, Took}
use Rattle.ls_machine.specs.declared.event.Kept.{Kept}
use Rattle.ls_desk.specs.Faults.{Accepts, IsFirstCause, Refuses, Takes, finish_fault, give_back_fault, kept_of, take_fault}
use Rattle.ls_desk.specs.Stands.{IsSound, Seen, state_of}
use Rattle.ls_desk.proofs.Grows.{outs_length}
use Rattle.ls_history.specs.declared.history_entry.HistoryEntry.{HistoryEntry}
use Rattle.ls_history.specs.declared.history_entry.HistoryEntry.TheVariants.{Worked}
use Rattle.ls_history.specs.declared.history_entry.Stop.{Stop}
use Rattle.ls_history.specs.declared.history_entry.Stop.TheVariants.{Drain, Now}
use Rattle.ls_history.specs.Ends.{is_over, stop_of}
use Rattle.ls_history.specs.History.{HasLedTo}
use Rattle.ls_history.specs.Places.{Place, desk_at, place_of_desk}
use Rattle.ls_workers.specs.Ends.{has_news}
use Rattle.ls_workers.specs.Jobs.{HasEnded, HasEntered, HasNothingMore, IsFinishedAt, IsFirstJob, IsRefusedAt, IsReturnedAt, IsTakenAt, led_by}

-- what is against a call is so by where the desk stands
take_same : (d : Seen) → take_fault (desk_at (place_of_desk d)) ≡ take_fault d
unfolding replay_from counted_with
take_same d = refl

return_same : (ticket : ℕ) (d : Seen) → give_back_fault (desk_at (place_of_desk d)) ticket ≡ give_back_fault d ticket
unfolding replay_from counted_with
return_same ticket d = refl

run_same : (done : Told) (d : Seen) → finish_fault (desk_at (place_of_desk d)) done ≡ finish_fault d done
unfolding replay_from counted_with
run_same done d = refl

kept_same : (done : Told) (d : Seen) → kept_of (desk_at (place_of_desk d)) done ≡ kept_of d done
unfolding replay_from counted_with
kept_same done d = refl

-- a call through the front of a seat has come to the history
entered : (h : HistoryEntry) (Holds : Place → Type 0) (old log new : List HistoryEntry) (d : Seen) → HasLedTo d log → IsPrefix old log → new ≡ log ++ h ∷ [] → Holds (place_of_desk d) → HasEntered h Holds old new
entered h Holds old log new d led begins ends holds = record { before = log; begins = begins; ends = ends; holds = subst Holds led holds }

pub taken_at : (worker : ℕ) (old log new : List HistoryEntry) (d after : Seen) (o : Option Job) (job : Job) → o ≡ Some job → HasLedTo d log → IsPrefix old log → new ≡ log ++ Worked (Took worker) ∷ []
    → Takes worker d after o → IsTakenAt worker old new job
taken_at worker old log new d after o job is led begins ends takes =
    let some = subst (λ (p : Option Job). Takes worker d after p) is takes in
    entered (Worked (Took worker)) (IsFirstJob job) old log new d led begins ends (some.0, some.1, some.2)

pub returned_at : (ticket : ℕ) (old log new : List HistoryEntry) (d after : Seen) → HasLedTo d log → IsPrefix old log → new ≡ log ++ Worked (Returned ticket) ∷ []
    → Accepts (give_back_fault d ticket) d after (Returned ticket) → IsReturnedAt ticket old new
returned_at ticket old log new d after led begins ends accepts =
    entered (Worked (Returned ticket)) (λ (p : Place). give_back_fault (desk_at p) ticket ≡ None) old log new d led begins ends (return_same ticket d ∙ accepts.none)

pub finished_at : (done : Told) (kept : Kept) (old log new : List HistoryEntry) (d after : Seen) → HasLedTo d log → IsPrefix old log
    → new ≡ log ++ Worked (Finished done.ticket (is_none done.answer)) ∷ [] → Accepts (finish_fault d done) d after (Finished done.ticket (is_none done.answer)) → kept ≡ kept_of d done
    → IsFinishedAt done kept old new
finished_at done kept old log new d after led begins ends accepts is =
    entered (Worked (Finished done.ticket (is_none done.answer))) (λ (p : Place). (finish_fault (desk_at p) done ≡ None) × (kept ≡ kept_of (desk_at p) done)) old log new d led begins ends
    (run_same done d ∙ accepts.none, is ∙ sym (kept_same done d))

-- and so has a refusal its cause there
refused_at : (first : Seen → Option DeskFault) (fault : DeskFault) (log : List HistoryEntry) (d after : Seen) → first (desk_at (place_of_desk d)) ≡ first d → HasLedTo d log → Refuses (first d) d after fault
    → IsRefusedAt first fault log
refused_at first fault log d after same led refuses =
    subst (λ (p : Place). IsFirstCause (first (desk_at p)) fault) led (subst (λ (o : Option DeskFault). IsFirstCause o fault) (sym same) refuses.cause)

pub take_refused_at : (fault : DeskFault) (log : List HistoryEntry) (d after : Seen) → HasLedTo d log → Refuses (take_fault d) d after fault → IsRefusedAt take_fault fault log
take_refused_at fault log d after = refused_at take_fault fault log d after (take_same d)

pub return_refused_at : (ticket : ℕ) (fault : DeskFault) (log : List HistoryEntry) (d after : Seen) → HasLedTo d log → Refuses (give_back_fault d ticket) d after fault
    → IsRefusedAt (λ at. give_back_fault at ticket) fault log
return_refused_at ticket fault log d after = refused_at (λ (at : Seen). give_back_fault at ticket) fault log d after (return_same ticket d)

pub run_refused_at : (done : Told) (fault : DeskFault) (log : List HistoryEntry) (d after : Seen) → HasLedTo d log → Refuses (finish_fault d done) d after fault
    → IsRefusedAt (λ at. finish_fault at done) fault log
run_refused_at done fault log d after = refused_at (λ (at : Seen). finish_fault at done) fault log d after (run_same done d)

-- a front that has seen more
pub prefix_more : (old log new : List HistoryEntry) (h : HistoryEntry) → IsPrefix old log → new ≡ log ++ h ∷ [] → IsPrefix old new
prefix_more old log new h begins ends =
    (begins.0 ++ h ∷ [], sym (append_assoc old begins.0 (h ∷ [])) ∙ (ap (λ (xs : List HistoryEntry). xs ++ h ∷ []) begins.1 ∙ sym ends))

-- ---- a board that has nothing more to give

-- by whether it has ended at once, nothing is left by `Drain`, or its call had to wait
ended_at : (stop : Option Stop) (log : List HistoryEntry) (IsDrained : Type 0) → stop ≡ stop_of log → (stop ≡ None → ⊥) → (is_over stop ≡ true) ⊎ IsDrained → HasEnded (stop_of log) IsDrained
ended_at None log IsDrained is some none = absurd (some refl)
ended_at (Some Now) log IsDrained is some none = inl (sym is)
ended_at (Some Drain) log IsDrained is some none = elim none [ inl over ↦ absurd (cc (over)) | inr drained ↦ inr (sym is, drained) ]

none_of : {X : Type 0} (xs : List X) → length xs ≡ 0 → xs ≡ []
none_of [] is = refl
none_of (x ∷ xs) is = absurd (omega arith)

-- no reply is unsent, and no job waits
drained : (d : Seen) (stop : Option Stop) → IsSound d → has_news stop d ≡ true → (is_over stop ≡ true) ⊎ (d.outbox ≡ []) → (is_over stop ≡ true) ⊎ (((state_of d).unsent ≡ []) × ((state_of d).waiting ≡ []))
drained d (Some Now) sound news none = inl refl
drained d None sound news none = elim none [
  | inl over ↦ absurd (cc (over))
  | inr empty ↦ (let count : length d.outbox ≡ 0 = ap length empty in absurd (grind (arith, nat_tests)))
]
drained d (Some Drain) sound news none = elim none [
  | inl over ↦ absurd (cc (over))
  | inr empty ↦ (let count : length d.outbox ≡ 0 = ap length empty in
      let unsent = outs_length (state_of d).unsent d.outbox sound.outs in
      let waiting : length (state_of d).waiting ≡ 0 = grind (arith, nat_tests) in
      inr (none_of (state_of d).unsent (sym unsent ∙ count), none_of (state_of d).waiting waiting))
]

not_going : (d : Seen) (stop : Option Stop) → has_news stop d ≡ true → (is_over stop ≡ true) ⊎ (d.outbox ≡ []) → stop ≡ None → ⊥
not_going d (Some stop) news none is = absurd (cc (is))
not_going d None news none is = elim none [
  | inl over ↦ absurd (cc (over))
  | inr empty ↦ (let count : length d.outbox ≡ 0 = ap length empty in absurd (grind (arith, nat_tests)))
]

pub nothing_more : (d : Seen) (stop : Option Stop) (log : List HistoryEntry) → IsSound d → HasLedTo d log → stop ≡ stop_of log → has_news stop d ≡ true → (is_over stop ≡ true) ⊎ (d.outbox ≡ []) → HasNothingMore log
nothing_more d stop log sound led is news none =
    let there : (is_over stop ≡ true) ⊎ (((led_by log).state.unsent ≡ []) × ((led_by log).state.waiting ≡ [])) =
    subst (λ (p : Place). (is_over stop ≡ true) ⊎ ((p.state.unsent ≡ []) × (p.state.waiting ≡ []))) led (drained d stop sound news none) in
    ended_at stop log (((led_by log).state.unsent ≡ []) × ((led_by log).state.waiting ≡ [])) is (not_going d stop news none) there

-- where a call gave none, what it says of that
pub of_none : {X : Type 0} (o : Option X) (P Q R : Type 0) → (P → Q → R) → IfNone o P → IfNone o Q → IfNone o R
of_none None P Q R go p q = go p q
of_none (Some x) P Q R go p q = tt
