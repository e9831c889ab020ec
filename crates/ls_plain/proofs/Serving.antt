-- The whole run.
use Rattle.std.proofs.Common.{◌≡◌, ◌∙◌, ◌⊎◌, ◌+◌, ◌==◌, ◌||◌, inl, inr, ⊎_elim, ℕ, Bool, true, false, List, [], ◌∷◌, ◌++◌, Option, None, Some, IfNone, IfOk, OnOk, Result, Ok, Err, refl, sym, ap, subst, append_assoc}
use Rattle.std.proofs.lemmas.Bool.{eqb-true}
use Rattle.ls_steps.specs.Runs.{Going, begun}
use Rattle.ls_steps.specs.Plain.{IsAtRest}
use Rattle.ls_steps.proofs.Settled.{says_more, settled_begun, settled_said}
use Rattle.ls_session.specs.declared.turn.Status.{Status}
use Rattle.ls_devices.specs.Reading.{BreaksIn, HearsAll, HearsPrefix, HearsInput, HearsOn, InputIs}
use Rattle.ls_devices.specs.declared.reading.ReaderEnd.{ReaderEnd}
use Rattle.ls_devices.specs.declared.reading.ReaderEnd.TheVariants.{Broken, Ended, Failed}
use Rattle.ls_devices.specs.declared.fault.ServeFault.{ServeFault}
use Rattle.ls_devices.specs.declared.fault.ServeFault.TheVariants.{Read, Write, Strayed, Memory}
use Rattle.ls_devices.proofs.Known.{or_true}
use Rattle.ls_devices.proofs.Listening.{input_shows}
use Rattle.ls_plain.specs.Runs.{HasAnswered, ServedIs, WrittenPrefix, is_write}
use Rattle.ls_plain.specs.own.Answering.{Answers, AnswersIs, AnswersPart, Standing, WasServed}
use Rattle.ls_plain.proofs.Writing.{answers_more, answers_stay, prefix_append, prefix_longer, prefix_none, says_none, written_none}

-- a session that has come by messages has nothing left to run or to send
pub settled_by : (state : Going) → WasServed state → IsAtRest state
settled_by state w = settled_said true begun state w.0 w.1 settled_begun w.2

-- and after more messages it has come by messages too
pub served_more : (state now : Going) (contents : List (List ℕ)) (a b : Option (List ℕ)) → WasServed state → AnswersIs state contents a (Ok None) now b → WasServed now
served_more state now contents a b w h = (w.0 ++ contents, w.1 ++ h.1.bytes, says_more true begun state now w.0 contents w.1 h.1.bytes w.2 h.1.said)

-- at first it has come by none
pub ready : (state : Going) → state ≡ begun → WasServed state × (state.status ≡ None)
ready state e = subst (λ (g : Going). WasServed g × (g.status ≡ None)) (sym e) (([], [], says_none begun), refl)

-- and so it has, and is open, behind each message that doesn't end it
pub ready_next : (state now : Going) (body : List ℕ) (r : Result (Option Status) ServeFault) (a b : Option (List ℕ)) → WasServed state → AnswersIs state (body ∷ []) a r now b
    → IfOk r (λ exit. IfNone exit (WasServed now × (now.status ≡ None)))
ready_next state now body (Ok None) a b w h = (served_more state now (body ∷ []) a b w h, h.0)
ready_next state now body (Ok (Some status)) a b w h = tt
ready_next state now body (Err fault) a b w h = tt

-- ---- messages that are answered one after the other

record Answered (contents : List (List ℕ)) (a b : Standing) (exit : Option Status) : Type 0 where
  answered : AnswersIs a.talk contents a.written (Ok exit) b.talk b.written
  failed : b.has_failed ≡ a.has_failed
  holds : a.holds ≡ false → b.holds ≡ false

nothing_answered : (a b : Standing) → a.talk.status ≡ None → b ≡ a → Answered [] a b None
nothing_answered a b fresh same = subst (λ (p : Standing). Answered [] a p None) (sym same) (record { answered = (fresh, written_none a.talk a.written); failed = refl; holds = λ p. p })

one_answered : (body : List ℕ) (a b : Standing) (exit : Option Status) → Answers body a exit b → Answered (body ∷ []) a b exit
one_answered body a b exit h = record { answered = h.0; failed = h.1; holds = h.2 }

answered_behind : (xs ys : List (List ℕ)) (a b c : Standing) (exit : Option Status) → Answered xs a b None → Answered ys b c exit → Answered (xs ++ ys) a c exit
answered_behind xs ys a b c exit h k = record {
  answered = answers_more a.talk b.talk xs ys (Ok exit) c.talk a.written b.written c.written h.answered.1 k.answered;
  failed = k.failed ∙ h.failed;
  holds = λ p. k.holds (h.holds p);
}

on_answered : (bodies : List (List ℕ)) (a b : Standing) → a.talk.status ≡ None → HearsOn Answers bodies a b → Answered bodies a b None
on_answered [] a b fresh h = nothing_answered a b fresh h
on_answered (body ∷ bodies) a b fresh h =
    let first = one_answered body a h.0 None h.1.0 in answered_behind (body ∷ []) bodies a h.0 b None first (on_answered bodies h.0 b first.answered.0 h.1.1)

all_answered : (bodies : List (List ℕ)) (a b : Standing) (exit : Option Status) → a.talk.status ≡ None → IsAtRest a.talk → HearsAll Answers bodies a exit b → Answered bodies a b exit
all_answered bodies a b None fresh rest h = on_answered bodies a b fresh h
all_answered bodies a b (Some status) fresh rest h =
    let last = answered_behind h.0 (h.1 ∷ []) a h.3 b (Some status) (on_answered h.0 a h.3 fresh h.4.1) (one_answered h.1 h.3 b (Some status) h.4.2) in
    subst (λ l. Answered l a b (Some status)) (sym (h.4.0 ∙ sym (append_assoc h.0 (h.1 ∷ []) h.2))) (record {
      answered = answers_stay a.talk b.talk (h.0 ++ h.1 ∷ []) h.2 (Ok (Some status)) a.written b.written rest tt last.answered;
      failed = last.failed;
      holds = last.holds;
    })

-- ---- and broken off

record Stopped (contents : List (List ℕ)) (a b : Standing) (fault : ServeFault) : Type 0 where
  prefix : WrittenPrefix a.talk contents a.written b.written
  failed : b.has_failed ≡ (a.has_failed || is_write {A = Option Status} (Err fault))
  holds : is_write {A = Option Status} (Err fault) ≡ false → a.holds ≡ false → b.holds ≡ false
  fault_is : (fault ≡ Write) ⊎ (fault ≡ Memory)

or_none : (b : Bool) → b ≡ (b || false)
or_none true = refl
or_none false = refl

part_answered : (body : List ℕ) (bodies : List (List ℕ)) (a b : Standing) (fault : ServeFault) → AnswersPart body a fault b → Stopped (body ∷ bodies) a b fault
part_answered body bodies a b Read h = absurd h.0
part_answered body bodies a b Write h = record { prefix = prefix_longer a.talk (body ∷ []) bodies a.written b.written h.0; failed = h.1; holds = h.2; fault_is = inl refl }
part_answered body bodies a b Strayed h = absurd h.0
part_answered body bodies a b Memory h = record { prefix = prefix_longer a.talk (body ∷ []) bodies a.written b.written h.0; failed = h.1; holds = h.2; fault_is = inr refl }

nothing_more : (a b : Standing) → b ≡ a → Stopped [] a b Memory
nothing_more a b same =
    subst (λ (p : Standing). Stopped [] a p Memory) (sym same) (record { prefix = prefix_none a.talk [] a.written; failed = or_none a.has_failed; holds = λ w p. p; fault_is = inr refl })

stops_in : (bodies : List (List ℕ)) (a b : Standing) (fault : ServeFault) → BreaksIn AnswersPart (λ f. f ≡ Memory) fault bodies a b → Stopped bodies a b fault
stops_in [] a b fault h = subst (λ f. Stopped [] a b f) (sym h.0) (nothing_more a b h.1)
stops_in (body ∷ bodies) a b fault h = part_answered body bodies a b fault h

prefix_answered : (bodies : List (List ℕ)) (a b : Standing) (fault : ServeFault) → a.talk.status ≡ None → HearsPrefix Answers AnswersPart (λ f. f ≡ Memory) fault bodies a b → Stopped bodies a b fault
prefix_answered bodies a b fault fresh h =
    let before = on_answered h.0 a h.2 fresh h.3.1 in
    let rest = stops_in h.1 h.2 b fault h.3.2 in
    subst (λ l. Stopped l a b fault) (sym h.3.0) (record {
      prefix = prefix_append a.talk h.2.talk h.0 h.1 a.written h.2.written b.written before.answered.1 rest.prefix;
      failed = rest.failed ∙ ap (λ x. x || is_write {A = Option Status} (Err fault)) before.failed;
      holds = λ w p. rest.holds w (before.holds p);
      fault_is = rest.fault_is;
    })

-- ---- the run, from its beginning

-- why a read failed
pub caused : (failed : Bool) (reads most : ℕ) → (failed || (reads + 1 == most)) ≡ true → (failed ≡ true) ⊎ (reads + 1 ≡ most)
caused true reads most e = inl refl
caused false reads most e = inr (eqb-true (reads + 1) most e)

-- What a run has read and written, and how it leaves the sink.
pub record RunLeaves (input left : Option (List ℕ)) (spent failed : Type 0) (a b : Standing) (result : Result Status ServeFault) : Type 0 where
  pub served : ServedIs input left spent failed a.written result b.written
  pub good : OnOk result (b.has_failed ≡ a.has_failed)
  pub flushed : is_write result ≡ false → a.holds ≡ false → b.holds ≡ false

module _ (input left : Option (List ℕ)) (spent failed : Type 0) (a b : Standing) (begins : a.talk ≡ begun) where
  abbrev IsHeard : ReaderEnd ServeFault → Type 0
  IsHeard end = HearsInput Answers AnswersPart (λ f. f ≡ Memory) input left a end b

  is_open : a.talk.status ≡ None
  is_open = ap (λ (g : Going). g.status) begins

  all : (contents : List (List ℕ)) (exit : Option Status) → HearsAll Answers contents a exit b → Answered contents a b exit
  all contents exit h = all_answered contents a b exit is_open (subst IsAtRest (sym begins) settled_begun) h

  prefix : (contents : List (List ℕ)) (fault : ServeFault) → HearsPrefix Answers AnswersPart (λ f. f ≡ Memory) fault contents a b → Stopped contents a b fault
  prefix contents fault h = prefix_answered contents a b fault is_open h

  answered_so : (end : ReaderEnd ServeFault) → IsHeard end
      → InputIs (λ c. HasAnswered a.written b.written c None) (HasAnswered a.written b.written) (λ fault c. WrittenPrefix begun c a.written b.written) input left end
  answered_so end h =
      input_shows (λ c. HearsOn Answers c a b) (λ c. HasAnswered a.written b.written c None) (λ c exit. HearsAll Answers c a exit b) (HasAnswered a.written b.written)
      (λ fault c. HearsPrefix Answers AnswersPart (λ f. f ≡ Memory) fault c a b) (λ fault c. WrittenPrefix begun c a.written b.written) input left end
      (λ c x. (b.talk, subst (λ (g : Going). AnswersIs g c a.written (Ok None) b.talk b.written) begins (all c None x).answered))
      (λ c exit x. (b.talk, subst (λ (g : Going). AnswersIs g c a.written (Ok exit) b.talk b.written) begins (all c exit x).answered))
      (λ fault c e x. subst (λ (g : Going). WrittenPrefix g c a.written b.written) begins (prefix c fault x).prefix) h.heard

  -- it has ended
  pub run_ended : (status : Status) → IsHeard (Ended status) → RunLeaves input left spent failed a b (Ok status)
  run_ended status h =
      let leaves : (b.has_failed ≡ a.has_failed) × (a.holds ≡ false → b.holds ≡ false)
      = ⊎_elim (λ g. let k = all g.contents g.exit g.made in (k.failed, k.holds)) (λ g. let k = all g.1.1.contents None g.1.1.made in (k.failed, k.holds)) h.heard.2 in
      record { served = (tt, answered_so (Ended status) h); good = leaves.0; flushed = λ w. leaves.1 }

  -- a read failed
  pub run_unread : IsHeard Failed → spent → RunLeaves input left spent failed a b (Err Read)
  run_unread h s = record { served = (s, answered_so Failed h); good = tt; flushed = λ w. (all h.heard.3.contents None h.heard.3.made).holds }

  stopped_by : (fault : ServeFault) (contents : List (List ℕ)) → Stopped contents a b fault → IsHeard (Broken fault) → (b.has_failed ≡ true → failed) → RunLeaves input left spent failed a b (Err fault)
  stopped_by Read contents k h f = absurd (⊎_elim (λ e. absurd (cc)) (λ e. absurd (cc)) k.fault_is)
  stopped_by Write contents k h f = record { served = (f (or_true b.has_failed a.has_failed k.failed), answered_so (Broken Write) h); good = tt; flushed = λ w. absurd (cc) }
  stopped_by Strayed contents k h f = absurd (⊎_elim (λ e. absurd (cc)) (λ e. absurd (cc)) k.fault_is)
  stopped_by Memory contents k h f = record { served = (tt, answered_so (Broken Memory) h); good = tt; flushed = λ w. k.holds refl }

  -- it broke off
  pub run_stopped : (fault : ServeFault) → IsHeard (Broken fault) → (b.has_failed ≡ true → failed) → RunLeaves input left spent failed a b (Err fault)
  run_stopped fault h f = stopped_by fault h.heard.2.contents (prefix h.heard.2.contents fault h.heard.2.made) h f
