-- What is written on contents.
use Rattle.std.proofs.Common.{ℕ, ◌≡◌, List, [], ◌∷◌, ◌++◌, Option, None, Some, true, refl, sym, ◌∙◌, ap, subst, append_assoc}
use Rattle.std.specs.Prelude.{is_some, Result, Ok, Err}
use Rattle.ls_steps.specs.Runs.{Going}
use Rattle.ls_steps.specs.Plain.{CanSendAll, HearsAndRuns, IsAtRest, Says, Serves}
use Rattle.ls_steps.proofs.Settled.{says_more, says_one, says_stays}
use Rattle.ls_plain.specs.Runs.{Written, WrittenPrefix}
use Rattle.ls_plain.specs.own.Answering.{AnswersIs}
use Rattle.ls_plain.specs.own.Sending.{SendsIs}
use Rattle.ls_devices.specs.Devices.{AppendsPrefix}
use Rattle.ls_devices.specs.declared.fault.ServeFault.{ServeFault}
use Rattle.ls_devices.specs.declared.fault.ServeFault.TheVariants.{Read, Write, Strayed, Memory}
use Rattle.ls_session.specs.declared.turn.Status.{Status}
use Rattle.ls_devices.proofs.Known.{appends_appends, appends_none, as_prefix}
use Rattle.ls_plain.proofs.Sending.{PrefixOfAll, prefix_of_all, some_of_all}

pub says_none : (state : Going) → Says true state [] state []
unfolding Says
says_none state = (refl, refl)

pub written_none : (state : Going) (a : Option (List ℕ)) → Written state [] state a a
written_none state a = record { bytes = []; said = says_none state; written = appends_none a }

pub written_append : (state now after : Going) (xs ys : List (List ℕ)) (a b c : Option (List ℕ)) → Written state xs now a b → Written now ys after b c → Written state (xs ++ ys) after a c
written_append state now after xs ys a b c w v = record {
  bytes = w.bytes ++ v.bytes;
  said = says_more true state now after xs ys w.bytes v.bytes w.said v.said;
  written = appends_appends a b c w.bytes v.bytes w.written v.written;
}

ended : (after : Going) (status : Status) → after.status ≡ Some status → is_some after.status ≡ true
ended after status e = ap is_some e

pub written_stays : (state after : Going) (xs ys : List (List ℕ)) (status : Status) (a b : Option (List ℕ)) → IsAtRest state → after.status ≡ Some status → Written state xs after a b → Written state (xs ++ ys) after a b
written_stays state after xs ys status a b settled e w =
    record { bytes = w.bytes; said = says_stays true state after xs ys w.bytes settled (ended after status e) w.said; written = w.written }

pub prefix_append : (state now : Going) (xs ys : List (List ℕ)) (a b c : Option (List ℕ)) → Written state xs now a b → WrittenPrefix now ys b c → WrittenPrefix state (xs ++ ys) a c
prefix_append state now xs ys a b c w f = record {
  answered = xs ++ f.answered;
  left = f.left;
  contents_are = ap (λ l. xs ++ l) f.contents_are ∙ sym (append_assoc xs f.answered f.left);
  after = f.after;
  bytes = w.bytes ++ f.bytes;
  said = says_more true state now f.after xs f.answered w.bytes f.bytes w.said f.said;
  written = (w.bytes ++ f.written.0, f.written.1, (ap (λ l. w.bytes ++ l) f.written.2.0 ∙ sym (append_assoc w.bytes f.written.0 f.written.1), appends_appends a b c w.bytes f.written.0 w.written f.written.2.1));
}

-- nothing of it is a prefix
pub prefix_none : (state : Going) (xs : List (List ℕ)) (a : Option (List ℕ)) → WrittenPrefix state xs a a
prefix_none state xs a = record { answered = []; left = xs; contents_are = refl; after = state; bytes = []; said = says_none state; written = as_prefix a a [] (appends_none a) }

pub prefix_longer : (state : Going) (xs ys : List (List ℕ)) (a b : Option (List ℕ)) → WrittenPrefix state xs a b → WrittenPrefix state (xs ++ ys) a b
prefix_longer state xs ys a b f = record {
  answered = f.answered;
  left = f.left ++ ys;
  contents_are = ap (λ l. l ++ ys) f.contents_are ∙ append_assoc f.answered f.left ys;
  after = f.after;
  bytes = f.bytes;
  said = f.said;
  written = f.written;
}

-- an answer that was written in part
pub one_prefix : (state now : Going) (body bytes : List ℕ) (a b : Option (List ℕ)) → Serves true state body now bytes → AppendsPrefix a b bytes → WrittenPrefix state (body ∷ []) a b
one_prefix state now body bytes a b s w =
    record { answered = body ∷ []; left = []; contents_are = refl; after = now; bytes = bytes; said = says_one true state now body bytes s; written = w }

-- one body is answered
pub one_answer : (state worked now : Going) (body : List ℕ) (status : Option Status) (a b : Option (List ℕ)) → HearsAndRuns true state body worked → SendsIs worked a (Ok tt) now b → status ≡ now.status
    → AnswersIs state (body ∷ []) a (Ok status) now b
one_answer state worked now body status a b h s e =
    (sym e, record { bytes = s.1; said = says_one true state now body s.1 (record { worked = worked; hears = h; replies = s.0; sends = s.2 }); written = s.3 })

prefix_sent : (state worked : Going) (body : List ℕ) (a b : Option (List ℕ)) → HearsAndRuns true state body worked → PrefixOfAll worked a b → WrittenPrefix state (body ∷ []) a b
prefix_sent state worked body a b h s = one_prefix state s.1 body s.2 a b (record { worked = worked; hears = h; replies = s.0; sends = s.3 }) s.4

-- the answer to one body was broken off
one_fault : (state worked now : Going) (body : List ℕ) (fault : ServeFault) (a b : Option (List ℕ)) → HearsAndRuns true state body worked → CanSendAll worked → SendsIs worked a (Err fault) now b
    → AnswersIs state (body ∷ []) a (Err fault) now b
one_fault state worked now body Read a b h can s = absurd s
one_fault state worked now body Write a b h can s = prefix_sent state worked body a b h (prefix_of_all worked now a b can s)
one_fault state worked now body Strayed a b h can s = absurd s
one_fault state worked now body Memory a b h can s = prefix_sent state worked body a b h (some_of_all worked s.0 a b can s.1)

pub fault_answered : (state worked now : Going) (body : List ℕ) (r : Result (Option Status) ServeFault) (e fault : ServeFault) (a b : Option (List ℕ)) → r ≡ Err e → e ≡ fault
    → HearsAndRuns true state body worked → CanSendAll worked → SendsIs worked a (Err fault) now b → AnswersIs state (body ∷ []) a r now b
fault_answered state worked now body r e fault a b is same h can s =
    subst (λ x. AnswersIs state (body ∷ []) a x now b) (sym (is ∙ ap Err same)) (one_fault state worked now body fault a b h can s)

-- no memory was left for one body
pub none_answered : (state now : Going) (body : List ℕ) (r : Result (Option Status) ServeFault) (e : ServeFault) (a : Option (List ℕ)) → r ≡ Err e → e ≡ Memory
    → AnswersIs state (body ∷ []) a r now a
none_answered state now body r e a is memory = subst (λ x. AnswersIs state (body ∷ []) a x now a) (sym (is ∙ ap Err memory)) (prefix_none state (body ∷ []) a)

-- more bodies are answered after those that have been
pub answers_more : (state now : Going) (xs ys : List (List ℕ)) (r : Result (Option Status) ServeFault) (after_it : Going) (first old new : Option (List ℕ))
    → Written state xs now first old → AnswersIs now ys old r after_it new → AnswersIs state (xs ++ ys) first r after_it new
answers_more state now xs ys (Ok status) after_it first old new w a = (a.0, written_append state now after_it xs ys first old new w a.1)
answers_more state now xs ys (Err Read) after_it first old new w a = absurd a
answers_more state now xs ys (Err Write) after_it first old new w a = prefix_append state now xs ys first old new w a
answers_more state now xs ys (Err Strayed) after_it first old new w a = absurd a
answers_more state now xs ys (Err Memory) after_it first old new w a = prefix_append state now xs ys first old new w a

-- the answer isn't that all were answered
abbrev pub IsStop : Result (Option Status) ServeFault → Type 0
IsStop (Ok None) = ⊥
IsStop (Ok (Some status)) = Unit {0}
IsStop (Err fault) = Unit {0}

-- what stopped stands for more bodies too
pub answers_stay : (state now : Going) (xs ys : List (List ℕ)) (r : Result (Option Status) ServeFault) (old new : Option (List ℕ)) → IsAtRest state → IsStop r
    → AnswersIs state xs old r now new → AnswersIs state (xs ++ ys) old r now new
answers_stay state now xs ys (Ok None) old new settled s a = absurd s
answers_stay state now xs ys (Ok (Some status)) old new settled s a = (a.0, written_stays state now xs ys status old new settled a.0 a.1)
answers_stay state now xs ys (Err Read) old new settled s a = absurd a
answers_stay state now xs ys (Err Write) old new settled s a = prefix_longer state xs ys old new a
answers_stay state now xs ys (Err Strayed) old new settled s a = absurd a
answers_stay state now xs ys (Err Memory) old new settled s a = prefix_longer state xs ys old new a
