-- Replies that are sent one after the other.
use Rattle.std.proofs.Common.{◌≡◌, ℕ, zero, suc, true, List, [], ◌∷◌, ◌++◌, length, Option, refl, sym, ap, subst, ◌∙◌, append_assoc, arith}
use Rattle.std.specs.Prelude.{Result, Ok, Err}
use Rattle.std.specs.Io.KnownBytes.{Appends}
use Rattle.ls_steps.specs.Runs.{Going, IsSent, Runs, Steps, send, state_at}
use Rattle.ls_steps.specs.Plain.{CanSendAll, Replies, many_times}
use Rattle.ls_steps.proofs.ByActs.{runs_append}
use Rattle.ls_steps.proofs.Serving.{OneSent, can_go_on, left_is, replies_more, send_runs}
use Rattle.ls_plain.specs.own.Sending.{SendsIs, SentPrefix, SomeSent}
use Rattle.ls_devices.specs.Devices.{AppendsPrefix}
use Rattle.ls_devices.specs.declared.fault.ServeFault.{ServeFault}
use Rattle.ls_devices.specs.declared.fault.ServeFault.TheVariants.{Memory, Write}
use Rattle.std.proofs.lemmas.List.{append-nil}
use Rattle.ls_devices.proofs.Known.{appends_appends, appends_none}

-- ---- replies that have left are the first of all that can be sent

-- all that can be sent once these bytes have been
record Onward (g m : Going) (bytes : List ℕ) : Type 0 where
  can : CanSendAll m
  all : (n : ℕ) (h : Going) (later : List ℕ) → Replies true n m h later → (k : ℕ) × Replies true k g h (bytes ++ later)

none_more : (g x m : Going) (now later : List ℕ) → x ≡ g → now ≡ [] → CanSendAll g → (CanSendAll x → Onward x m later) → Onward g m (now ++ later)
none_more g x m now later same none can more =
    let rest = more (subst CanSendAll (sym same) can) in
    record {
      can = rest.can;
      all = λ n h l w.
          let k = rest.all n h l w in
          (k.0, subst (λ b. Replies true k.0 g h ((b ++ later) ++ l)) (sym none) (subst (λ y. Replies true k.0 y h (later ++ l)) same k.1));
    }

some_more : (g x m : Going) (now later : List ℕ) → OneSent g x now → CanSendAll g → (CanSendAll x → Onward x m later) → Onward g m (now ++ later)
some_more g x m now later one can more =
    let rest = more (can_go_on g x now can one) in
    record {
      can = rest.can;
      all = λ n h l w.
          let k = rest.all n h l w in
          (suc k.0, subst (Replies true (suc k.0) g h) (sym (append_assoc now later l)) (replies_more g x h k.0 now (later ++ l) one k.1));
    }

onward_step : (g x m : Going) (now later : List ℕ) → Steps true g send x now → CanSendAll g → (CanSendAll x → Onward x m later) → Onward g m (now ++ later)
unfolding Steps
onward_step g x m now later step can more =
    (elim ((state_at g).unsent) as (λ es. (state_at g).unsent ≡ es → IsSent g es x now → Onward g m (now ++ later)) [
      | [] ↦ λ u s. none_more g x m now later s.0 s.1 can more
      | e ∷ es ↦ λ u s.
          let behind : length (state_at x).unsent ≡ length es = ap length (left_is g x e es u s.0) in
          let first : length (state_at g).unsent ≡ suc (length es) = ap length u in
          some_more g x m now later (record { sends = step; more = rw u refl; fewer = omega (arith, behind, first) }) can more
    ]) refl step

onward : (replies : ℕ) (g m : Going) (bytes : List ℕ) → Runs true g (many_times replies (send ∷ [])) m bytes → CanSendAll g → Onward g m bytes
unfolding Runs
onward zero g m bytes r can = record {
  can = subst CanSendAll (sym r.0) can;
  all = λ n h later w. (n, subst (λ b. Replies true n g h (b ++ later)) (sym r.1) (subst (λ x. Replies true n x h later) r.0 w));
}
onward (suc n) g m bytes r can =
    subst (Onward g m) (sym r.3.2) (onward_step g r.0 m r.1 r.2 r.3.0 can (onward n r.0 m r.2 r.3.1))

-- ---- one reply after the other

pub sent_start : (g : Going) (a : Option (List ℕ)) → SomeSent g g a a
unfolding Runs
sent_start g a = record { replies = 0; bytes = []; sent = (refl, refl); written = appends_none a }

one_more : (n : ℕ) → many_times n (send ∷ []) ++ send ∷ [] ≡ many_times (suc n) (send ∷ [])
one_more zero = refl
one_more (suc n) = ap (λ acts. send ∷ acts) (one_more n)

next_sent : (first now next : Going) (replies : ℕ) (bytes frame : List ℕ) → Runs true first (many_times replies (send ∷ [])) now bytes → Steps true now send next frame
    → Runs true first (many_times (suc replies) (send ∷ [])) next (bytes ++ frame)
next_sent first now next replies bytes frame r s =
    subst (λ acts. Runs true first acts next (bytes ++ frame)) (one_more replies)
    (runs_append true first now next (many_times replies (send ∷ [])) (send ∷ []) bytes frame r (send_runs true now next frame s))

pub sent_more : (first now next : Going) (a b c : Option (List ℕ)) (frame : List ℕ) → SomeSent first now a b → Steps true now send next frame → Appends b c frame → SomeSent first next a c
sent_more first now next a b c frame s step w = record {
  replies = suc s.replies;
  bytes = s.bytes ++ frame;
  sent = next_sent first now next s.replies s.bytes frame s.sent step;
  written = appends_appends a b c s.bytes frame s.written w;
}

pub sent_end : (first now next : Going) (a b : Option (List ℕ)) → CanSendAll first → SomeSent first now a b → Replies true 0 now next [] → SendsIs first a (Ok tt) next b
sent_end first now next a b can s w =
    let all = (onward s.replies first now s.bytes s.sent can).all 0 next [] w in
    (all.0, s.bytes, subst (Replies true all.0 first next) (append-nil s.bytes) all.1, s.written)

-- no memory was left for the next reply
pub sent_before : (first now next : Going) (a b : Option (List ℕ)) (r : Result Unit ServeFault) (fault : ServeFault) → r ≡ Err fault → fault ≡ Memory → SomeSent first now a b
    → SendsIs first a r next b
sent_before first now next a b r fault is memory s = subst (λ x. SendsIs first a x next b) (sym (is ∙ ap Err memory)) (now, s)

-- the next reply was written in part
pub sent_part : (first next : Going) (a b : Option (List ℕ)) (r : Result Unit ServeFault) (fault : ServeFault) → r ≡ Err fault → fault ≡ Write → SentPrefix first next a b
    → SendsIs first a r next b
sent_part first next a b r fault is write s = subst (λ x. SendsIs first a x next b) (sym (is ∙ ap Err write)) s

-- ---- a prefix of what has left is a prefix of all that is kept

-- A prefix of all that is kept is written.
abbrev pub PrefixOfAll : Going → Option (List ℕ) → Option (List ℕ) → Type 0
PrefixOfAll state a b = (replies : ℕ) × (left : Going) × (bytes : List ℕ) × Replies true replies state left bytes × AppendsPrefix a b bytes

pub some_of_all : (state now : Going) (a b : Option (List ℕ)) → CanSendAll state → SomeSent state now a b → PrefixOfAll state a b
some_of_all state now a b can s =
    let on = onward s.replies state now s.bytes s.sent can in
    let rest = on.can in
    let all = on.all rest.0 rest.1 rest.2 rest.3 in
    (all.0, rest.1, s.bytes ++ rest.2, all.1, (s.bytes, rest.2, (refl, s.written)))

parts : (bytes frame part more later : List ℕ) → frame ≡ part ++ more → (bytes ++ frame) ++ later ≡ (bytes ++ part) ++ (more ++ later)
parts bytes frame part more later e =
    append_assoc bytes frame later
    ∙ (ap (λ l. bytes ++ (l ++ later)) e
    ∙ (ap (λ l. bytes ++ l) (append_assoc part more later) ∙ sym (append_assoc bytes part (more ++ later))))

pub prefix_of_all : (state after : Going) (a b : Option (List ℕ)) → CanSendAll state → SentPrefix state after a b → PrefixOfAll state a b
prefix_of_all state after a b can s =
    let x = s.earlier in
    let f = s.prefix in
    let on = onward (suc x.replies) state after (x.bytes ++ s.frame) (next_sent state s.before after x.replies x.bytes s.frame x.sent s.last) can in
    let rest = on.can in
    let all = on.all rest.0 rest.1 rest.2 rest.3 in (
      all.0,
      rest.1,
      (x.bytes ++ s.frame) ++ rest.2,
      all.1,
      (x.bytes ++ f.0, f.1 ++ rest.2, (parts x.bytes s.frame f.0 f.1 rest.2 f.2.0, appends_appends a s.between b x.bytes f.0 x.written f.2.1)),
    )
