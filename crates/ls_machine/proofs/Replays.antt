-- Events, one after the other: the states that they lead to, and how many there are.
use Rattle.std.proofs.Common.{◌≡◌, ℕ, zero, suc, ◌+◌, ◌≤◌, false, List, [], ◌∷◌, ◌++◌, length, refl, sym, ap, ◌∙◌, subst, arith}
use Rattle.ls_machine.specs.declared.base.Base.{Base}
use Rattle.ls_machine.specs.declared.base.Counts.{Counts}
use Rattle.ls_machine.specs.declared.event.Event.{Event}
use Rattle.ls_machine.specs.declared.event.Event.TheVariants.{Opened, Changed, Closed, Asked, Cancelled, Said, Took, Returned, Finished, Sent}
use Rattle.ls_machine.specs.declared.state.State.{State}
use Rattle.ls_machine.specs.Machine.{start, step, IsPossible}
use Rattle.ls_machine.specs.Counts.{count_one, counted_with, first, is_client, no_events, total}
use Rattle.ls_machine.specs.Journal.{replay_from, replay, IsLegalFrom, IsLegal, IsCutAt, IsPast}

pub replay_push : (s : State) (es : List Event) (e : Event) → replay_from s (es ++ e ∷ []) ≡ step (replay_from s es) e
unfolding replay_from
replay_push s [] e = refl
replay_push s (x ∷ es) e = replay_push (step s x) es e

pub replay_one : (s : State) (e : Event) → replay_from s (e ∷ []) ≡ step s e
unfolding replay_from
replay_one s e = refl

pub replay_none : (s : State) → replay_from s [] ≡ s
unfolding replay_from
replay_none s = refl

pub replay_append : (s : State) (es fs : List Event) → replay_from s (es ++ fs) ≡ replay_from (replay_from s es) fs
unfolding replay_from
replay_append s [] fs = refl
replay_append s (x ∷ es) fs = replay_append (step s x) es fs

pub legal_push : (most n : ℕ) (s : State) (es : List Event) (e : Event) → IsLegalFrom most n s es → IsPossible (replay_from s es) e → n + length es + 1 + length (step (replay_from s es) e).unsent ≤ most → IsLegalFrom most n s (es ++ e ∷ [])
unfolding IsLegalFrom replay_from
legal_push most n s [] e legal possible fits = (possible, omega arith, tt)
legal_push most n s (x ∷ es) e legal possible fits =
    (legal.0, legal.1, legal_push most (n + 1) (step s x) es e legal.2 possible (omega arith))

pub legal_none : (most n : ℕ) (s : State) → IsLegalFrom most n s []
unfolding IsLegalFrom
legal_none most n s = tt

legal_append : (most n m : ℕ) (s : State) (es fs : List Event) → IsLegalFrom most n s es → m ≡ n + length es → IsLegalFrom most m (replay_from s es) fs → IsLegalFrom most n s (es ++ fs)
unfolding IsLegalFrom replay_from
legal_append most n m s [] fs legal is more = let P : ℕ → Type 0 = λ k. IsLegalFrom most k s fs in subst P (omega arith) more
legal_append most n m s (x ∷ es) fs legal is more =
    (legal.0, legal.1, legal_append most (n + 1) m (step s x) es fs legal.2 (omega arith) more)

-- ---- counts

pub counted_none : (c : Counts) → counted_with c [] ≡ c
unfolding counted_with
counted_none c = refl

pub counted_push : (c : Counts) (es : List Event) (e : Event) → counted_with c (es ++ e ∷ []) ≡ count_one (counted_with c es) e
unfolding counted_with
counted_push c [] e = refl
counted_push c (x ∷ es) e = counted_push (count_one c x) es e

pub counted_append : (c : Counts) (es fs : List Event) → counted_with c (es ++ fs) ≡ counted_with (counted_with c es) fs
unfolding counted_with
counted_append c [] fs = refl
counted_append c (x ∷ es) fs = counted_append (count_one c x) es fs

pub total_one : (c : Counts) (e : Event) → total (count_one c e) ≡ total c + 1
total_one c (Opened uri label text encoding version) = omega arith
total_one c (Changed uri label edits version) = omega arith
total_one c (Closed uri) = omega arith
total_one c (Asked id uri ask links ticket) = omega arith
total_one c (Cancelled id found) = omega arith
total_one c (Said body) = omega arith
total_one c (Took worker) = omega arith
total_one c (Returned ticket) = omega arith
total_one c (Finished ticket failed) = omega arith
total_one c (Sent ticket) = omega arith

pub total_counted : (c : Counts) (es : List Event) → total (counted_with c es) ≡ total c + length es
unfolding counted_with
total_counted c [] = omega arith
total_counted c (x ∷ es) = let t = total_counted (count_one c x) es in let o = total_one c x in omega arith

-- ---- the place behind which no client's event stands

pub cut_none : (most : ℕ) → IsCutAt most []
unfolding IsCutAt
cut_none most = tt

pub cut_push : (most : ℕ) (es : List Event) (e : Event) → IsCutAt most es → (most ≤ length es → is_client e ≡ false) → IsCutAt most (es ++ e ∷ [])
unfolding IsCutAt
cut_push zero [] e cut late = (late (omega arith), tt)
cut_push (suc most) [] e cut late = tt
cut_push zero (x ∷ es) e cut late = (cut.0, cut_push zero es e cut.1 (λ h. late (omega arith)))
cut_push (suc most) (x ∷ es) e cut late = cut_push most es e cut (λ h. late (omega arith))

-- ---- bases

-- nothing has led to where a session begins
pub past_first : (most : ℕ) → IsPast most first []
past_first most = record { legal = legal_none most 0 start; state_is = replay_none start; counts_are = counted_none no_events }

pub past_length : (most : ℕ) (base : Base) (past : List Event) → IsPast most base past → total base.counts ≡ length past
past_length most base past is = sym (ap total is.counts_are) ∙ (total_counted no_events past ∙ omega arith)

-- what has led to a base, and then a journal: a legal list
pub past_legal : (most : ℕ) (base : Base) (past es : List Event) → IsPast most base past → IsLegalFrom most (total base.counts) base.state es → IsLegal most (past ++ es)
past_legal most base past es is legal =
    let P : State → Type 0 = λ s. IsLegalFrom most (total base.counts) s es in
    legal_append most 0 (total base.counts) start past es is.legal (past_length most base past is ∙ omega arith) (subst P (sym is.state_is) legal)

pub past_state : (most : ℕ) (base : Base) (past es : List Event) → IsPast most base past → replay (past ++ es) ≡ replay_from base.state es
past_state most base past es is = replay_append start past es ∙ ap (λ s. replay_from s es) is.state_is

-- the journal has become past
pub past_more : (most : ℕ) (base : Base) (past es : List Event) (checkpoints : ℕ) → IsPast most base past → IsLegalFrom most (total base.counts) base.state es
    → IsPast most (record { state = replay_from base.state es; counts = counted_with base.counts es; checkpoints = checkpoints }) (past ++ es)
past_more most base past es checkpoints is legal = record {
  legal = past_legal most base past es is legal;
  state_is = past_state most base past es is;
  counts_are = counted_append no_events past es ∙ ap (λ (c : Counts). counted_with c es) is.counts_are;
}
