-- What a settled desk says.
use Rattle.std.proofs.Common.{◌≡◌, ◌∙◌, ◌<◌, ◌+◌, ◌==◌, ◌&&◌, inl, inr, ℕ, List, [], ◌∷◌, length, Bool, true, false, refl, sym, ap, subst, arith}
use Rattle.std.specs.Prelude.{nat_lt, if◌then◌else◌}
use Rattle.std.proofs.lemmas.Bool.Decides.{nat_tests}
use Rattle.ls_session.specs.declared.turn.Status.{Status}
use Rattle.ls_session.specs.declared.turn.Status.TheVariants.{Full}
use Rattle.ls_desk.specs.Stands.{Seen, state_of, used}
use Rattle.ls_threads.specs.Ends.{has_met_full_session, has_ended_itself, is_read, readers_status}
use Rattle.ls_threads.specs.Settled.{IsSettled, is_done, is_nearly_full, is_settled}
use Rattle.ls_devices.specs.declared.reading.ReaderEnd.{ReaderEnd}
use Rattle.ls_threads.specs.declared.ending.Early.{Early}
use Rattle.ls_devices.specs.declared.reading.ReaderEnd.TheVariants.{Ended}
use Rattle.ls_threads.proofs.Ends.{ended_is}
use Rattle.ls_threads.specs.declared.ending.Worked.{Worked}

zero_is : (n : ℕ) → (n == 0) ≡ true → n ≡ 0
zero_is n e = grind (arith, nat_tests)

pub is_none : {X : Type 0} (xs : List X) → (length xs == 0) ≡ true → xs ≡ []
is_none [] e = refl
is_none (x ∷ xs) e = let none : length (x ∷ xs) ≡ 0 = zero_is (length (x ∷ xs)) e in absurd (omega (arith, none))

pub both : (a b : Bool) → (a && b) ≡ true → (a ≡ true) × (b ≡ true)
both true true e = (refl, refl)
both true false e = absurd (cc)
both false b e = absurd (cc)

less : (a b : ℕ) → nat_lt a b ≡ true → a < b
less a b e = grind (arith, nat_tests)

-- with a full session
full_settled : (events : ℕ) (h : ReaderEnd Early) (k : Worked) (status : Status) (before after : Seen) → has_met_full_session h k ≡ true → is_settled events h k before ≡ true → is_read h ≡ false
    → status ≡ Full → after.outbox ≡ [] → used after ≡ used before → IsSettled events status h after
full_settled events h k status before after full settled read is_full none same =
    let P : Bool → Type 0 = λ b. (if b then is_nearly_full events before else (has_ended_itself h && is_done before)) ≡ true in
    let near : nat_lt events (used before + 1025) ≡ true = subst P full settled in
    record { read = read; sent = none; done = inr (is_full, subst (λ n. events < n + 1025) (sym same) (less events (used before + 1025) near)) }

-- without, the reader ended by itself, and all is done
all_done : (events : ℕ) (h : ReaderEnd Early) (k : Worked) (desk : Seen) → has_met_full_session h k ≡ false → is_settled events h k desk ≡ true
    → (has_ended_itself h ≡ true) × ((state_of desk).waiting ≡ []) × (desk.outbox ≡ [])
all_done events h k desk full settled =
    let P : Bool → Type 0 = λ b. (if b then is_nearly_full events desk else (has_ended_itself h && is_done desk)) ≡ true in
    let two = both (has_ended_itself h) (is_done desk) (subst P full settled) in
    let done = both (length (state_of desk).waiting == 0) (length desk.outbox == 0) two.1 in
    (two.0, is_none (state_of desk).waiting done.0, is_none desk.outbox done.1)

pub is_settled_holds : (events : ℕ) (h : ReaderEnd Early) (k : Worked) (full : Bool) (status : Status) (before after : Seen) → has_met_full_session h k ≡ full → is_settled events h k before ≡ true
    → is_read h ≡ false → (full ≡ true → status ≡ Full) → (full ≡ false → status ≡ readers_status h) → (full ≡ true → after.outbox ≡ []) → (full ≡ false → after ≡ before)
    → used after ≡ used before → IsSettled events status h after
is_settled_holds events h k true status before after met settled read is_full is_last rest kept same = full_settled events h k status before after met settled read (is_full refl) (rest refl) same
is_settled_holds events h k false status before after met settled read is_full is_last rest kept same =
    let done = all_done events h k before met settled in
    let own : h ≡ Ended status = ended_is h done.0 ∙ ap Ended (sym (is_last refl)) in
    subst (λ d. IsSettled events status h d) (sym (kept refl)) (record { read = read; sent = done.2; done = inl (own, done.1) })
