-- The first of the workers that wait.
use Rattle.std.proofs.Common.{◌≡◌, ℕ, ◌<◌, ◌≤◌, Bool, true, false, List, [], ◌∷◌, length, get_or, zero, suc, Option, Some, None, refl, ap, ◌∙◌, arith}
use Rattle.std.proofs.lemmas.Bool.{eqb-true}
use Rattle.std.proofs.lemmas.Bool.Decides.{nat_tests}
use Rattle.std.proofs.lemmas.List.Quantifiers.{position-Some}
use Rattle.std.specs.Prelude.{◌||◌, ◌&&◌, ◌==◌, is_some, find}
use Rattle.std.specs.List.{position_or_len}
use Rattle.ls_machine.specs.Machine.{is_queued}
use Rattle.ls_desk.specs.Stands.{Seen, state_of}
use Rattle.ls_workers.specs.Ends.{IsFirstWaiting, first_waiting, has_job, has_job_for, is_first, is_this_number}
use Rattle.ls_history.specs.declared.history_entry.Stop.{Stop}

within : (idle : List Bool) (k : ℕ) → get_or idle k false ≡ true → k < length idle
within [] k waits = absurd (cc)
within (first ∷ idle) zero waits = omega arith
within (first ∷ idle) (suc k) waits = omega (arith, within idle k waits)

not_behind : (idle : List Bool) (k : ℕ) → get_or idle k false ≡ true → position_or_len (λ waits. waits) idle ≤ k
not_behind [] k waits = absurd (cc)
not_behind (true ∷ idle) k waits = omega arith
not_behind (false ∷ idle) zero waits = absurd (cc)
not_behind (false ∷ idle) (suc k) waits = omega (arith, not_behind idle k waits)

some_waits : (idle : List Bool) (k : ℕ) → get_or idle k false ≡ true → (number : ℕ) × (first_waiting idle ≡ Some number)
some_waits idle k waits =
    let inside : position_or_len (λ (b : Bool). b) idle < length idle = omega (arith, within idle k waits, not_behind idle k waits) in
    (position_or_len (λ waits. waits) idle, grind (arith, nat_tests))

from_first : (idle : List Bool) (number : ℕ) → first_waiting idle ≡ Some number → IsFirstWaiting idle number
from_first idle number first =
    let here = position-Some (λ (waits : Bool). waits) idle number false first in
    record { waits = here.1; before = here.2 }

same_number : (number : ℕ) → (number == number) ≡ true
same_number number = grind (arith, nat_tests)

number_is : (number : ℕ) (o : Option ℕ) → is_this_number number o ≡ true → o ≡ Some number
number_is number None is = cc
number_is number (Some first) is = ap (λ (n : ℕ). Some n) (eqb-true first number is)

-- by whether the board has ended and a job is queued
has_it : (ended queued : Bool) (idle : List Bool) (number : ℕ) → ended || queued ≡ true → first_waiting idle ≡ Some number → ended || (queued && is_first idle number) ≡ true
has_it true queued idle number some first = refl
has_it false true idle number some first = ap (is_this_number number) first ∙ same_number number
has_it false false idle number some first = cc

pub first_has_it : (stop : Option Stop) (desk : Seen) (idle : List Bool) (k : ℕ) → has_job stop desk ≡ true → get_or idle k false ≡ true
    → (number : ℕ) × IsFirstWaiting idle number × (has_job_for stop desk idle number ≡ true)
first_has_it stop desk idle k some waits =
    let first = some_waits idle k waits in
    (first.0, from_first idle first.0 first.1, has_it (is_some stop) (is_some (find is_queued (state_of desk).waiting)) idle first.0 some first.1)

has_alone : (queued : Bool) (idle : List Bool) (number : ℕ) → queued && is_first idle number ≡ true → IsFirstWaiting idle number
has_alone true idle number has = from_first idle number (number_is number (first_waiting idle) has)
has_alone false idle number has = absurd (cc)

pub first_alone_has_it : (desk : Seen) (idle : List Bool) (number : ℕ) → has_job_for None desk idle number ≡ true → IsFirstWaiting idle number
first_alone_has_it desk idle number has = has_alone (is_some (find is_queued (state_of desk).waiting)) idle number has
