-- How many replies the end of a text leaves.
use Rattle.std.proofs.Common.{◌≡◌, ℕ, Bool, true, false, cond, List, [], ◌∷◌, length, refl, arith, length-append}
use Rattle.std.specs.Prelude.{ℤ, Option, Some, None, is_some, count_by, ◌&&◌}
use Rattle.std.proofs.lemmas.List.Sums.{sum_by-append}
use Rattle.ls_machine.specs.declared.state.Request.{Request}
use Rattle.ls_machine.specs.declared.state.Waiting.{Waiting}
use Rattle.ls_machine.specs.Machine.{content_modified, end_of, ends, is_ended, told_to}

-- the end of the text ends the job, and its client is answered so
abbrev pub is_told : List ℕ → Waiting → Bool
is_told uri w = is_ended uri w && is_some w.request

one_told : (b : Bool) (ticket : ℕ) (code : ℤ) (r : Option Request) → cond (b && is_some r) 1 0 ≡ length (cond b (told_to ticket code r) [])
one_told false ticket code r = refl
one_told true ticket code None = refl
one_told true ticket code (Some r) = refl

pub told_length : (uri : List ℕ) (ws : List Waiting) → count_by (is_told uri) ws ≡ length (ends uri ws)
told_length uri [] = refl
told_length uri (w ∷ ws) =
    let one = one_told (is_ended uri w) w.ticket content_modified w.request in
    let more = told_length uri ws in
    let both = length-append (end_of uri w) (ends uri ws) in
    let split = sum_by-append (λ x. cond (is_told uri x) 1 0) (w ∷ []) ws in
    omega arith
