-- A desk has had no more events than its limit.
use Rattle.std.proofs.Common.{ℕ, ◌+◌, ◌≤◌, List, [], ◌∷◌, length, arith}
use Rattle.ls_machine.specs.declared.event.Event.{Event}
use Rattle.ls_machine.specs.declared.state.State.{State}
use Rattle.ls_machine.specs.Counts.{total}
use Rattle.ls_machine.specs.Machine.{start, step}
use Rattle.ls_machine.specs.Journal.{IsLegalFrom}
use Rattle.ls_machine.proofs.Replays.{past_length, total_counted}
use Rattle.ls_desk.specs.Stands.{IsSound, Seen, counts_of}

legal_fits : (most n : ℕ) (s : State) (es : List Event) → n ≤ most → IsLegalFrom most n s es → n + length es ≤ most
unfolding IsLegalFrom
legal_fits most n s [] le l = omega (arith, le)
legal_fits most n s (e ∷ es) le l = omega (arith, legal_fits most (n + 1) (step s e) es (omega (arith, l.1)) l.2)

pub sound_fits : (d : Seen) → IsSound d → total (counts_of d) ≤ d.max_events
sound_fits d s =
    let before = legal_fits d.max_events 0 start s.past.0 (omega arith) s.past.1.legal in
    let few = past_length d.max_events d.base s.past.0 s.past.1 in
    let all = legal_fits d.max_events (total d.base.counts) d.base.state d.journal (omega arith) s.legal in
    let count = total_counted d.base.counts d.journal in
    omega arith
