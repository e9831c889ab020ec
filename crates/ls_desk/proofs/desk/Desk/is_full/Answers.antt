use Rattle.std.proofs.Common.{◌≡◌, ◌+◌, ◌-◌, ◌≤◌, ℕ, length, ap, ◌∙◌, subst, arith, rules}
use Rattle.std.specs.Prelude.{nat_le, nat_lt}
use Rattle.std.proofs.lemmas.Bool.Decides.{nat_tests}
use Rattle.ls_machine.specs.Counts.{total}
use Rattle.ls_machine.specs.Journal.{replay_from}
use Rattle.ls_desk.specs.Stands.{Seen}
use Rattle.ls_desk.specs.Faults.{is_session_full}
use Rattle.ls_desk.proofs.Grows.{outs_length}
use Rattle.ls_desk.proofs.desk.Desk.is_full.Goals as goal

same_test : (most j o k u r : ℕ) → j ≡ k → o ≡ u → j + o ≤ most → nat_le (most - (j + o)) r ≡ nat_lt most (k + u + (1 + r))
same_test most j o k u r p q used = grind (arith, nat_tests)

pub returns-clause-full : goal.returns-clause-full
returns-clause-full c =
    let P : Seen → Type 0 = λ d. nat_le (c.self.inside.max_events - (c.total.result + c.len.result)) c.args.replies ≡ is_session_full d (1 + c.args.replies) in
    let j = c.total.ensures ∙ ap total c.self.invariant.counts_are in
    let o : c.len.result ≡ length c.self.inside.outbox.items = search rules in
    let l = outs_length (replay_from c.self.inside.history.base.state c.self.inside.history.events.items).unsent c.self.inside.outbox.items c.self.invariant.outs in
    let used : c.total.result + c.len.result ≤ c.self.inside.max_events = omega arith in
    subst P c.self.view_is (same_test _ _ _ _ _ _ j (o ∙ l) used)
