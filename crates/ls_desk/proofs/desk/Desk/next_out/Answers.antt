use Rattle.std.proofs.Common.{◌≡◌, ◌+◌, length, refl, ap, ◌∙◌, arith}
use Rattle.std.specs.Prelude.{None}
use Rattle.ls_machine.specs.declared.event.Event.TheVariants.{Sent}
use Rattle.ls_desk.specs.Stands.{state_of, ticket_of_out}
use Rattle.ls_desk.proofs.Grows.{Entered, Holds, entered, few_of, stands}
use Rattle.ls_desk.proofs.Sends.{kept_same, front_of, Front, sent, sends}
use Rattle.ls_desk.proofs.desk.Desk.next_out.Goals as goal
use Rattle.ls_desk.proofs.desk.Desk.next_out.Goals.{After-enter}

pub invariant_of-self : goal.invariant_of-self
invariant_of-self c = kept_same _ _ _ _ _ _ _ _ _ c.self.invariant c.in_err-out.ensures.items

held : (c : After-enter) → Holds (state_of c.args.self.now) c.self.inside.present c.self.inside.outbox.items
held c = stands c.self.inside.history _ _ _ _ _ c.self.invariant c.self.view_is

first : (c : After-enter) → Front (state_of c.args.self.now).unsent c.in_ok-out.out c.pop_front.new.self.items
first c = front_of _ c.self.inside.outbox.items c.in_ok-out.out c.pop_front.new.self.items (held c).outs c.in_ok-out.ensures.items

shorter : (c : After-enter) → length c.self.inside.outbox.items ≡ length c.pop_front.new.self.items + 1
shorter c = ap length c.in_ok-out.ensures.items ∙ omega arith

went : (c : After-enter) → Entered c.args.self.now (Sent (ticket_of_out c.in_ok-out.out)) c.enter.new.self c.self.inside.present c.pop_front.new.self.items c.self.inside.max_journal c.self.inside.max_events
went c =
    let few = few_of c.self.inside.history _ _ _ _ _ c.self.invariant c.self.view_is in
    let room = c.self.invariant.reserved in
    let less = shorter c in
    entered c.self.inside.history _ _ _ _ _ None (Sent (ticket_of_out c.in_ok-out.out)) _ c.self.inside.history.events _ _ _ c.self.invariant c.self.view_is refl
    (sent _ _ _ c.in_ok-out.out c.pop_front.new.self.items (held c) (first c))
    refl refl c.enter.ensures (λ i. Sent (c.ticket_of-ticket.ensures i)) (omega arith) (omega arith)

pub invariant_of-self-2 : goal.invariant_of-self-2
invariant_of-self-2 c = (went c).kept

pub returns-clause-some : goal.returns-clause-some
returns-clause-some c = sends c.self.inside.history _ _ _ _ _ _ c.in_ok-out.out c.pop_front.new.self.items c.self.invariant c.self.view_is (first c) c.in_ok-out.ensures.items refl (went c).enters
