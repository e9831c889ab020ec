use Rattle.std.proofs.Common.{◌≡◌, ◌+◌, ◌++◌, ◌∷◌, [], length, ap, ◌∙◌, refl, arith, length-append}
use Rattle.ls_machine.specs.declared.event.Event.TheVariants.{Said}
use Rattle.ls_desk.specs.Stands.{state_of}
use Rattle.ls_desk.proofs.Grows.{Entered, Holds, entered, kept_room, stands}
use Rattle.ls_machine.specs.declared.event.Out.TheVariants as out
use Rattle.ls_desk.proofs.Events.{said}
use Rattle.ls_desk.proofs.desk.Desk.say.Goals as goal
use Rattle.ls_desk.proofs.desk.Desk.say.Goals.{After-enter}

pub invariant_of-self : goal.invariant_of-self
invariant_of-self c =
    let e = c.room_for_replies.ensures in
    kept_room _ _ _ _ _ _ _ _ _ _ _ _ c.self.invariant refl refl refl refl e.outbox e.journal e.more

grown_by : (c : After-enter) → c.push_back_reserved.new.self.items ≡ c.self.inside.outbox.items ++ out.Said c.args.body ∷ []
grown_by c = c.push_back_reserved.ensures.items ∙ (λ i. c.room_for_replies.ensures.outbox i ++ out.Said (c.in_ok-copy.ensures.copy i) ∷ [])

longer : (c : After-enter) → length c.push_back_reserved.new.self.items ≡ length c.self.inside.outbox.items + 1
longer c = ap length (grown_by c) ∙ omega (arith, length-append c.self.inside.outbox.items (out.Said c.args.body ∷ []))

held : (c : After-enter) → Holds (state_of c.args.self.now) c.self.inside.present c.self.inside.outbox.items
held c = stands c.self.inside.history _ _ _ _ _ c.self.invariant c.self.view_is

went : (c : After-enter) → Entered c.args.self.now (Said c.args.body) c.enter.new.self c.self.inside.present c.push_back_reserved.new.self.items c.self.inside.max_journal c.self.inside.max_events
went c =
    let few = c.in_ok-copy.ensures.room in
    let room = c.in_ok-room_for_replies.ensures.room in
    let more = longer c in
    entered c.self.inside.history _ _ _ _ _ c.in_ok-state.state (Said c.args.body) _ c.room_for_replies.new.journal _ _ _ c.self.invariant c.self.view_is c.in_ok-state.ensures
    (said _ _ _ c.args.body _ (held c) (grown_by c))
    c.room_for_replies.ensures.journal c.room_for_replies.ensures.ended c.enter.ensures refl (omega arith) (omega arith)

pub invariant_of-self-2 : goal.invariant_of-self-2
invariant_of-self-2 c = (went c).kept

pub returns-clause-ok : goal.returns-clause-ok
returns-clause-ok c = record { none = c.in_ok-copy.ensures.none; enters = (went c).enters }
