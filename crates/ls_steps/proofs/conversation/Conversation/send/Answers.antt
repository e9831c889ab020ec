use Rattle.std.proofs.Common.{true, ◌≡◌, [], map, sym, subst}
use Rattle.std.specs.Prelude.{is_some}
use Rattle.ls_machine.specs.Machine.{first_ticket}
use Rattle.ls_steps.specs.Runs.{Going, Steps, held_as, send, state_at}
use Rattle.ls_steps.proofs.Talks.{first_left, nothing_unsent, over, sends_none, sends_one}
use Rattle.ls_steps.proofs.conversation.Conversation.send.Goals as goal

pub returns-in_default-clause-sent : goal.returns-in_default-clause-sent
returns-in_default-clause-sent c =
    let P : Going → Type 0 = λ g. Steps true g send (over c.self.inside.session c.next_out.new.self (map held_as c.self.inside.held.items) c.self.inside.status) [] in
    subst P c.self.view_is
    (sends_none c.self.inside.session c.self.inside.desk c.next_out.new.self (map held_as c.self.inside.held.items) c.self.inside.status c.self.invariant c.in_default.ensures.none.0 c.in_default.ensures.none.1)

pub returns-in_default-clause-none : goal.returns-in_default-clause-none
returns-in_default-clause-none c =
    let P : Going → Type 0 = λ g. (state_at g).unsent ≡ [] in
    subst P c.self.view_is (nothing_unsent c.self.inside.desk c.self.invariant c.in_default.ensures.none.0)

pub returns-clause-sent : goal.returns-clause-sent
returns-clause-sent c =
    let f = c.in_ok-framed.ensures in
    let P : Going → Type 0 = λ g. Steps true g send (over c.self.inside.session c.next_out.new.self (map held_as c.self.inside.held.items) c.self.inside.status) c.in_ok-framed.field-0.items in
    subst P c.self.view_is
    (sends_one c.self.inside.session c.self.inside.desk c.next_out.new.self (map held_as c.self.inside.held.items) c.self.inside.status c.in-Some.out f.0 _ c.in-Some.ensures.some (sym f.1) f.2)

pub returns-clause-some : goal.returns-clause-some
returns-clause-some c =
    let P : Going → Type 0 = λ g. is_some (first_ticket (state_at g).unsent) ≡ true in
    subst P c.self.view_is (first_left c.self.inside.desk c.next_out.new.self c.in-Some.out c.in-Some.ensures.some)
