use Rattle.std.proofs.Common.{[], refl, arith, inl, inr}
use Rattle.ls_machine.specs.Counts.{counted_with}
use Rattle.ls_machine.specs.Journal.{replay_from}
use Rattle.ls_machine.specs.Machine.{IsPossible, step}
use Rattle.ls_machine.specs.declared.event.DeskFault.TheVariants.{AlreadyOpen}
use Rattle.ls_machine.specs.declared.state.OutboxEntry.TheVariants.{Body}
use Rattle.ls_desk.specs.Stands.{IsOutFor}
use Rattle.ls_history.specs.History.{IsLegalHistory}
use Rattle.worked_board.specs.Histories.{body, refused_for, short}
use Rattle.worked_board.proofs.histories.a_short_history.Goals as goal

short_legal : IsLegalHistory short
unfolding counted_with replay_from IsPossible step IsOutFor
short_legal = (
  (refl, omega arith),
  (
    ((refl, tt, refl), omega arith),
    (((refl, (Body body, [], refl, refl)), omega arith), ((inr refl, omega arith), tt)),
  ),
)

other_cause : IsLegalHistory (refused_for AlreadyOpen) → ⊥
unfolding counted_with replay_from IsPossible step IsOutFor
other_cause legal = elim legal.1.1.1.0.0 [ inl memory ↦ absurd (cc (memory)) | inr cause ↦ absurd (cc (cause)) ]

pub returns : goal.returns
returns c = record { heard = refl; outs = refl; events = refl; legal = short_legal; other = other_cause }
