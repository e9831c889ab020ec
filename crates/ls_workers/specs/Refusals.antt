-- Which refusals each call through a seat can meet.
use Rattle.std.specs.Prelude.{Bool, true, false}
use Rattle.ls_machine.specs.declared.event.DeskFault.{DeskFault}
use Rattle.ls_machine.specs.declared.event.DeskFault.TheVariants.{UnknownTicket, OtherText, SessionFull, Memory}

-- The session is full, or memory was refused, which any call may meet.
abbrev pub is_shortage : DeskFault → Bool
is_shortage SessionFull = true
is_shortage Memory = true
is_shortage fault = false

-- the refusals that a job can meet that is given back
abbrev pub may_refuse_return : DeskFault → Bool
may_refuse_return UnknownTicket = true
may_refuse_return fault = is_shortage fault

-- the refusals that a job can meet that has run
abbrev pub may_refuse_run : DeskFault → Bool
may_refuse_run UnknownTicket = true
may_refuse_run OtherText = true
may_refuse_run fault = is_shortage fault

-- the refusals that end a worker's work early; a run whose job has ended meanwhile doesn't
abbrev pub ends_work : DeskFault → Bool
ends_work OtherText = true
ends_work fault = is_shortage fault
