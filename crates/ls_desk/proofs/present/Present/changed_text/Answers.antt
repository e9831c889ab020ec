use Rattle.std.proofs.Common.{rules}
use Rattle.ls_desk.proofs.present.Present.changed_text.Goals as goal

pub returns-in_ok-next_text-in-Ok : goal.returns-in_ok-next_text-in-Ok
returns-in_ok-next_text-in-Ok = search rules depth 3

pub returns-in-Err-TooLarge : goal.returns-in-Err-TooLarge
returns-in-Err-TooLarge = search rules depth 3
