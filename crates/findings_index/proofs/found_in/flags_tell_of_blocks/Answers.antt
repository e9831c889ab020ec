use Rattle.findings_index.proofs.ByTableLaws.{flags_tell}
use Rattle.findings_index.proofs.ToldMarks.{all_led}
use Rattle.findings_index.proofs.found_in.flags_tell_of_blocks.Goals as goal

pub returns : goal.returns
returns c = λ digests held led table defined tolds are_held are_led are_defined flagged. flags_tell digests held led table defined are_held (all_led digests held led are_led) are_defined tolds flagged
