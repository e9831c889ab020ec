use Rattle.abnf_names.proofs.Ascending.{block_run}
use Rattle.findings_index.proofs.FoundOrder.{found_ascends}
use Rattle.findings_index.proofs.laws.blocks_are_found_in_order.Goals as goal

pub returns : goal.returns
returns c = λ ls bounds told items fault are has. found_ascends told (bounds.0, 0) (bounds.1, 0) items fault has (block_run ls bounds.0 bounds.1 items are)
