use Rattle.findings_index.proofs.NamesOfItems.{uses_said}
use Rattle.findings_index.proofs.laws.rules_use_the_names_of_their_items.Goals as goal

pub returns : goal.returns
returns c = uses_said
