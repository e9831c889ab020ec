use Rattle.findings_index.proofs.TableLaws.{later_fold, name_comes, names_differ}
use Rattle.findings_index.proofs.UseLaws.{used_names}
use Rattle.findings_index.proofs.table.tables_keep_numbers.Goals as goal

pub returns-clause-stay : goal.returns-clause-stay
returns-clause-stay c = λ table names. later_fold names table

pub returns-clause-come : goal.returns-clause-come
returns-clause-come c = name_comes

pub returns-clause-differ : goal.returns-clause-differ
returns-clause-differ c = names_differ

pub returns-clause-used : goal.returns-clause-used
returns-clause-used c = used_names
