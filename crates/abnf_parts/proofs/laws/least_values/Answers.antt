use Rattle.abnf_parts.proofs.Worked.{text_value, first_value, second_value, series_value}
use Rattle.abnf_parts.proofs.laws.least_values.Goals as goal

pub returns-clause-text : goal.returns-clause-text
returns-clause-text c = text_value

pub returns-clause-other : goal.returns-clause-other
returns-clause-other c = first_value

pub returns-clause-by_other : goal.returns-clause-by_other
returns-clause-by_other c = second_value

pub returns-clause-series : goal.returns-clause-series
returns-clause-series c = series_value
