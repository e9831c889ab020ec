use Rattle.abnf_syntax.proofs.NumberLaws.{repeat_fits, number_fits}
use Rattle.abnf_syntax.proofs.number.numbers_fit.Goals as goal

pub returns-in-Repeat : goal.returns-in-Repeat
returns-in-Repeat c = repeat_fits _ _ _ _ c.in-Repeat.is c.as_bytes-bytes.ensures.value c.are_small.ensures

pub returns-in-Number : goal.returns-in-Number
returns-in-Number c = number_fits _ _ _ _ _ c.in-Number.is c.as_bytes-bytes.ensures.value c.base_of.ensures c.are_small-in-Number.ensures
