use Rattle.findings_index.proofs.UseLaws.{name_words, opaque_words}
use Rattle.findings_index.proofs.word.words_tell_what_is_used.Goals as goal

pub returns-clause-names : goal.returns-clause-names
returns-clause-names c = name_words

pub returns-clause-unknown : goal.returns-clause-unknown
returns-clause-unknown c = opaque_words
