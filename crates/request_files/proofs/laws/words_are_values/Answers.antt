use Rattle.request_files.proofs.RowFaults.{has_bad_word, word_refused}
use Rattle.request_files.proofs.laws.words_are_values.Goals as goal

pub returns-clause-told : goal.returns-clause-told
returns-clause-told c = has_bad_word

pub returns-clause-refused : goal.returns-clause-refused
returns-clause-refused c = word_refused
