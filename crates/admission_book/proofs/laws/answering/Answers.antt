use Rattle.session_journal.specs.Script.{session_of}
use Rattle.session_values.specs.Serial.{tables_before}
use Rattle.session_journal.proofs.Serial.{serve_answers}
use Rattle.admission_book.proofs.laws.answering.Goals as goal

pub returns : goal.returns
returns c = λ m t S. serve_answers (m.length t) (m.next t) (tables_before (session_of m) t) (S.ends t)
