use Rattle.admission_book.proofs.Keep.{keeps_begin, keeps_narrow, keeps_admit, keeps_delay, keeps_done, keeps_end}
use Rattle.admission_book.proofs.laws.keeping.Goals as goal

pub returns-clause-begin : goal.returns-clause-begin
returns-clause-begin c = keeps_begin

pub returns-clause-narrow : goal.returns-clause-narrow
returns-clause-narrow c = keeps_narrow

pub returns-clause-admit : goal.returns-clause-admit
returns-clause-admit c = keeps_admit

pub returns-clause-delay : goal.returns-clause-delay
returns-clause-delay c = keeps_delay

pub returns-clause-done : goal.returns-clause-done
returns-clause-done c = keeps_done

pub returns-clause-end : goal.returns-clause-end
returns-clause-end c = keeps_end
