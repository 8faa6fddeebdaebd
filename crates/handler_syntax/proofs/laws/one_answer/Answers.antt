use Rattle.handler_syntax.proofs.Facts.{one_tree, one_fault, no_fault, file_or_fault, fault_certain}
use Rattle.handler_syntax.proofs.laws.one_answer.Goals as goal

pub returns-clause-some : goal.returns-clause-some
returns-clause-some c = file_or_fault

pub returns-clause-certain : goal.returns-clause-certain
returns-clause-certain c = λ names source e f. fault_certain _ _ e f

pub returns-clause-tree : goal.returns-clause-tree
returns-clause-tree c = one_tree

pub returns-clause-fault : goal.returns-clause-fault
returns-clause-fault c = one_fault

pub returns-clause-either : goal.returns-clause-either
returns-clause-either c = no_fault
