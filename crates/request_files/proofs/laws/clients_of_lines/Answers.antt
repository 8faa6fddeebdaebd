use Rattle.std.proofs.Common.{arith}
use Rattle.request_files.proofs.ClientLemmas.{counts_long, sum_counts}
use Rattle.request_files.proofs.laws.clients_of_lines.Goals as goal

pub returns-clause-count : goal.returns-clause-count
returns-clause-count c = λ ls. omega (arith, counts_long ls)

pub returns-clause-all : goal.returns-clause-all
returns-clause-all c = sum_counts
