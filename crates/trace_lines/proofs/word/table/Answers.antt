use Rattle.std.proofs.Common.{arith}
use Rattle.trace_lines.proofs.WordLemmas.{place_within}
use Rattle.trace_lines.proofs.word.table.Goals as goal

pub overflow_cast-result : goal.overflow_cast-result
overflow_cast-result c = record { fits = omega (arith, place_within c.args.names.now c.args.tables.now c.args.word.now, c.table_number-number.ensures, c.requires.few) }
