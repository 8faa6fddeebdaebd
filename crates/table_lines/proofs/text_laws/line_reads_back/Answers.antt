use Rattle.table_lines.specs.TableText.{entry_values}
use Rattle.table_lines.proofs.ValuesBack.{values_back}
use Rattle.table_lines.proofs.WordsBack.{row_back}
use Rattle.table_lines.proofs.text_laws.line_reads_back.Goals as goal

pub returns-clause-row : goal.returns-clause-row
returns-clause-row c = row_back

pub returns-clause-values : goal.returns-clause-values
returns-clause-values c = λ names all e h b. values_back names all (entry_values e) h.values b
