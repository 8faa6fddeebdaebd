use Rattle.std.proofs.Common.{◌≡◌, ◌∙◌, sym, ap, arith, Err, Some, slice_get}
use Rattle.std.proofs.lemmas.Result.{on_ok_weaker}
use Rattle.text_lines.specs.Rows.{row_of}
use Rattle.text_lines.specs.Text.{words}
use Rattle.table_lines.specs.TableRows.{table_of}
use Rattle.table_lines.proofs.FaultLemmas.{accepts, fault_many, fault_unknown, fault_words, told, twice_is}
use Rattle.table_lines.proofs.table_row.push_row.Goals as goal

pub returns-then-count-ge-MAX_TABLE_LINES-clause-refused : goal.returns-then-count-ge-MAX_TABLE_LINES-clause-refused
returns-then-count-ge-MAX_TABLE_LINES-clause-refused c =
    told _ _ (fault_many c.args.names.now c.args.tables.now c.args.found.now (row_of c.args.line c.args.name.now (words c.args.words.rest.now)) (omega arith))

pub returns-in_default-clause-refused : goal.returns-in_default-clause-refused
returns-in_default-clause-refused c =
    told _ _ (fault_unknown c.args.names.now c.args.tables.now c.args.found.now (row_of c.args.line c.args.name.now (words c.args.words.rest.now)) (omega arith) c.in_default.ensures)

pub returns-in-Err-clause-refused : goal.returns-in-Err-clause-refused
returns-in-Err-clause-refused c = λ e is some.
    let k : c.in-Err.e ≡ e = cc in
    let at : slice_get c.args.tables.now (table_of c.args.names.now c.args.tables.now c.args.name.now) ≡ Some c.get.result.now = ap (λ i. slice_get c.args.tables.now i) (sym c.in-Some.ensures.0) ∙ c.get.ensures in
    fault_words c.args.names.now c.args.tables.now c.args.found.now (row_of c.args.line c.args.name.now (words c.args.words.rest.now)) c.get.result.now e (omega arith) at
    (c.entry.ensures.refused e (c.in-Err.is ∙ ap (λ x. Err x) k) some)

pub returns-in-Ok-clause-ok : goal.returns-in-Ok-clause-ok
returns-in-Ok-clause-ok c =
    on_ok_weaker c.push_entry.result
    (accepts c.args.names.now c.entry.new.names c.args.tables.now c.args.found.now c.push_entry.new.found (row_of c.args.line c.args.name.now (words c.args.words.rest.now)) c.get.result.now c.in-Ok.pair c.in-Some.number
    c.in-Some.ensures.0 (omega arith) c.get.ensures c.in-Ok.ensures.ok)
    c.push_entry.ensures.ok

pub returns-in-Ok-clause-refused : goal.returns-in-Ok-clause-refused
returns-in-Ok-clause-refused c = λ e is some.
    let row = row_of c.args.line c.args.name.now (words c.args.words.rest.now) in
    let twice = c.push_entry.ensures.refused e is some in
    twice_is c.args.names.now c.args.tables.now c.args.found.now row c.get.result.now c.entry.new.names c.in-Ok.pair c.in-Some.number e
    c.in-Some.ensures.0 (omega arith) c.get.ensures c.in-Ok.ensures.ok twice
