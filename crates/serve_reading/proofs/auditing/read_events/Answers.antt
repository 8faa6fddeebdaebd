use Rattle.std.proofs.Common.{◌≡◌, ℕ, List, rules, sym, subst}
use Rattle.serve_faults.specs.Traced.{table_places}
use Rattle.trace_lines.specs.EventRows.{AreKnown}
use Rattle.serve_reading.proofs.AuditedFiles.{tables_known}
use Rattle.serve_reading.proofs.auditing.read_events.Goals as goal

pub read_trace-requires-clause-tables : goal.read_trace-requires-clause-tables
read_trace-requires-clause-tables c =
    let same : c.as_slice.result.now ≡ table_places c.args.checked.now = search rules in
    subst (λ (places : List ℕ). AreKnown c.args.names.now places) (sym same) (tables_known c.args.names.now c.args.checked.now c.requires.named)
