use Rattle.std.proofs.Common.{refl}
use Rattle.request_files.specs.declared.refusal.RequestRefusal.TheVariants as request
use Rattle.table_lines.specs.declared.refusal.TableRefusal.TheVariants as table
use Rattle.serve_faults.specs.Input.{parts_by}
use Rattle.serve_faults.specs.declared.status.Fault.TheVariants as fault
use Rattle.serve_reading.specs.Reasons.{IsSessionReason}
use Rattle.serve_reading.specs.declared.load_error.LoadError.TheVariants.{Refused}
use Rattle.serve_reading.proofs.Exits.{exit_named}
use Rattle.session_values.proofs.Named.{begins_then}
use Rattle.serve_reading.proofs.Loading.{behind_tables, both_read, handlers_first, lines_reason, loaded}
use Rattle.serve_reading.proofs.session.read_session.Goals as goal

pub returns-clause-loaded : goal.returns-clause-loaded
returns-clause-loaded c =
    let p = c.in_ok-program.ensures in
    let e = c.checked-checked.ensures.file in
    let t = c.in_ok-opening.ensures in
    let r = c.in_ok-requests.ensures in
    let o = both_read _ _ _ _ _ _ _ _ t.ok t.opening t.printable t.kept r.ok r.servable r.printable r.kept in
    loaded _ _ c.read_program.new.names p.program p.names (rw e at o) p.named

pub returns-clause-first : goal.returns-clause-first
returns-clause-first c =
    let p = c.in_ok-program.ensures in
    let e = c.checked-checked.ensures.file in
    let t = c.in_ok-opening.ensures in
    let r = c.in_ok-requests.ensures in
    handlers_first _ _ c.read_program.new.names p.names (begins_then _ _ _ t.kept r.kept) p.printable c.len-handler_names.ensures.len

pub returns-in_err-opening-clause-refused : goal.returns-in_err-opening-clause-refused
returns-in_err-opening-clause-refused c =
    let parts = parts_by c.args.parts.handlers.now c.args.parts.tables.now c.args.parts.requests.now c.args.parts.first_table c.args.parts.first in
    let p = c.in_ok-program.ensures in
    let file = c.checked-checked.ensures.file in
    let e = c.in_err-opening.field-0.0 in
    exit_named table.NoMemory fault.Tables (IsSessionReason parts) e c.from_residual-in_err-opening.result c.from_residual-in_err-opening.ensures.1 tt
    (λ broken. lines_reason parts c.in_ok-program.program c.read_program.new.names (Refused (fault.Tables e)) p.program p.names (rw file at (c.in_err-opening.ensures.refused e refl broken)))

pub returns-in_err-requests-clause-refused : goal.returns-in_err-requests-clause-refused
returns-in_err-requests-clause-refused c =
    let parts = parts_by c.args.parts.handlers.now c.args.parts.tables.now c.args.parts.requests.now c.args.parts.first_table c.args.parts.first in
    let p = c.in_ok-program.ensures in
    let file = c.checked-checked.ensures.file in
    let e = c.in_err-requests.field-0.0 in
    exit_named request.NoMemory fault.Request (IsSessionReason parts) e c.from_residual-in_err-requests.result c.from_residual-in_err-requests.ensures.1 tt
    (λ broken.
    let behind = behind_tables _ _ _ _ _ _ e c.in_ok-opening.ensures.ok (c.in_err-requests.ensures.refused e refl broken) in
    lines_reason parts c.in_ok-program.program c.read_program.new.names (Refused (fault.Request e)) p.program p.names (rw file at behind))
