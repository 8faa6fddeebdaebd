use Rattle.std.proofs.Common.{◌≡◌, ℕ, List, rules, sym, subst}
use Rattle.std.specs.List.{AllByRecursion}
use Rattle.session_journal.specs.declared.event.Event.{Event}
use Rattle.serve_faults.specs.Traced.{table_places}
use Rattle.trace_lines.specs.Bounds.{IsHeldEvent}
use Rattle.trace_lines.specs.EventText.{CanWrite}
use Rattle.serve_core.proofs.writing.write_journal.Goals as goal

pub write_events-requires : goal.write_events-requires
write_events-requires g c =
    let names = c.args.loaded.now.names in
    let is : c.events-events.result.now ≡ c.args.closed.now.journal = search rules in
    let places : c.as_slice.result.now ≡ table_places c.args.loaded.now.program.file = search rules in
    let told = c.requires.print.told c.requires.callers (subst (AllByRecursion IsHeldEvent) is c.event_bounds.ensures) in
    record { writable = subst (λ (es : List Event). AllByRecursion (CanWrite names c.as_slice.result.now) es) (sym is) (subst (λ (ts : List ℕ). AllByRecursion (CanWrite names ts) c.args.closed.now.journal) (sym places) told.writable) }

pub returns-then-write_events-clause-left : goal.returns-then-write_events-clause-left
returns-then-write_events-clause-left g c =
    let is : c.events-events.result.now ≡ c.args.closed.now.journal = search rules in
    c.requires.print.told c.requires.callers (subst (AllByRecursion IsHeldEvent) is c.event_bounds.ensures)

pub returns-else-write_events-clause-left : goal.returns-else-write_events-clause-left
returns-else-write_events-clause-left g c =
    let is : c.events-events.result.now ≡ c.args.closed.now.journal = search rules in
    c.requires.print.told c.requires.callers (subst (AllByRecursion IsHeldEvent) is c.event_bounds.ensures)
