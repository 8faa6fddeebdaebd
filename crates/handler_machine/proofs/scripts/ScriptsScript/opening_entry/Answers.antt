use Rattle.std.proofs.Common.{◌≡◌, ◌<◌, length, arith, Some, slice_get, sym, subst}
use Rattle.session_values.specs.Opening.{entries_of}
use Rattle.session_values.proofs.Filling.{entries_length}
use Rattle.handler_check.specs.Resolved.{shape_of}
use Rattle.handler_machine.specs.Scripts.{ScriptsView, meaning}
use Rattle.handler_machine.proofs.scripts.ScriptsScript.opening_entry.Goals as goal

pub entry-requires-clause-table : goal.entry-requires-clause-table
entry-requires-clause-table c =
    let s : ScriptsView = record { program = c.self.inside.program.now; opening = c.self.inside.opening.now; requests = c.self.inside.requests.now } in
    let below : c.args.table < length (shape_of s.program.file) = subst (λ (z : ScriptsView). c.args.table < length (meaning z).shape) (sym c.self.view_is) c.requires.table in
    omega (arith, below, entries_length (shape_of s.program.file) s.opening c.self.invariant.0.opening.entries)

pub entry-requires-clause-entry : goal.entry-requires-clause-entry
entry-requires-clause-entry c = subst (λ (z : ScriptsView). c.args.i < length (entries_of (meaning z).opened c.args.table)) (sym c.self.view_is) c.requires.entry

pub returns : goal.returns
returns c = subst (λ (z : ScriptsView). slice_get (entries_of (meaning z).opened c.args.table) c.args.i ≡ Some c.entry.result) c.self.view_is c.entry.ensures
