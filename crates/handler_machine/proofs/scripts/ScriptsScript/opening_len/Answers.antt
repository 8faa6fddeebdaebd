use Rattle.std.proofs.Common.{◌≡◌, ◌<◌, length, arith, sym, subst}
use Rattle.session_values.specs.Opening.{entries_of}
use Rattle.session_values.proofs.Filling.{entries_length}
use Rattle.handler_check.specs.Resolved.{shape_of}
use Rattle.handler_machine.specs.Scripts.{ScriptsView, meaning}
use Rattle.handler_machine.proofs.scripts.ScriptsScript.opening_len.Goals as goal

pub len-requires : goal.len-requires
len-requires c =
    let s : ScriptsView = record { program = c.self.inside.program.now; opening = c.self.inside.opening.now; requests = c.self.inside.requests.now } in
    let below : c.args.table < length (shape_of s.program.file) = subst (λ (z : ScriptsView). c.args.table < length (meaning z).shape) (sym c.self.view_is) c.requires in
    omega (arith, below, entries_length (shape_of s.program.file) s.opening c.self.invariant.0.opening.entries)

pub returns : goal.returns
returns c = subst (λ (z : ScriptsView). c.len.result ≡ length (entries_of (meaning z).opened c.args.table)) c.self.view_is c.len.ensures
