use Rattle.std.proofs.Common.{◌≡◌, rules, subst}
use Rattle.std.specs.Prelude.{IfOk}
use Rattle.serve_faults.specs.Input.{Parts}
use Rattle.serve_reading.specs.Sessions.{AreHandlersFirst, IsLoaded}
use Rattle.serve_reading.proofs.Inputs.{parts_same}
use Rattle.serve_reading.proofs.session.load_session.Goals as goal

pub returns-clause-loaded : goal.returns-clause-loaded
returns-clause-loaded c =
    let same : c.in-Ok.text.now ≡ c.args.bytes.now = search rules in
    subst (λ (p : Parts). IfOk c.read_session.result (IsLoaded p)) (parts_same c.in-Ok.text.now c.args.bytes.now c.in-Some.parts.handlers.now c.in-Some.parts.tables.now c.in-Some.parts.requests.now c.in-Some.parts.first_table c.in-Some.parts.first c.in-Some.ensures same) c.read_session.ensures.loaded

pub returns-clause-first : goal.returns-clause-first
returns-clause-first c =
    let same : c.in-Ok.text.now ≡ c.args.bytes.now = search rules in
    subst (λ (p : Parts). IfOk c.read_session.result (AreHandlersFirst p)) (parts_same c.in-Ok.text.now c.args.bytes.now c.in-Some.parts.handlers.now c.in-Some.parts.tables.now c.in-Some.parts.requests.now c.in-Some.parts.first_table c.in-Some.parts.first c.in-Some.ensures same) c.read_session.ensures.first
