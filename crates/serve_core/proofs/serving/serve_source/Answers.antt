use Rattle.std.proofs.Common.{◌≡◌, Some, refl, rules, subst, sym, List, ℕ}
use Rattle.session_values.specs.Limits.{max_input}
use Rattle.byte_ends.specs.Changes.{change}
use Rattle.serve_faults.specs.Ways.{HasRead}
use Rattle.serve_core.specs.declared.asked.Writes.{Writes}
use Rattle.serve_core.specs.declared.asked.Writes.TheVariants.{ClientReplies, Events, Replies, Tables}
use Rattle.serve_core.specs.declared.outcome.Outcome.{Outcome}
use Rattle.serve_core.specs.Commands.{command_for}
use Rattle.serve_core.specs.Runs.{Runs}
use Rattle.serve_core.proofs.SessionEnds.{dump_answers, serve_answers, trace_answers}
use Rattle.serve_core.proofs.TopLemmas.{served_run, unserved_run}
use Rattle.serve_core.proofs.serving.serve_source.Goals as goal

pub returns-in-Err : goal.returns-in-Err
returns-in-Err g c =
    let source = change g.I.Source.left g.I.Source.faults c.args.source.now c.read_at_most.new.source in
    let out = change g.O.Sink.held g.O.Sink.faults c.args.out.now c.args.out.now in
    let sizes = c.args.sizes in
    subst (λ (o : Outcome). Runs (Some (command_for c.args.writes sizes.callers sizes.shards)) source out o.status o.closed) (sym c.unserved.ensures)
    (unserved_run source out c.args.writes sizes.callers sizes.shards c.in-Err.status c.in-Err.ensures.stopped refl)

pub returns-in-Replies : goal.returns-in-Replies
returns-in-Replies g c =
    let source = change g.I.Source.left g.I.Source.faults c.args.source.now c.read_at_most.new.source in
    let out = change g.O.Sink.held g.O.Sink.faults c.args.out.now c.serve_bytes.new.out in
    let sizes = c.args.sizes in
    let is : c.args.writes ≡ Replies = search rules in
    let read = subst (λ (b : List ℕ). HasRead max_input source b) (search rules) c.in-Ok.ensures.read in
    let bytes = c.as_slice-bytes.result.now in
    let r = c.serve_bytes.result in
    subst (λ (w : Writes). Runs (Some (command_for w sizes.callers sizes.shards)) source out r.status r.closed) (sym is)
    (served_run source out Replies sizes.callers sizes.shards bytes r.status r.closed read (serve_answers sizes.callers sizes.shards bytes out r.status r.closed c.serve_bytes.ensures))

pub returns-in-Tables : goal.returns-in-Tables
returns-in-Tables g c =
    let source = change g.I.Source.left g.I.Source.faults c.args.source.now c.read_at_most.new.source in
    let out = change g.O.Sink.held g.O.Sink.faults c.args.out.now c.serve_bytes-in-Tables.new.out in
    let sizes = c.args.sizes in
    let is : c.args.writes ≡ Tables = search rules in
    let read = subst (λ (b : List ℕ). HasRead max_input source b) (search rules) c.in-Ok.ensures.read in
    let bytes = c.as_slice-bytes.result.now in
    let r = c.serve_bytes-in-Tables.result in
    subst (λ (w : Writes). Runs (Some (command_for w sizes.callers sizes.shards)) source out r.status r.closed) (sym is)
    (served_run source out Tables sizes.callers sizes.shards bytes r.status r.closed read (dump_answers sizes.callers sizes.shards bytes out r.status r.closed c.serve_bytes-in-Tables.ensures))

pub returns-in-Events : goal.returns-in-Events
returns-in-Events g c =
    let source = change g.I.Source.left g.I.Source.faults c.args.source.now c.read_at_most.new.source in
    let out = change g.O.Sink.held g.O.Sink.faults c.args.out.now c.serve_bytes-in-Events.new.out in
    let sizes = c.args.sizes in
    let is : c.args.writes ≡ Events = search rules in
    let read = subst (λ (b : List ℕ). HasRead max_input source b) (search rules) c.in-Ok.ensures.read in
    let bytes = c.as_slice-bytes.result.now in
    let r = c.serve_bytes-in-Events.result in
    subst (λ (w : Writes). Runs (Some (command_for w sizes.callers sizes.shards)) source out r.status r.closed) (sym is)
    (served_run source out Events sizes.callers sizes.shards bytes r.status r.closed read (trace_answers sizes.callers sizes.shards bytes out sizes.callers_fit.1 r.status r.closed c.serve_bytes-in-Events.ensures))

pub returns : goal.returns
returns g c =
    let source = change g.I.Source.left g.I.Source.faults c.args.source.now c.read_at_most.new.source in
    let out = change g.O.Sink.held g.O.Sink.faults c.args.out.now c.gather_bytes.new.out in
    let sizes = c.args.sizes in
    let is : c.args.writes ≡ ClientReplies = search rules in
    let read = subst (λ (b : List ℕ). HasRead max_input source b) (search rules) c.in-Ok.ensures.read in
    let r = c.gather_bytes.result in
    subst (λ (w : Writes). Runs (Some (command_for w sizes.callers sizes.shards)) source out r.status r.closed) (sym is)
    (served_run source out ClientReplies sizes.callers sizes.shards c.as_slice-bytes.result.now r.status r.closed read c.gather_bytes.ensures)
