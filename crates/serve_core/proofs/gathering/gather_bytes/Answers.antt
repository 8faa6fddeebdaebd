use Rattle.std.proofs.Common.{None, refl, subst, sym}
use Rattle.serve_words.specs.declared.command.Command.TheVariants.{Clients}
use Rattle.serve_faults.specs.declared.status.Status.{Status}
use Rattle.byte_ends.specs.Changes.{change}
use Rattle.serve_core.specs.declared.outcome.Outcome.{Outcome}
use Rattle.serve_core.specs.Runs.{AnswersTo}
use Rattle.serve_core.proofs.EndLemmas.{reason_to}
use Rattle.serve_core.proofs.GatherLemmas.{can_gather, gathered_to}
use Rattle.serve_core.proofs.gathering.gather_bytes.Goals as goal

pub gather_loaded-requires-clause-can : goal.gather_loaded-requires-clause-can
gather_loaded-requires-clause-can g c κs within = can_gather c.args.bytes.now c.in-Ok.loaded c.in-Ok.ensures.loaded

pub returns-in-Ok : goal.returns-in-Ok
returns-in-Ok g c =
    gathered_to c.args.sizes.callers c.args.sizes.shards c.args.bytes.now (change g.O.Sink.held g.O.Sink.faults c.args.out.now c.gather_loaded.new.out) c.in-Ok.loaded (c.in-Ok.ensures.input c.args.sizes.callers c.args.sizes.shards) c.in-Ok.ensures.loaded c.gather_loaded.result.status c.gather_loaded.result.closed c.gather_loaded.ensures

pub returns-in-Err : goal.returns-in-Err
returns-in-Err g c =
    let out = change g.O.Sink.held g.O.Sink.faults c.args.out.now c.args.out.now in
    subst (λ (o : Outcome). AnswersTo (Clients c.args.sizes.callers c.args.sizes.shards) c.args.bytes.now out o.status o.closed) (sym c.unserved.ensures)
    (subst (λ (s : Status). AnswersTo (Clients c.args.sizes.callers c.args.sizes.shards) c.args.bytes.now out s None) (sym c.ended.ensures)
    (reason_to (Clients c.args.sizes.callers c.args.sizes.shards) c.args.bytes.now out refl c.in-Err.e (c.in-Err.ensures.refused c.args.sizes.callers c.args.sizes.shards)))
