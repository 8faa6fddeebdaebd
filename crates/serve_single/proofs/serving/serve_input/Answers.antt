use Rattle.std.proofs.Common.{refl}
use Rattle.byte_ends.specs.Changes.{change}
use Rattle.serve_faults.specs.Input.{parts_of}
use Rattle.serve_single.proofs.FileLemmas.{can_serve}
use Rattle.serve_single.proofs.Asked.{loaded_alone, unloaded_alone}
use Rattle.serve_single.proofs.serving.serve_input.Goals as goal

pub serve_loaded-requires : goal.serve_loaded-requires
serve_loaded-requires g c = can_serve (parts_of c.args.bytes.now) c.in-Ok.loaded c.in-Ok.ensures.loaded

pub returns-in-Ok : goal.returns-in-Ok
returns-in-Ok g c = λ callers shards.
    loaded_alone callers shards c.args.bytes.now (change g.O.Sink.held g.O.Sink.faults c.args.out.now c.serve_loaded.new.out) c.args.tables c.in-Ok.loaded c.serve_loaded.result c.in-Ok.ensures.input c.in-Ok.ensures.loaded c.serve_loaded.ensures

pub returns-in-Err : goal.returns-in-Err
returns-in-Err g c = λ callers shards.
    unloaded_alone callers shards c.args.bytes.now (change g.O.Sink.held g.O.Sink.faults c.args.out.now c.args.out.now) c.args.tables c.in-Err.e c.ended.result c.ended.ensures c.in-Err.ensures.refused refl
