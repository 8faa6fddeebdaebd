use Rattle.std.proofs.Common.{refl}
use Rattle.byte_ends.specs.Changes.{change}
use Rattle.serve_single.proofs.TopLemmas.{served_over, unserved_over}
use Rattle.serve_single.proofs.over_bytes.serve_bytes.Goals as goal

pub returns-then-bytes-gt-MAX_INPUT : goal.returns-then-bytes-gt-MAX_INPUT
returns-then-bytes-gt-MAX_INPUT g c = λ callers shards. unserved_over c.args.bytes.now (change g.O.Sink.held g.O.Sink.faults c.args.out.now c.args.out.now) callers shards c.args.tables c.if-bytes-gt-MAX_INPUT.true refl

pub returns : goal.returns
returns g c = λ callers shards. served_over c.args.bytes.now (change g.O.Sink.held g.O.Sink.faults c.args.out.now c.serve_input.new.out) callers shards c.args.tables c.serve_input.result (c.serve_input.ensures callers shards)
