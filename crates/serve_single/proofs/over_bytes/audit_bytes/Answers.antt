use Rattle.std.proofs.Common.{refl}
use Rattle.byte_ends.specs.Changes.{change}
use Rattle.serve_single.proofs.TopLemmas.{audited_over, unaudited_over}
use Rattle.serve_single.proofs.over_bytes.audit_bytes.Goals as goal

pub returns-then-bytes-gt-MAX_AUDIT_INPUT : goal.returns-then-bytes-gt-MAX_AUDIT_INPUT
returns-then-bytes-gt-MAX_AUDIT_INPUT g c = unaudited_over c.args.bytes.now (change g.O.Sink.held g.O.Sink.faults c.args.out.now c.args.out.now) c.if-bytes-gt-MAX_AUDIT_INPUT.true refl

pub returns : goal.returns
returns g c = audited_over c.args.bytes.now (change g.O.Sink.held g.O.Sink.faults c.args.out.now c.audit_input.new.out) c.audit_input.result c.audit_input.ensures
