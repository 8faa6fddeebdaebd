use Rattle.std.proofs.Common.{refl, subst, sym}
use Rattle.serve_faults.specs.Command.TheVariants.{Audit}
use Rattle.serve_faults.specs.declared.status.Status.{Status}
use Rattle.byte_ends.specs.Changes.{change}
use Rattle.serve_single.specs.Runs.{AnswersSingle}
use Rattle.serve_single.proofs.AuditLemmas.{can_judge, judged_to}
use Rattle.serve_single.proofs.EndLemmas.{unaudited_to}
use Rattle.serve_single.proofs.auditing.audit_input.Goals as goal

pub audit_loaded-requires : goal.audit_loaded-requires
audit_loaded-requires g c = can_judge c.args.bytes.now c.in-Ok.audited c.in-Ok.ensures.loaded

pub returns-in-Ok : goal.returns-in-Ok
returns-in-Ok g c =
    judged_to c.args.bytes.now (change g.O.Sink.held g.O.Sink.faults c.args.out.now c.audit_loaded.new.out) c.in-Ok.audited c.audit_loaded.result c.in-Ok.ensures.input c.in-Ok.ensures.loaded c.audit_loaded.ensures

pub returns-in-Err : goal.returns-in-Err
returns-in-Err g c =
    let out = change g.O.Sink.held g.O.Sink.faults c.args.out.now c.args.out.now in
    subst (λ (s : Status). AnswersSingle Audit c.args.bytes.now out s) (sym c.ended.ensures)
    (unaudited_to c.args.bytes.now out c.in-Err.e refl c.in-Err.ensures.refused)
