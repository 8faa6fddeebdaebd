use Rattle.std.proofs.Common.{refl, subst, sym}
use Rattle.serve_faults.specs.Command.TheVariants.{Ranges}
use Rattle.serve_faults.specs.declared.status.Status.{Status}
use Rattle.byte_ends.specs.Changes.{change}
use Rattle.serve_single.specs.Runs.{AnswersSingle}
use Rattle.serve_single.proofs.EndLemmas.{unranged_to}
use Rattle.serve_single.proofs.ranging.range_input.Goals as goal

pub returns : goal.returns
returns g c =
    let out = change g.O.Sink.held g.O.Sink.faults c.args.out.now c.args.out.now in
    subst (λ (s : Status). AnswersSingle Ranges c.args.bytes.now out s) (sym c.ended.ensures)
    (unranged_to c.args.bytes.now out c.in-Err.e refl c.in-Err.ensures.refused)
