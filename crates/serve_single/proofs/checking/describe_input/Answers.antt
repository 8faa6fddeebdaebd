use Rattle.std.proofs.Common.{refl, subst, sym}
use Rattle.serve_faults.specs.declared.status.Status.{Status}
use Rattle.byte_ends.specs.Changes.{change}
use Rattle.serve_faults.specs.Ways.{describing}
use Rattle.serve_reading.specs.Described.{text_of}
use Rattle.serve_single.specs.Runs.{AnswersSingle}
use Rattle.serve_single.proofs.EndLemmas.{described_to, undescribed_to}
use Rattle.serve_single.proofs.checking.describe_input.Goals as goal

pub returns-in-Ok : goal.returns-in-Ok
returns-in-Ok g c =
    described_to c.args.shown c.args.bytes.items (change g.O.Sink.held g.O.Sink.faults c.args.out.now c.write_description.new.out) (text_of c.in-Ok.description) c.write_description.result
    c.in-Ok.ensures.input c.in-Ok.ensures.text c.write_description.ensures

pub returns-in-Err : goal.returns-in-Err
returns-in-Err g c =
    let out = change g.O.Sink.held g.O.Sink.faults c.args.out.now c.args.out.now in
    subst (λ (s : Status). AnswersSingle (describing c.args.shown) c.args.bytes.items out s) (sym c.ended.ensures)
    (undescribed_to c.args.shown c.args.bytes.items out c.in-Err.e refl c.in-Err.ensures.refused)
