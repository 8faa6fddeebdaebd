use Rattle.std.proofs.Common.{◌∙◌, ap}
use Rattle.byte_ends.specs.Changes.{change}
use Rattle.foresight_waits.specs.Endings.{line_of}
use Rattle.foresight_waits.proofs.EndLemmas.{told_line}
use Rattle.foresight_waits.proofs.ending.tell.Goals as goal

pub returns : goal.returns
returns g c =
    let w = c.write_all-told in
    let is = c.as_bytes.ensures.value ∙ c.as_str.ensures.value ∙ c.line_of.ensures in
    let err = change g.E.Sink.held g.E.Sink.faults c.args.err.now w.new.out in
    record {
      line = told_line err c.as_bytes.result.now (line_of c.args.status.now) is w.result w.ensures.faults w.ensures.all w.ensures.front;
      quiet = λ fine. (w.ensures.nothing (is ∙ ap line_of fine)).1;
    }
