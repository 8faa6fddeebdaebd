use Rattle.std.proofs.Common.{◌∙◌, refl, rules}
use Rattle.byte_ends.proofs.Paged.{closed_at, ended, paged_end, paged_flush, paged_none}
use Rattle.byte_ends.proofs.page_writer.write_text.Goals as goal

pub returns : goal.returns
returns g c =
    let over = c.over-writer.ensures in
    let due = ended c.put_text.ensures (refl, paged_none over.page over.sound) in
    let paged = paged_end _ (paged_flush _ _ due.1 c.flush.ensures.put) in
    let name = c.flush.ensures.name ∙ due.0 ∙ over.name in
    let closed = closed_at g.O.Sink.held g.O.Sink.faults _ _ c.flush.new.self.out.now _ over.out (search rules) paged in
    record { all = closed.all; faults = closed.faults; front = closed.front }
