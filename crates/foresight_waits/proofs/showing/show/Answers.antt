use Rattle.std.proofs.Common.{List, ℕ, subst}
use Rattle.byte_ends.specs.Changes.{change}
use Rattle.foresight_waits.specs.Endings.{Writes}
use Rattle.foresight_waits.proofs.ShowLemmas.{shows_text}
use Rattle.foresight_waits.proofs.showing.show.Goals as goal

pub returns-in-Ok : goal.returns-in-Ok
returns-in-Ok g c =
    let out = change g.O.Sink.held g.O.Sink.faults c.args.out.now c.written.new.out in
    shows_text c.args.subject c.args.form c.args.input.now out c.in-Ok.text.items c.written.result c.in-Ok.ensures.told
    (subst (λ (t : List ℕ). Writes t out c.written.result) c.deref.ensures.value c.written.ensures)
