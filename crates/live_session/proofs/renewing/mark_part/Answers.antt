use Rattle.std.proofs.Common.{Bool, List, ap, sym, ◌∙◌}
use Rattle.session_values.specs.Opening.{Pair}
use Rattle.shard_tables.specs.Either.{entries_in}
use Rattle.live_session.specs.Moving.{marked}
use Rattle.live_session.proofs.Kept.{by_more}
use Rattle.live_session.proofs.renewing.mark_part.Goals as goal

pub loop-i-preserved : goal.loop-i-preserved
loop-i-preserved c =
    let e : Pair = c.entry-key.result in
    c.mark-in-loop-i.ensures
    ∙ ap (λ (fs : List Bool). marked fs e.1) (c.mark.ensures ∙ ap (λ (fs : List Bool). marked fs e.0) c.loop-i.invariant)
    ∙ sym (by_more c.args.flags.now.items (entries_in c.args.part.now) c.loop-i.i e c.entry-key.ensures)
