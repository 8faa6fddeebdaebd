use Rattle.std.proofs.Common.{◌*◌, ◌<◌, List, length, ap, subst, sym, arith}
use Rattle.shard_tables.specs.declared.part.Part.{Part}
use Rattle.session_hall.specs.Closings.{ClosedView}
use Rattle.session_hall.proofs.Listed.{shards_end}
use Rattle.session_hall.proofs.closed.Closed.shards_at.Goals as goal

pub slice_bounds-result-end : goal.slice_bounds-result-end
slice_bounds-result-end c =
    let low = subst (λ (d : ClosedView). c.args.table * d.shards < length d.parts) (sym c.self.view_is) c.requires in
    let end = shards_end c.self.invariant.0 _ c.self.invariant.1 c.args.table low in
    omega (arith, end, ap (λ (l : List Part). length l) c.as_slice-parts.ensures)
