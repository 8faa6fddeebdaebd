use Rattle.std.proofs.Common.{arith}
use Rattle.session_hall.proofs.Opened.{parts_more}
use Rattle.session_hall.proofs.filling.new_parts.Goals as goal

pub loop-place-preserved : goal.loop-place-preserved
loop-place-preserved g c =
    let inv = c.loop-place.invariant in
    record {
      parts = parts_more (g.S.Script.meaning c.args.script.now) c.args.shards c.loop-place.place c.loop-place.values.items c.push_reserved.new.self.items c.in_ok-part.part inv.parts c.in_ok-part.ensures c.push_reserved.ensures.items;
      long = omega (arith, inv.long, c.push_reserved.ensures.len);
      room = omega (arith, inv.room, c.push_reserved.ensures.capacity);
    }
