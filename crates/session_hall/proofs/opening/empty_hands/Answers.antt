use Rattle.std.proofs.Common.{arith, subst}
use Rattle.session_hall.specs.Openings.{AreEmpty}
use Rattle.session_hall.proofs.Opened.{no_hands, hands_more}
use Rattle.session_hall.proofs.opening.empty_hands.Goals as goal

pub loop-made-init : goal.loop-made-init
loop-made-init g c = record {
  empty = no_hands g.row.S.Denot c.in_ok-list.list.items c.in_ok-list.ensures.items;
  long = c.in_ok-list.ensures.len;
  room = c.in_ok-list.ensures.capacity;
}

pub loop-made-preserved : goal.loop-made-preserved
loop-made-preserved g c =
    let inv = c.loop-made.invariant in
    record {
      empty = hands_more c.loop-made.made c.loop-made.list.items c.push_reserved.new.self.items c.in-Ok.hands inv.empty c.in-Ok.ensures c.push_reserved.ensures.items;
      long = omega (arith, inv.long, c.push_reserved.ensures.len);
      room = omega (arith, inv.room, c.push_reserved.ensures.capacity);
    }

pub returns : goal.returns
returns g c =
    let inv = c.loop-made.invariant in
    let test = c.loop-made-test.false in
    let near = c.loop-made.auto in
    subst (λ n. AreEmpty n c.loop-made.list.items) (omega arith) inv.empty
