use Rattle.std.proofs.Common.{◌<◌, List, length, ◌∙◌, arith}
use Rattle.shard_tables.specs.declared.part.Part.{Part}
use Rattle.live_session.specs.Held.{adds_in}
use Rattle.live_session.proofs.Room.{factors_same, held_long, held_same, room_more}
use Rattle.live_session.proofs.growing.make_room_for.Goals as goal

pub returns-in_err-make_room-clause-same : goal.returns-in_err-make_room-clause-same
returns-in_err-make_room-clause-same c =
    let ps : List Part = c.loop-t.parts.items in
    let low : c.loop-t.t < length ps = let long = held_long c.args.parts.now.items ps c.loop-t.invariant.same in omega (arith, c.loop-t-test.true, long) in
    held_same ps c.loop-t.t c.index_mut.result.now c.make_room.new.part low c.index_mut.ensures.value c.make_room.ensures.same ∙ c.loop-t.invariant.same

pub returns-in_err-make_room-clause-factors : goal.returns-in_err-make_room-clause-factors
returns-in_err-make_room-clause-factors c =
    let ps : List Part = c.loop-t.parts.items in
    let low : c.loop-t.t < length ps = let long = held_long c.args.parts.now.items ps c.loop-t.invariant.same in omega (arith, c.loop-t-test.true, long) in
    factors_same ps c.loop-t.t c.index_mut.result.now c.make_room.new.part low c.index_mut.ensures.value c.make_room.ensures.factor ∙ c.loop-t.invariant.factors

pub loop-t-preserved : goal.loop-t-preserved
loop-t-preserved c =
    let ps : List Part = c.loop-t.parts.items in
    let low : c.loop-t.t < length ps = let long = held_long c.args.parts.now.items ps c.loop-t.invariant.same in omega (arith, c.loop-t-test.true, long) in
    let same = c.make_room.ensures.same in
    record {
      same = held_same ps c.loop-t.t c.index_mut.result.now c.make_room.new.part low c.index_mut.ensures.value same ∙ c.loop-t.invariant.same;
      factors = factors_same ps c.loop-t.t c.index_mut.result.now c.make_room.new.part low c.index_mut.ensures.value c.make_room.ensures.factor ∙ c.loop-t.invariant.factors;
      room = room_more (λ t. adds_in c.args.adds.now t c.args.h) ps c.loop-t.t c.index_mut.result.now c.make_room.new.part low c.index_mut.ensures.value same c.in_ok-make_room.ensures.room c.loop-t.invariant.room;
    }
