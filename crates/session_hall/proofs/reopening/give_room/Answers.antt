use Rattle.std.proofs.Common.{ℕ, ◌<◌, ◌/◌, List, length, refl, subst, arith}
use Rattle.std.specs.Prelude.{slice_index}
use Rattle.std.proofs.lemmas.Option.{slice_get_within}
use Rattle.shard_tables.specs.declared.part.Part.{Part}
use Rattle.shard_tables.specs.Either.{shard_view}
use Rattle.session_hall.specs.Reopenings.{IsRoomFor}
use Rattle.session_hall.proofs.Reopened.{at_place, few_keys, kept_first, kept_more, rest_more, room_more}
use Rattle.session_hall.proofs.reopening.give_room.Goals as goal

pub loop-place-init : goal.loop-place-init
loop-place-init g c = record {
  many = refl;
  kept = kept_first c.args.parts.now.items;
  fits = λ j x q near e f. absurd (omega (arith, near));
  rest = λ j far. refl;
}

pub fit-requires : goal.fit-requires
fit-requires g c =
    let inv = c.loop-place.invariant in
    let test = c.loop-place-test.true in
    let ps : List Part = c.loop-place.parts.items in
    let long = c.loop-place.parts.ok in
    let low : c.loop-place.place < length ps = omega (arith, inv.many, test, long.0) in
    let at = at_place c.args.parts.now.items ps c.loop-place.place c.index_mut.result.now low c.index_mut.ensures.value inv.rest in
    let few = few_keys (g.S.Tickets.meaning c.args.tickets.now) c.args.shards c.args.parts.now.items c.loop-place.place c.index_mut.result.now c.requires.script c.requires.opening c.requires.some at.1 in
    omega (arith, few, c.room-adds.ensures)

pub returns-in_err-fit-clause-kept : goal.returns-in_err-fit-clause-kept
returns-in_err-fit-clause-kept g c =
    let inv = c.loop-place.invariant in
    let test = c.loop-place-test.true in
    let ps : List Part = c.loop-place.parts.items in
    let long = c.loop-place.parts.ok in
    let low : c.loop-place.place < length ps = omega (arith, inv.many, test, long.0) in
    let at = at_place c.args.parts.now.items ps c.loop-place.place c.index_mut.result.now low c.index_mut.ensures.value inv.rest in
    kept_more c.args.parts.now.items ps c.loop-place.place c.index_mut.result.now c.fit.new.part low at.0 c.fit.ensures.container c.fit.ensures.more inv.kept

pub loop-place-preserved : goal.loop-place-preserved
loop-place-preserved g c =
    let inv = c.loop-place.invariant in
    let test = c.loop-place-test.true in
    let ps : List Part = c.loop-place.parts.items in
    let old : List Part = c.args.parts.now.items in
    let long = c.loop-place.parts.ok in
    let low : c.loop-place.place < length ps = omega (arith, inv.many, test, long.0) in
    let at = at_place old ps c.loop-place.place c.index_mut.result.now low c.index_mut.ensures.value inv.rest in
    let fits = subst (λ (a : ℕ). IsRoomFor a (slice_index c.args.later.now (c.loop-place.place / c.args.shards)) (shard_view c.index_mut.result.now) (shard_view c.fit.new.part).room) c.room-adds.ensures c.in_ok-fit.ensures.room in
    record {
      many = inv.many;
      kept = kept_more old ps c.loop-place.place c.index_mut.result.now c.fit.new.part low at.0 c.fit.ensures.container c.fit.ensures.more inv.kept;
      fits = room_more old ps c.loop-place.place c.index_mut.result.now c.fit.new.part low at.0 (g.S.Tickets.meaning c.args.tickets.now) c.args.later.now c.args.shards at.1 fits inv.fits;
      rest = rest_more old ps c.loop-place.place c.index_mut.result.now c.fit.new.part low at.0 inv.rest;
    }

pub returns-clause-room : goal.returns-clause-room
returns-clause-room g c = λ j p q e f.
    let inv = c.loop-place.invariant in
    let test = c.loop-place-test.false in
    let long = c.args.parts.now.ok in
    let low : j < length c.args.parts.now.items = slice_get_within c.args.parts.now.items j q f in
    inv.fits j p q (omega (arith, test, long.0, low)) e f
