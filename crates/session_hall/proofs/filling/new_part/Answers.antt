use Rattle.std.proofs.Common.{◌/◌, ◌%◌, arith}
use Rattle.std.proofs.lemmas.Option.{slice_get_within}
use Rattle.session_hall.proofs.Filled.{room_few}
use Rattle.session_hall.proofs.filling.new_part.Goals as goal

pub overflow_add-room : goal.overflow_add-room
overflow_add-room g c =
    let few = room_few (g.S.Script.meaning c.args.script.now) (c.args.place / c.args.shards) c.args.shards (c.args.place % c.args.shards) c.requires.script in
    omega (arith, few, c.room.ensures, c.count_entries.ensures)

pub with_room-requires : goal.with_room-requires
with_room-requires g c =
    let few = room_few (g.S.Script.meaning c.args.script.now) (c.args.place / c.args.shards) c.args.shards (c.args.place % c.args.shards) c.requires.script in
    omega (arith, few, c.room.ensures, c.count_entries.ensures)

pub fill-requires-clause-table : goal.fill-requires-clause-table
fill-requires-clause-table g c = slice_get_within (g.S.Script.meaning c.args.script.now).shape (c.args.place / c.args.shards) c.args.kind c.requires.kind
