use Rattle.std.proofs.Common.{◌≡◌, ◌<◌, List, length, map, set, sym, ap, ◌∙◌, subst}
use Rattle.session_values.specs.Tables.{Fits, Tables, kind_of}
use Rattle.session_values.specs.declared.op.Op.{Op}
use Rattle.shard_tables.specs.declared.part.Part.{Part}
use Rattle.live_session.specs.declared.tables.LiveTables.{LiveTables}
use Rattle.live_session.specs.Held.{HasRoom, factors_in, held}
use Rattle.live_session.proofs.DrivenActs.{factors_by, reply_at, reply_by, room_made, step_at, still_at, tables_by}
use Rattle.live_session.proofs.Room.{factors_same, held_same}
use Rattle.live_session.proofs.Whole.{exists}
use Rattle.live_session.proofs.driving.perform_with_room.Goals as goal

pub answer-requires : goal.answer-requires
answer-requires c =
    let ps : List Part = c.args.tables.now.parts.items in
    let at : c.op.inside.table ≡ c.args.op.table = ap (λ (o : Op). o.table) c.op.view_is in
    let low : c.op.inside.table < length ps = exists ps c.op.inside.table c.args.op at c.requires.table in
    let same : held (set ps c.op.inside.table c.make_room.new.part) ≡ held ps = held_same ps c.op.inside.table c.index_mut.result.now c.make_room.new.part low c.index_mut.ensures.value c.make_room.ensures.same in
    subst (λ (ts : Tables). Fits (map kind_of ts) c.args.op) (sym same) (record { table = c.requires.table; key = c.requires.key; value = c.requires.value })

pub returns-clause-reply : goal.returns-clause-reply
returns-clause-reply c =
    let ps : List Part = c.args.tables.now.parts.items in
    let at : c.op.inside.table ≡ c.args.op.table = ap (λ (o : Op). o.table) c.op.view_is in
    let low : c.op.inside.table < length ps = exists ps c.op.inside.table c.args.op at c.requires.table in
    let same : held (set ps c.op.inside.table c.make_room.new.part) ≡ held ps = held_same ps c.op.inside.table c.index_mut.result.now c.make_room.new.part low c.index_mut.ensures.value c.make_room.ensures.same in
    let now : List Part = set ps c.op.inside.table c.make_room.new.part in
    let room : HasRoom (set ps c.op.inside.table c.make_room.new.part) c.args.op = room_made ps c.op.inside.table c.args.op c.index_mut.result.now c.make_room.new.part at low c.make_room.ensures.same c.in_ok-make_room.ensures.room in
    reply_at c.answer.result (held now) (held ps) c.args.op same (reply_by _ c.answer.result now c.answer.new.self.parts.items c.args.op room c.answer.ensures.step)

pub returns-clause-done : goal.returns-clause-done
returns-clause-done c =
    let ps : List Part = c.args.tables.now.parts.items in
    let at : c.op.inside.table ≡ c.args.op.table = ap (λ (o : Op). o.table) c.op.view_is in
    let low : c.op.inside.table < length ps = exists ps c.op.inside.table c.args.op at c.requires.table in
    let same : held (set ps c.op.inside.table c.make_room.new.part) ≡ held ps = held_same ps c.op.inside.table c.index_mut.result.now c.make_room.new.part low c.index_mut.ensures.value c.make_room.ensures.same in
    let now : List Part = set ps c.op.inside.table c.make_room.new.part in
    let room : HasRoom (set ps c.op.inside.table c.make_room.new.part) c.args.op = room_made ps c.op.inside.table c.args.op c.index_mut.result.now c.make_room.new.part at low c.make_room.ensures.same c.in_ok-make_room.ensures.room in
    step_at c.answer.result (held now) (held ps) (held c.answer.new.self.parts.items) c.args.op same (tables_by _ c.answer.result now c.answer.new.self.parts.items c.args.op room c.answer.ensures.step)

pub returns-in_err-make_room-clause-err : goal.returns-in_err-make_room-clause-err
returns-in_err-make_room-clause-err c =
    let ps : List Part = c.args.tables.now.parts.items in
    let at : c.op.inside.table ≡ c.args.op.table = ap (λ (o : Op). o.table) c.op.view_is in
    let low : c.op.inside.table < length ps = exists ps c.op.inside.table c.args.op at c.requires.table in
    let same : held (set ps c.op.inside.table c.make_room.new.part) ≡ held ps = held_same ps c.op.inside.table c.index_mut.result.now c.make_room.new.part low c.index_mut.ensures.value c.make_room.ensures.same in
    still_at c.from_residual.result (held (set ps c.op.inside.table c.make_room.new.part)) (held ps) same

pub returns-clause-factors : goal.returns-clause-factors
returns-clause-factors c =
    let ps : List Part = c.args.tables.now.parts.items in
    let at : c.op.inside.table ≡ c.args.op.table = ap (λ (o : Op). o.table) c.op.view_is in
    let low : c.op.inside.table < length ps = exists ps c.op.inside.table c.args.op at c.requires.table in
    let now : List Part = set ps c.op.inside.table c.make_room.new.part in
    let same : factors_in now ≡ factors_in ps = factors_same ps c.op.inside.table c.index_mut.result.now c.make_room.new.part low c.index_mut.ensures.value c.make_room.ensures.factor in
    factors_by _ c.answer.result now c.answer.new.self.parts.items c.args.op c.answer.ensures.step (λ h. ap (λ (t : LiveTables). factors_in t.parts.items) h.0) ∙ same

pub returns-in_err-make_room-clause-factors : goal.returns-in_err-make_room-clause-factors
returns-in_err-make_room-clause-factors c =
    let ps : List Part = c.args.tables.now.parts.items in
    let at : c.op.inside.table ≡ c.args.op.table = ap (λ (o : Op). o.table) c.op.view_is in
    let low : c.op.inside.table < length ps = exists ps c.op.inside.table c.args.op at c.requires.table in
    factors_same ps c.op.inside.table c.index_mut.result.now c.make_room.new.part low c.index_mut.ensures.value c.make_room.ensures.factor
