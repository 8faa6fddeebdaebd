use Rattle.std.proofs.Common.{◌≡◌, List, map, rules, refl, sym, ap, ◌∙◌, subst}
use Rattle.session_values.specs.declared.op.Op.{Op}
use Rattle.session_values.specs.Kinds.{is_adding}
use Rattle.session_values.specs.Tables.{kind_of}
use Rattle.shard_tables.specs.Shards.{HasRoomFor, ShardView}
use Rattle.shard_tables.specs.declared.part.Part.{Part}
use Rattle.shard_tables.specs.Either.{shard_view}
use Rattle.live_session.specs.Held.{held}
use Rattle.live_session.proofs.Room.{factors_same}
use Rattle.live_session.proofs.Whole.{exists, kind_kept, kinds_step, reply_kept, room_by, rooms_same, same_item, written_step}
use Rattle.live_session.proofs.tables.LiveTablesAnswerer.answer.Goals as goal

pub apply-reply-requires-clause-kind : goal.apply-reply-requires-clause-kind
apply-reply-requires-clause-kind c =
    let at : c.op.inside.table ≡ c.args.op.table = ap (λ (o : Op). o.table) c.op.view_is in
    kind_kept c.args.self.now.parts.items c.op.inside.table c.args.op at c.requires.table c.index_mut.result.now (sym c.index_mut.ensures.value)

pub apply-reply-requires-clause-room : goal.apply-reply-requires-clause-room
apply-reply-requires-clause-room c =
    let ps : List Part = c.args.self.now.parts.items in
    let at : c.op.inside.table ≡ c.args.op.table = ap (λ (o : Op). o.table) c.op.view_is in
    let kind : c.op.inside.kind ≡ c.args.op.kind = ap (λ (o : Op). o.kind) c.op.view_is in
    let same : c.index.result.now ≡ c.index_mut.result.now = same_item ps c.op.inside.table _ _ (exists ps c.op.inside.table c.args.op at c.requires.table) c.index.ensures c.index_mut.ensures.value in
    subst (λ (p : Part). HasRoomFor c.args.op (shard_view p)) same
    (λ adds absent. room_by (is_adding c.op.inside.kind) _ _ _ (sym c.has_room.ensures.room ∙ c.if-not-has_room.false) refl (ap is_adding kind ∙ adds))

pub returns-clause-step : goal.returns-clause-step
returns-clause-step c =
    let ps : List Part = c.args.self.now.parts.items in
    let at : c.op.inside.table ≡ c.args.op.table = ap (λ (o : Op). o.table) c.op.view_is in
    let is = sym c.index_mut.ensures.value in (
      λ _. (
        c.apply-reply.ensures.reply ∙ reply_kept ps c.op.inside.table c.args.op at c.requires.table c.index_mut.result.now is,
        written_step ps c.op.inside.table c.args.op at c.requires.table c.index_mut.result.now is c.apply-reply.new.self (ap (λ (s : ShardView). s.container) c.apply-reply.ensures.after),
      ),
      rooms_same ps c.op.inside.table c.index_mut.result.now c.apply-reply.new.self (exists ps c.op.inside.table c.args.op at c.requires.table) is (ap (λ (s : ShardView). s.room) c.apply-reply.ensures.after),
      factors_same ps c.op.inside.table c.index_mut.result.now c.apply-reply.new.self (exists ps c.op.inside.table c.args.op at c.requires.table) c.index_mut.ensures.value c.apply-reply.ensures.factor,
      search rules,
    )

pub returns-clause-stays : goal.returns-clause-stays
returns-clause-stays c =
    let ps : List Part = c.args.self.now.parts.items in
    let at : c.op.inside.table ≡ c.args.op.table = ap (λ (o : Op). o.table) c.op.view_is in
    let after = written_step ps c.op.inside.table c.args.op at c.requires.table c.index_mut.result.now (sym c.index_mut.ensures.value) c.apply-reply.new.self (ap (λ (s : ShardView). s.container) c.apply-reply.ensures.after) in
    record { same_shape = ap (map kind_of) after ∙ kinds_step (held ps) c.args.op; same_sure = refl }
