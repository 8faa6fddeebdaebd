use Rattle.std.proofs.Common.{◌≡◌, false, sym, ap, ◌∙◌}
use Rattle.session_values.specs.Kinds.{is_adding}
use Rattle.session_values.specs.declared.op.Op.{Op}
use Rattle.live_session.specs.declared.tables.LiveTables.{LiveTables}
use Rattle.live_session.specs.Held.{factors_in}
use Rattle.live_session.proofs.DrivenActs.{factors_by, no_room_needed, reply_by, tables_by}
use Rattle.live_session.proofs.driving.perform.Goals as goal

pub answer-requires : goal.answer-requires
answer-requires c = record { table = c.requires.table; key = c.requires.key; value = c.requires.value }

pub returns-clause-reply : goal.returns-clause-reply
returns-clause-reply c =
    let none : is_adding c.args.op.kind ≡ false = ap (λ (o : Op). is_adding o.kind) (sym c.op.view_is) ∙ sym c.adds.ensures ∙ c.if-adds.false in
    reply_by _ c.answer.result c.args.tables.now.parts.items c.answer.new.self.parts.items c.args.op (no_room_needed c.args.tables.now.parts.items c.args.op none) c.answer.ensures.step

pub returns-clause-done : goal.returns-clause-done
returns-clause-done c =
    let none : is_adding c.args.op.kind ≡ false = ap (λ (o : Op). is_adding o.kind) (sym c.op.view_is) ∙ sym c.adds.ensures ∙ c.if-adds.false in
    tables_by _ c.answer.result c.args.tables.now.parts.items c.answer.new.self.parts.items c.args.op (no_room_needed c.args.tables.now.parts.items c.args.op none) c.answer.ensures.step

pub returns-clause-factors : goal.returns-clause-factors
returns-clause-factors c =
    factors_by _ c.answer.result c.args.tables.now.parts.items c.answer.new.self.parts.items c.args.op c.answer.ensures.step (λ h. ap (λ (t : LiveTables). factors_in t.parts.items) h.0)
