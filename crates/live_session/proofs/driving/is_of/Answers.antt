use Rattle.std.proofs.Common.{◌≡◌, sym, ap, ◌∙◌}
use Rattle.session_values.specs.declared.op.Op.{Op}
use Rattle.session_values.specs.Kinds.{home}
use Rattle.live_session.proofs.DrivenActs.{fits_by, kind_by, none_past}
use Rattle.live_session.proofs.driving.is_of.Goals as goal

pub returns-then-table-parts : goal.returns-then-table-parts
returns-then-table-parts c =
    let at : c.op.inside.table ≡ c.args.op.now.table = ap (λ (o : Op). o.table) c.op.view_is in
    (λ e. cc e, λ f. absurd (none_past c.args.parts.now c.op.inside.table c.args.op.now at c.if-table-parts.true f))

pub returns : goal.returns
returns c =
    let at : c.op.inside.table ≡ c.args.op.now.table = ap (λ (o : Op). o.table) c.op.view_is in
    let kind = ap (λ (o : Op). home o.kind) c.op.view_is in
    let p = c.index-parts-table.result in (
      λ e. fits_by c.args.parts.now c.op.inside.table c.args.op.now at p c.bounds.ensures c.if-table-parts.false c.index-parts-table.is (c.suits.ensures.0 e ∙ kind),
      λ f. c.suits.ensures.1 (kind_by c.args.parts.now c.op.inside.table c.args.op.now at p c.if-table-parts.false c.index-parts-table.is f ∙ sym kind),
    )
