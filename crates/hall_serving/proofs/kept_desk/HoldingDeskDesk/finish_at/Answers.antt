use Rattle.std.proofs.Common.{◌∙◌, ap}
use Rattle.std.proofs.lemmas.Bool.Decides.{not_from_Decides}
use Rattle.session_journal.specs.Script.{declared_with}
use Rattle.session_hall.specs.Names.{script_of}
use Rattle.hall_serving.specs.Desks.{HallView}
use Rattle.hall_serving.proofs.KeptEntering.{entered_alone, entered_kept, entered_shows, entered_stands, may_finish_apart, with_caller}
use Rattle.hall_serving.proofs.KeptFinishing.{is_site, may_enter_at}
use Rattle.hall_serving.proofs.kept_desk.HoldingDeskDesk.finish_at.Goals.{then-is_kept, else-is_kept}
use Rattle.hall_serving.proofs.kept_desk.HoldingDeskDesk.finish_at.Goals as goal

pub enter_at-requires-clause-site : goal.enter_at-requires-clause-site
enter_at-requires-clause-site g c =
    let d = c.self.inside in
    is_site g.S.Tickets.meaning d.hall.now d.holding.now d.ticket d.holding.ghost_name d.reply c.args.self.now c.self.view_is c.args.site _ c.requires.site

pub enter_at-requires-clause-may : goal.enter_at-requires-clause-may
enter_at-requires-clause-may g c =
    let d = c.self.inside in
    may_enter_at g.S.Tickets.meaning d.hall.now d.holding.now d.ticket d.holding.ghost_name d.reply c.self.invariant c.args.self.now c.self.view_is c.args.site c.args.values.now c.requires.may

pub finish_at-requires-clause-site : goal.finish_at-requires-clause-site
finish_at-requires-clause-site g c =
    let d = c.self.inside in
    is_site g.S.Tickets.meaning d.hall.now d.holding.now d.ticket d.holding.ghost_name d.reply c.args.self.now c.self.view_is c.args.site _ c.requires.site

pub finish_at-requires-clause-may : goal.finish_at-requires-clause-may
finish_at-requires-clause-may g c =
    let d = c.self.inside in
    let m = g.S.Tickets.meaning (script_of d.hall.now) in
    let may = may_enter_at g.S.Tickets.meaning d.hall.now d.holding.now d.ticket d.holding.ghost_name d.reply c.self.invariant c.args.self.now c.self.view_is c.args.site c.args.values.now c.requires.may in
    may_finish_apart m d.holding.now (declared_with m c.args.site c.args.values.now) (not_from_Decides c.is_kept.result c.is_kept.ensures c.if-is_kept.false) may

pub invariant_of-self : goal.invariant_of-self
invariant_of-self g c =
    let d = c.self.inside in
    let m = g.S.Tickets.meaning (script_of d.hall.now) in
    entered_stands g.S.Tickets.meaning d.hall.now d.holding.now c.enter_at.new.self d.ticket d.reply c.self.invariant c.enter_at.ensures.holding (declared_with m c.args.site c.args.values.now)
    (entered_kept m d.holding.now (declared_with m c.args.site c.args.values.now) c.enter_at.new.self c.enter_at.ensures.entered)

pub invariant_of-self-else-is_kept : goal.invariant_of-self-else-is_kept
invariant_of-self-else-is_kept g c =
    let d = c.self.inside in
    let m = g.S.Tickets.meaning (script_of d.hall.now) in
    let e = entered_alone m d.holding.now (declared_with m c.args.site c.args.values.now) g.S.Tickets.meaning d.hall.now c.finish_at.new.self (not_from_Decides c.is_kept.result c.is_kept.ensures c.if-is_kept.false) c.self.invariant.holding c.finish_at.ensures.caller c.finish_at.ensures.finished in
    entered_stands g.S.Tickets.meaning d.hall.now d.holding.now (with_caller d.holding.now c.finish_at.new.self) d.ticket d.reply c.self.invariant e.0 (declared_with m c.args.site c.args.values.now) e.1

pub returns-clause-finished : goal.returns-clause-finished
returns-clause-finished g c =
    let d = c.self.inside in
    let m = g.S.Tickets.meaning (script_of d.hall.now) in
    ap (λ (v : HallView g.row.S.Denot). v.desk) c.come_to_done-place.ensures.still ∙ elim c.if-is_kept.branch [
      | then-is_kept w ↦ ap (λ (v : HallView g.row.S.Denot). v.desk) w.self-is
          ∙ entered_shows g.S.Tickets.meaning d.hall.now d.holding.now w.enter_at.new.self d.ticket d.reply c.self.invariant w.enter_at.ensures.holding d.holding.ghost_name (λ s. declared_with (g.S.Tickets.meaning s) c.args.site c.args.values.now)
          (entered_kept m d.holding.now (declared_with m c.args.site c.args.values.now) w.enter_at.new.self w.enter_at.ensures.entered) c.args.self.now c.self.view_is
      | else-is_kept w ↦
          let e = entered_alone m d.holding.now (declared_with m c.args.site c.args.values.now) g.S.Tickets.meaning d.hall.now w.finish_at.new.self (not_from_Decides c.is_kept.result c.is_kept.ensures w.if-is_kept.false) c.self.invariant.holding w.finish_at.ensures.caller w.finish_at.ensures.finished in
          ap (λ (v : HallView g.row.S.Denot). v.desk) w.self-is
          ∙ entered_shows g.S.Tickets.meaning d.hall.now d.holding.now (with_caller d.holding.now w.finish_at.new.self) d.ticket d.reply c.self.invariant e.0 d.holding.ghost_name (λ s. declared_with (g.S.Tickets.meaning s) c.args.site c.args.values.now) e.1 c.args.self.now c.self.view_is
    ]
