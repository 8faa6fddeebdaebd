use Rattle.std.proofs.Common.{◌∙◌, ap}
use Rattle.std.proofs.lemmas.Bool.Decides.{not_from_Decides}
use Rattle.session_hall.specs.Names.{script_of}
use Rattle.hall_serving.specs.Desks.{HallView}
use Rattle.hall_serving.proofs.KeptEntering.{entered_alone, entered_kept, entered_shows, entered_stands, may_finish_apart, with_caller}
use Rattle.hall_serving.proofs.KeptFinishing.{may_enter}
use Rattle.hall_serving.proofs.kept_desk.HoldingDeskDesk.finish.Goals.{then-is_kept, else-is_kept}
use Rattle.hall_serving.proofs.kept_desk.HoldingDeskDesk.finish.Goals as goal

pub enter-requires-clause-may : goal.enter-requires-clause-may
enter-requires-clause-may g c =
    let d = c.self.inside in
    may_enter g.S.Tickets.meaning d.hall.now d.holding.now d.ticket d.holding.ghost_name d.reply c.self.invariant c.args.self.now c.self.view_is c.args.next.now.symbols c.requires

pub finish_with-requires-clause-may : goal.finish_with-requires-clause-may
finish_with-requires-clause-may g c =
    let d = c.self.inside in
    let m = g.S.Tickets.meaning (script_of d.hall.now) in
    let may = may_enter g.S.Tickets.meaning d.hall.now d.holding.now d.ticket d.holding.ghost_name d.reply c.self.invariant c.args.self.now c.self.view_is c.args.next.now.symbols c.requires in
    may_finish_apart m d.holding.now c.args.next.now.symbols (not_from_Decides c.is_kept.result c.is_kept.ensures c.if-is_kept.false) may

pub invariant_of-self : goal.invariant_of-self
invariant_of-self g c =
    let d = c.self.inside in
    let m = g.S.Tickets.meaning (script_of d.hall.now) in
    entered_stands g.S.Tickets.meaning d.hall.now d.holding.now c.enter.new.self d.ticket d.reply c.self.invariant c.enter.ensures.holding c.args.next.now.symbols
    (entered_kept m d.holding.now c.args.next.now.symbols c.enter.new.self c.enter.ensures.entered)

pub invariant_of-self-else-is_kept : goal.invariant_of-self-else-is_kept
invariant_of-self-else-is_kept g c =
    let d = c.self.inside in
    let m = g.S.Tickets.meaning (script_of d.hall.now) in
    let e = entered_alone m d.holding.now c.args.next.now.symbols g.S.Tickets.meaning d.hall.now c.finish_with.new.self (not_from_Decides c.is_kept.result c.is_kept.ensures c.if-is_kept.false) c.self.invariant.holding c.finish_with.ensures.caller c.finish_with.ensures.finished in
    entered_stands g.S.Tickets.meaning d.hall.now d.holding.now (with_caller d.holding.now c.finish_with.new.self) d.ticket d.reply c.self.invariant e.0 c.args.next.now.symbols e.1

pub returns-clause-finished : goal.returns-clause-finished
returns-clause-finished g c =
    let d = c.self.inside in
    let m = g.S.Tickets.meaning (script_of d.hall.now) in
    ap (λ (v : HallView g.row.S.Denot). v.desk) c.come_to_done-place.ensures.still ∙ elim c.if-is_kept.branch [
      | then-is_kept w ↦ ap (λ (v : HallView g.row.S.Denot). v.desk) w.self-is
          ∙ entered_shows g.S.Tickets.meaning d.hall.now d.holding.now w.enter.new.self d.ticket d.reply c.self.invariant w.enter.ensures.holding d.holding.ghost_name (λ s. c.args.next.now.symbols)
          (entered_kept m d.holding.now c.args.next.now.symbols w.enter.new.self w.enter.ensures.entered) c.args.self.now c.self.view_is
      | else-is_kept w ↦
          let e = entered_alone m d.holding.now c.args.next.now.symbols g.S.Tickets.meaning d.hall.now w.finish_with.new.self (not_from_Decides c.is_kept.result c.is_kept.ensures w.if-is_kept.false) c.self.invariant.holding w.finish_with.ensures.caller w.finish_with.ensures.finished in
          ap (λ (v : HallView g.row.S.Denot). v.desk) w.self-is
          ∙ entered_shows g.S.Tickets.meaning d.hall.now d.holding.now (with_caller d.holding.now w.finish_with.new.self) d.ticket d.reply c.self.invariant e.0 d.holding.ghost_name (λ s. c.args.next.now.symbols) e.1 c.args.self.now c.self.view_is
    ]
