use Rattle.std.proofs.Common.{refl}
use Rattle.session_journal.specs.Script.{declared_with}
use Rattle.session_hall.specs.Names.{hall_name, id_of, script_of}
use Rattle.session_hall.proofs.EnteredInHand.{entered_keeper, entered_kept}
use Rattle.session_hall.proofs.InHand.{kept_keeper}
use Rattle.session_hall.proofs.Sites.{entered_there}
use Rattle.session_hall.proofs.holding.Holding.enter_at.Goals as goal

pub returns-clause-holding : goal.returns-clause-holding
returns-clause-holding g c =
    let p = id_of (hall_name c.args.hall.now) in
    let script = script_of c.args.hall.now in
    let k = kept_keeper g.S.Tickets.meaning p script c.args.self.now c.in-Some.book c.in-Some.is c.requires.holding in (
      entered_keeper g.S.Tickets.meaning p script c.args.self.now.caller c.in-Some.book k c.applied-t.result.0 c.applied-t.result.1.now c.applied-t.result.2 c.applied-t.ensures
          (declared_with (g.S.Tickets.meaning script) c.args.site c.args.values.now) c.enter_at.new.self c.enter_at.ensures.stays.script c.enter_at.ensures.stays.lawful (entered_there g.S.Tickets.meaning script c.in-Some.book k.script_is c.args.site c.args.values.now c.applied-t.result.0 c.applied-t.result.1.now c.applied-t.result.2 c.enter_at.new.self.book c.enter_at.ensures.entered),
      refl,
    )

pub returns-clause-entered : goal.returns-clause-entered
returns-clause-entered g c =
    let p = id_of (hall_name c.args.hall.now) in
    let script = script_of c.args.hall.now in
    let k = kept_keeper g.S.Tickets.meaning p script c.args.self.now c.in-Some.book c.in-Some.is c.requires.holding in
    entered_kept g.S.Tickets.meaning p script c.args.self.now.caller c.in-Some.book k c.applied-t.result.0 c.applied-t.result.1.now c.applied-t.result.2 c.applied-t.ensures
    (declared_with (g.S.Tickets.meaning script) c.args.site c.args.values.now) c.enter_at.new.self c.enter_at.ensures.stays.script c.enter_at.ensures.stays.lawful (entered_there g.S.Tickets.meaning script c.in-Some.book k.script_is c.args.site c.args.values.now c.applied-t.result.0 c.applied-t.result.1.now c.applied-t.result.2 c.enter_at.new.self.book c.enter_at.ensures.entered)
    c.args.self.now refl c.in-Some.is c.args.self.now.ends c.saturating_add-self.result (g.S.Tickets.meaning script)
