use Rattle.std.proofs.Common.{refl}
use Rattle.session_journal.specs.Script.{declared_with}
use Rattle.session_hall.proofs.Entering.{is_applied, may_do, same_turns, finish_moves, finished_caller, finished_at}
use Rattle.session_hall.proofs.Giving.{busy_caller}
use Rattle.session_hall.proofs.Sites.{site_here, may_do_here, did_there}
use Rattle.session_hall.specs.Callers.{book_of, foresight_of}
use Rattle.session_hall.specs.Names.{script_of}
use Rattle.session_hall.proofs.caller.Caller.try_finish_at.Goals as goal

pub applied-t-requires : goal.applied-t-requires
applied-t-requires g c = is_applied (g.S.Tickets.meaning (script_of c.args.hall.now)) c.args.self.now.stage (foresight_of c.args.self.now) (book_of c.args.self.now) (declared_with (g.S.Tickets.meaning (script_of c.args.hall.now)) c.args.site c.args.values.now) c.requires.may

pub returns-in-None-clause-caller : goal.returns-in-None-clause-caller
returns-in-None-clause-caller g c = (
  busy_caller g.S.Tickets.meaning c.args.hall.now c.args.self.now c.requires.caller c.take_book.new.seat c.take_book.ensures.seat.0 c.take_book.ensures.seat.1 c.in-None.ensures.took.held_still,
  refl,
)

pub done_at-requires-clause-site : goal.done_at-requires-clause-site
done_at-requires-clause-site g c = site_here g.S.Tickets.meaning (script_of c.args.hall.now) c.in-Some.book c.in-Some.ensures.took.script_is c.args.site _ c.requires.site

pub done_at-requires-clause-may : goal.done_at-requires-clause-may
done_at-requires-clause-may g c =
    may_do_here g.S.Tickets.meaning (script_of c.args.hall.now) c.in-Some.book c.in-Some.ensures.took.script_is c.args.site c.args.values.now c.applied-t.result.0 c.applied-t.result.2
    (may_do g.S.Tickets.meaning c.args.hall.now c.args.self.now c.requires.caller c.take_book.new.seat c.in-Some.book c.take_book.ensures.seat.1 c.in-Some.ensures.took
    c.applied-t.result.0 c.applied-t.result.1.now c.applied-t.result.2 c.applied-t.ensures
    (declared_with (g.S.Tickets.meaning (script_of c.args.hall.now)) c.args.site c.args.values.now) c.requires.may)

pub give_all-requires-clause-held : goal.give_all-requires-clause-held
give_all-requires-clause-held g c =
    same_turns g.S.Tickets.meaning c.args.hall.now c.args.self.now c.requires.caller c.take_book.new.seat c.in-Some.book c.take_book.ensures.seat.1 c.in-Some.ensures.took
    c.applied-t.result.0 c.applied-t.result.1.now c.applied-t.result.2 c.applied-t.ensures
    c.done_at.new.self

pub give_all-requires-clause-moves : goal.give_all-requires-clause-moves
give_all-requires-clause-moves g c =
    finish_moves g.S.Tickets.meaning c.args.hall.now c.args.self.now c.requires.caller c.take_book.new.seat c.in-Some.book c.take_book.ensures.seat.1 c.in-Some.ensures.took
    c.applied-t.result.0 c.applied-t.result.1.now c.applied-t.result.2 c.applied-t.ensures
    (declared_with (g.S.Tickets.meaning (script_of c.args.hall.now)) c.args.site c.args.values.now) c.done_at.new.self c.done_at.ensures.stays.script c.done_at.ensures.stays.lawful (did_there g.S.Tickets.meaning (script_of c.args.hall.now) c.in-Some.book c.in-Some.ensures.took.script_is c.args.site c.args.values.now c.applied-t.result.0 c.applied-t.result.2 c.done_at.new.self.book c.done_at.ensures.did)

pub returns-clause-caller : goal.returns-clause-caller
returns-clause-caller g c = (
  finished_caller g.S.Tickets.meaning c.args.hall.now c.args.self.now c.requires.caller c.take_book.new.seat c.in-Some.book c.take_book.ensures.seat.1 c.in-Some.ensures.took
      c.applied-t.result.0 c.applied-t.result.1.now c.applied-t.result.2 c.applied-t.ensures
      (declared_with (g.S.Tickets.meaning (script_of c.args.hall.now)) c.args.site c.args.values.now) c.done_at.new.self c.done_at.ensures.stays.script c.done_at.ensures.stays.lawful (did_there g.S.Tickets.meaning (script_of c.args.hall.now) c.in-Some.book c.in-Some.ensures.took.script_is c.args.site c.args.values.now c.applied-t.result.0 c.applied-t.result.2 c.done_at.new.self.book c.done_at.ensures.did)
      _ c.give_all.ensures.seat c.give_all.ensures.booked c.give_all.ensures.hands.0 c.give_all.ensures.hands.1 refl refl,
  refl,
)

pub returns-clause-finished : goal.returns-clause-finished
returns-clause-finished g c =
    finished_at g.S.Tickets.meaning c.args.hall.now c.args.self.now c.requires.caller c.take_book.new.seat c.in-Some.book c.take_book.ensures.seat.1 c.in-Some.ensures.took
    c.applied-t.result.0 c.applied-t.result.1.now c.applied-t.result.2 c.applied-t.ensures
    (declared_with (g.S.Tickets.meaning (script_of c.args.hall.now)) c.args.site c.args.values.now) c.done_at.new.self c.done_at.ensures.stays.script c.done_at.ensures.stays.lawful (did_there g.S.Tickets.meaning (script_of c.args.hall.now) c.in-Some.book c.in-Some.ensures.took.script_is c.args.site c.args.values.now c.applied-t.result.0 c.applied-t.result.2 c.done_at.new.self.book c.done_at.ensures.did)
    _ c.give_all.ensures.seat c.give_all.ensures.booked c.give_all.ensures.hands.0 c.give_all.ensures.hands.1 refl refl
