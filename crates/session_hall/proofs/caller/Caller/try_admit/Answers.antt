use Rattle.std.proofs.Common.{refl}
use Rattle.session_hall.proofs.Admits.{admit_moves, admitted_caller, admitted_at, delay_moves, delayed_caller, delayed_at, not_both}
use Rattle.session_hall.proofs.Tickets.{may_admit}
use Rattle.session_hall.proofs.caller.Caller.try_admit.Goals as goal

pub admit-requires-clause-may : goal.admit-requires-clause-may
admit-requires-clause-may g c =
    may_admit g.S.Tickets.meaning c.args.hall.now c.args.self.now c.requires.caller c.take_book.new.seat c.in-Some.book c.take_book.ensures.seat.1 c.in-Some.ensures.took c.in-Serving.t c.in-Serving.is
    c.args.op c.requires.may

pub give_all-requires-clause-moves : goal.give_all-requires-clause-moves
give_all-requires-clause-moves g c =
    admit_moves g.S.Tickets.meaning c.args.hall.now c.args.self.now c.requires.caller c.take_book.new.seat c.in-Some.book c.take_book.ensures.seat.1 c.in-Some.ensures.took c.in-Serving.t c.in-Serving.is
    c.admit.new.self c.admit.ensures.stays.script c.admit.ensures.stays.lawful c.args.op c.in-Admitted.ensures.admits

pub give_all-requires-in-Delayed-clause-moves : goal.give_all-requires-in-Delayed-clause-moves
give_all-requires-in-Delayed-clause-moves g c =
    delay_moves g.S.Tickets.meaning c.args.hall.now c.args.self.now c.requires.caller c.take_book.new.seat c.in-Some.book c.take_book.ensures.seat.1 c.in-Some.ensures.took c.in-Serving.t c.in-Serving.is
    c.admit.new.self c.admit.ensures.stays.script c.admit.ensures.stays.lawful c.args.op c.in-Delayed.older c.in-Delayed.symbol c.in-Delayed.ensures.admits

pub returns-in-Admitted-clause-caller : goal.returns-in-Admitted-clause-caller
returns-in-Admitted-clause-caller g c = (
  admitted_caller g.S.Tickets.meaning c.args.hall.now c.args.self.now c.requires.caller c.take_book.new.seat c.in-Some.book c.take_book.ensures.seat.1 c.in-Some.ensures.took c.in-Serving.t c.in-Serving.is
      c.admit.new.self c.admit.ensures.stays.script c.admit.ensures.stays.lawful c.args.op c.in-Admitted.ensures.admits
      _ c.give_all.ensures.seat c.give_all.ensures.booked c.give_all.ensures.hands.0 c.give_all.ensures.hands.1 refl refl,
  refl,
)

pub returns-in-Admitted-clause-admitted : goal.returns-in-Admitted-clause-admitted
returns-in-Admitted-clause-admitted g c =
    admitted_at g.S.Tickets.meaning c.args.hall.now c.args.self.now c.requires.caller c.take_book.new.seat c.in-Some.book c.take_book.ensures.seat.1 c.in-Some.ensures.took c.in-Serving.t c.in-Serving.is
    c.admit.new.self c.admit.ensures.stays.script c.admit.ensures.stays.lawful c.args.op c.in-Admitted.ensures.admits
    _ c.give_all.ensures.seat c.give_all.ensures.booked c.give_all.ensures.hands.0 c.give_all.ensures.hands.1 refl refl

pub returns-in-Delayed-clause-caller : goal.returns-in-Delayed-clause-caller
returns-in-Delayed-clause-caller g c = (
  delayed_caller g.S.Tickets.meaning c.args.hall.now c.args.self.now c.requires.caller c.take_book.new.seat c.in-Some.book c.take_book.ensures.seat.1 c.in-Some.ensures.took c.in-Serving.t c.in-Serving.is
      c.admit.new.self c.admit.ensures.stays.script c.admit.ensures.stays.lawful c.args.op c.in-Delayed.older c.in-Delayed.symbol c.in-Delayed.ensures.admits
      _ c.give_all-in-Delayed.ensures.seat c.give_all-in-Delayed.ensures.booked c.give_all-in-Delayed.ensures.hands.0 c.give_all-in-Delayed.ensures.hands.1 refl refl,
  refl,
)

pub returns-in-Delayed-clause-admitted : goal.returns-in-Delayed-clause-admitted
returns-in-Delayed-clause-admitted g c =
    delayed_at g.S.Tickets.meaning c.args.hall.now c.args.self.now c.requires.caller c.take_book.new.seat c.in-Some.book c.take_book.ensures.seat.1 c.in-Some.ensures.took c.in-Serving.t c.in-Serving.is
    c.admit.new.self c.admit.ensures.stays.script c.admit.ensures.stays.lawful c.args.op c.in-Delayed.older c.in-Delayed.symbol c.in-Delayed.ensures.admits
    _ c.give_all-in-Delayed.ensures.seat c.give_all-in-Delayed.ensures.booked c.give_all-in-Delayed.ensures.hands.0 c.give_all-in-Delayed.ensures.hands.1 refl refl (λ o. not_both c.in-Delayed.older c.in-Delayed.symbol (c.in-Delayed.ensures.oldest o))
