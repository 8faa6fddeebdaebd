use Rattle.std.proofs.Common.{◌≡◌, ℕ, suc, ◌+◌, refl, ◌∙◌, arith}
use Rattle.session_hall.proofs.Doing.{few, few_turns, place_few, can_ask, asks_some, ask_room, can_work, applied_caller, applied_at}
use Rattle.session_hall.proofs.Giving.{busy_on}
use Rattle.session_hall.proofs.Taken.{busy_at}
use Rattle.session_hall.proofs.caller.Caller.try_apply.Goals as goal

first_is : (n place : ℕ) → n ≡ place → 1 + n ≡ suc place
first_is n place e = omega (arith, e)

pub place_of-first-requires-clause-few : goal.place_of-first-requires-clause-few
place_of-first-requires-clause-few g c = few g.S.Tickets.meaning c.args.hall.now c.args.self.now c.requires.caller c.in_flight-t.result.0 c.in_flight-t.result.1.now c.in_flight-t.ensures

pub overflow_add-first : goal.overflow_add-first
overflow_add-first g c = omega (arith, place_few g.S.Tickets.meaning c.args.hall.now c.args.self.now c.requires.caller c.in_flight-t.result.0 c.in_flight-t.result.1.now c.in_flight-t.ensures, c.place_of-first.ensures)

pub row_of-turns-requires : goal.row_of-turns-requires
row_of-turns-requires g c = few_turns g.S.Tickets.meaning c.args.hall.now c.args.self.now c.requires.caller c.in_flight-t.result.0 c.in_flight-t.result.1.now c.in_flight-t.ensures
    (1 + c.place_of-first.result) c.span_of-many.result (first_is c.place_of-first.result _ c.place_of-first.ensures) c.span_of-many.ensures

pub try_take_all-requires-clause-set : goal.try_take_all-requires-clause-set
try_take_all-requires-clause-set g c = can_ask g.S.Tickets.meaning c.args.hall.now c.args.self.now c.requires.caller c.in_flight-t.result.0 c.in_flight-t.result.1.now c.in_flight-t.ensures (1 + c.place_of-first.result) c.span_of-many.result (first_is c.place_of-first.result _ c.place_of-first.ensures) c.span_of-many.ensures c.row_of-turns.result c.row_of-turns.ensures

pub try_take_all-requires-clause-some : goal.try_take_all-requires-clause-some
try_take_all-requires-clause-some g c = asks_some g.S.Tickets.meaning c.args.hall.now c.args.self.now c.requires.caller c.in_flight-t.result.0 c.in_flight-t.result.1.now c.in_flight-t.ensures (1 + c.place_of-first.result) c.span_of-many.result (first_is c.place_of-first.result _ c.place_of-first.ensures) c.span_of-many.ensures c.row_of-turns.result c.row_of-turns.ensures

pub try_take_all-requires-clause-room : goal.try_take_all-requires-clause-room
try_take_all-requires-clause-room g c = ask_room g.S.Tickets.meaning c.args.hall.now c.args.self.now c.requires.caller c.in_flight-t.result.0 c.in_flight-t.result.1.now c.in_flight-t.ensures (1 + c.place_of-first.result) c.span_of-many.result (first_is c.place_of-first.result _ c.place_of-first.ensures) c.span_of-many.ensures c.row_of-turns.result c.row_of-turns.ensures

pub returns-in-Busy-clause-caller : goal.returns-in-Busy-clause-caller
returns-in-Busy-clause-caller g c = (
  busy_on g.S.Tickets.meaning c.args.hall.now c.args.self.now c.requires.caller c.try_take_all.new.seat c.try_take_all.ensures.seat.0 c.try_take_all.ensures.seat.1 c.in-Busy.ensures.answer.1.held_is
      c.try_take_all.new.hands c.in-Busy.ensures.answer.0 c.try_take_all.ensures.room,
  refl,
)

pub returns-in-Busy-clause-applied : goal.returns-in-Busy-clause-applied
returns-in-Busy-clause-applied g c =
    busy_at g.S.Tickets.meaning c.args.hall.now c.args.self.now c.requires.caller c.in_flight-t.result.0 c.in_flight-t.result.1.now c.in_flight-t.ensures (1 + c.place_of-first.result) c.span_of-many.result (first_is c.place_of-first.result _ c.place_of-first.ensures) c.span_of-many.ensures c.row_of-turns.result c.row_of-turns.ensures
    c.try_take_all.new.seat c.try_take_all.ensures.seat.1 c.in-Busy.turn c.in-Busy.ensures.answer.1 c.in-Busy.ensures.answer.2 c.try_take_all.new.hands c.in-Busy.ensures.answer.0
    c.try_take_all.ensures.seat.0 c.in-Busy.ensures.answer.3

pub work_in-reply-requires : goal.work_in-reply-requires
work_in-reply-requires g c = record {
  can =
      can_work g.S.Tickets.meaning c.args.hall.now c.args.self.now c.requires.caller c.in_flight-t.result.0 c.in_flight-t.result.1.now c.in_flight-t.ensures (1 + c.place_of-first.result) c.span_of-many.result (first_is c.place_of-first.result _ c.place_of-first.ensures) c.span_of-many.ensures c.row_of-turns.result c.row_of-turns.ensures
      c.try_take_all.new.seat c.try_take_all.new.hands.pairs c.try_take_all.ensures.seat.1 c.in-Here.ensures.answer.0 c.in-Here.ensures.answer.1;
}

pub returns-clause-caller : goal.returns-clause-caller
returns-clause-caller g c = (
  applied_caller g.S.Tickets.meaning c.args.hall.now c.args.self.now c.requires.caller c.in_flight-t.result.0 c.in_flight-t.result.1.now c.in_flight-t.ensures (1 + c.place_of-first.result) c.span_of-many.result (first_is c.place_of-first.result _ c.place_of-first.ensures) c.span_of-many.ensures c.row_of-turns.result c.row_of-turns.ensures
      c.try_take_all.new.seat c.try_take_all.new.hands.pairs c.try_take_all.ensures.seat.1 c.in-Here.ensures.answer.0 c.in-Here.ensures.answer.1
      c.work_in-reply.new.hands.pairs c.work_in-reply.result c.work_in-reply.ensures.worked c.try_take_all.ensures.seat.0 c.work_in-reply.new.hands refl (c.work_in-reply.ensures.room ∙ c.try_take_all.ensures.room),
  refl,
)

pub returns-clause-applied : goal.returns-clause-applied
returns-clause-applied g c =
    applied_at g.S.Tickets.meaning c.args.hall.now c.args.self.now c.requires.caller c.in_flight-t.result.0 c.in_flight-t.result.1.now c.in_flight-t.ensures (1 + c.place_of-first.result) c.span_of-many.result (first_is c.place_of-first.result _ c.place_of-first.ensures) c.span_of-many.ensures c.row_of-turns.result c.row_of-turns.ensures
    c.try_take_all.new.seat c.try_take_all.new.hands.pairs c.try_take_all.ensures.seat.1 c.in-Here.ensures.answer.0 c.in-Here.ensures.answer.1
    c.work_in-reply.new.hands.pairs c.work_in-reply.result c.work_in-reply.ensures.worked c.try_take_all.ensures.seat.0 c.work_in-reply.new.hands refl (c.work_in-reply.ensures.room ∙ c.try_take_all.ensures.room)
