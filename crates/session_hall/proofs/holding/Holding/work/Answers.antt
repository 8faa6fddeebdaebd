use Rattle.std.proofs.Common.{◌≡◌, ℕ, suc, ◌+◌, refl, arith}
use Rattle.session_hall.specs.Names.{hall_name, id_of, script_of}
use Rattle.session_hall.proofs.InHand.{kept_some}
use Rattle.session_hall.proofs.WorkedInHand.{ask_room, busy_holding, busy_kept, can_ask, can_found, can_work, can_work_here, free_here, few, few_turns, found_holding, found_kept, place_few, worked_holding, worked_kept}
use Rattle.session_hall.proofs.holding.Holding.work.Goals as goal

first_is : (n place : ℕ) → n ≡ place → 1 + n ≡ suc place
first_is n place e = omega (arith, e)

pub place_of-first-requires-clause-few : goal.place_of-first-requires-clause-few
place_of-first-requires-clause-few g c = few g.S.Tickets.meaning (id_of (hall_name c.args.hall.now)) (script_of c.args.hall.now) c.args.self.now (kept_some c.args.self.now.book c.requires.kept).0 (kept_some c.args.self.now.book c.requires.kept).1 c.requires.holding c.serving-t.result c.serving-t.ensures c.args.op c.requires.may

pub overflow_add-first : goal.overflow_add-first
overflow_add-first g c = omega (arith, place_few g.S.Tickets.meaning (id_of (hall_name c.args.hall.now)) (script_of c.args.hall.now) c.args.self.now (kept_some c.args.self.now.book c.requires.kept).0 (kept_some c.args.self.now.book c.requires.kept).1 c.requires.holding c.serving-t.result c.serving-t.ensures c.args.op c.requires.may, c.place_of-first.ensures)

pub missing_in-missing-requires : goal.missing_in-missing-requires
missing_in-missing-requires g c = few_turns g.S.Tickets.meaning (id_of (hall_name c.args.hall.now)) (script_of c.args.hall.now) c.args.self.now (kept_some c.args.self.now.book c.requires.kept).0 (kept_some c.args.self.now.book c.requires.kept).1 c.requires.holding c.serving-t.result c.serving-t.ensures c.args.op c.requires.may
    (1 + c.place_of-first.result) c.span_of-many.result (first_is c.place_of-first.result _ c.place_of-first.ensures) c.span_of-many.ensures

pub take_set-requires-clause-set : goal.take_set-requires-clause-set
take_set-requires-clause-set g c = can_ask g.S.Tickets.meaning (id_of (hall_name c.args.hall.now)) (script_of c.args.hall.now) c.args.self.now (kept_some c.args.self.now.book c.requires.kept).0 (kept_some c.args.self.now.book c.requires.kept).1 c.requires.holding c.serving-t.result c.serving-t.ensures c.args.op c.requires.may
    (1 + c.place_of-first.result) c.span_of-many.result (first_is c.place_of-first.result _ c.place_of-first.ensures) c.span_of-many.ensures c.missing_in-missing.result c.missing_in-missing.ensures

pub take_set-requires-clause-room : goal.take_set-requires-clause-room
take_set-requires-clause-room g c = ask_room g.S.Tickets.meaning (id_of (hall_name c.args.hall.now)) (script_of c.args.hall.now) c.args.self.now (kept_some c.args.self.now.book c.requires.kept).0 (kept_some c.args.self.now.book c.requires.kept).1 c.requires.holding c.serving-t.result c.serving-t.ensures c.args.op c.requires.may
    (1 + c.place_of-first.result) c.span_of-many.result (first_is c.place_of-first.result _ c.place_of-first.ensures) c.span_of-many.ensures c.missing_in-missing.result c.missing_in-missing.ensures

pub returns-in-Busy-clause-holding : goal.returns-in-Busy-clause-holding
returns-in-Busy-clause-holding g c = (
  busy_holding g.S.Tickets.meaning (id_of (hall_name c.args.hall.now)) (script_of c.args.hall.now) c.args.self.now (kept_some c.args.self.now.book c.requires.kept).0 (kept_some c.args.self.now.book c.requires.kept).1 c.requires.holding c.serving-t.result c.serving-t.ensures c.args.op c.requires.may
      (1 + c.place_of-first.result) c.span_of-many.result (first_is c.place_of-first.result _ c.place_of-first.ensures) c.span_of-many.ensures c.missing_in-missing.result c.missing_in-missing.ensures
      c.take_set.new.seat c.take_set.new.hands c.take_set.ensures.seat.0 c.take_set.ensures.seat.1 c.take_set.ensures.room c.in-Busy.turn c.in-Busy.ensures.took,
  refl,
)

pub returns-in-Busy-clause-worked : goal.returns-in-Busy-clause-worked
returns-in-Busy-clause-worked g c = busy_kept g.S.Tickets.meaning (id_of (hall_name c.args.hall.now)) (script_of c.args.hall.now) c.args.self.now (kept_some c.args.self.now.book c.requires.kept).0 (kept_some c.args.self.now.book c.requires.kept).1 c.requires.holding c.serving-t.result c.serving-t.ensures c.args.op c.requires.may
    (1 + c.place_of-first.result) c.span_of-many.result (first_is c.place_of-first.result _ c.place_of-first.ensures) c.span_of-many.ensures c.missing_in-missing.result c.missing_in-missing.ensures
    c.take_set.new.seat c.take_set.new.hands c.take_set.ensures.seat.0 c.take_set.ensures.seat.1 c.take_set.ensures.room c.in-Busy.turn c.in-Busy.ensures.took c.args.self.now.ends c.args.self.now.entered

pub work_in-reply-requires : goal.work_in-reply-requires
work_in-reply-requires g c = record {
  can = can_work g.S.Tickets.meaning (id_of (hall_name c.args.hall.now)) (script_of c.args.hall.now) c.args.self.now (kept_some c.args.self.now.book c.requires.kept).0 (kept_some c.args.self.now.book c.requires.kept).1 c.requires.holding c.serving-t.result c.serving-t.ensures c.args.op c.requires.may
      (1 + c.place_of-first.result) c.span_of-many.result (first_is c.place_of-first.result _ c.place_of-first.ensures) c.span_of-many.ensures c.missing_in-missing.result c.missing_in-missing.ensures
      c.take_set.new.seat c.take_set.new.hands c.take_set.ensures.seat.0 c.take_set.ensures.seat.1 c.take_set.ensures.room c.in_default-take_set.ensures.took;
}

pub returns-clause-holding : goal.returns-clause-holding
returns-clause-holding g c = (
  worked_holding g.S.Tickets.meaning (id_of (hall_name c.args.hall.now)) (script_of c.args.hall.now) c.args.self.now (kept_some c.args.self.now.book c.requires.kept).0 (kept_some c.args.self.now.book c.requires.kept).1 c.requires.holding c.serving-t.result c.serving-t.ensures c.args.op c.requires.may
      (1 + c.place_of-first.result) c.span_of-many.result (first_is c.place_of-first.result _ c.place_of-first.ensures) c.span_of-many.ensures c.missing_in-missing.result c.missing_in-missing.ensures
      c.take_set.new.seat c.take_set.new.hands c.take_set.ensures.seat.0 c.take_set.ensures.seat.1 c.take_set.ensures.room c.in_default-take_set.ensures.took c.work_in-reply.new.hands c.work_in-reply.result c.work_in-reply.ensures.worked c.work_in-reply.ensures.room (free_here g.S.Tickets.meaning (id_of (hall_name c.args.hall.now)) (script_of c.args.hall.now) c.args.self.now (kept_some c.args.self.now.book c.requires.kept).0 (kept_some c.args.self.now.book c.requires.kept).1 c.requires.holding c.serving-t.result c.serving-t.ensures c.args.op c.requires.may c.requires.free),
  refl,
)

pub returns-clause-worked : goal.returns-clause-worked
returns-clause-worked g c = worked_kept g.S.Tickets.meaning (id_of (hall_name c.args.hall.now)) (script_of c.args.hall.now) c.args.self.now (kept_some c.args.self.now.book c.requires.kept).0 (kept_some c.args.self.now.book c.requires.kept).1 c.requires.holding c.serving-t.result c.serving-t.ensures c.args.op c.requires.may
    (1 + c.place_of-first.result) c.span_of-many.result (first_is c.place_of-first.result _ c.place_of-first.ensures) c.span_of-many.ensures c.missing_in-missing.result c.missing_in-missing.ensures
    c.take_set.new.seat c.take_set.new.hands c.take_set.ensures.seat.0 c.take_set.ensures.seat.1 c.take_set.ensures.room c.in_default-take_set.ensures.took c.work_in-reply.new.hands c.work_in-reply.result c.work_in-reply.ensures.worked c.work_in-reply.ensures.room (free_here g.S.Tickets.meaning (id_of (hall_name c.args.hall.now)) (script_of c.args.hall.now) c.args.self.now (kept_some c.args.self.now.book c.requires.kept).0 (kept_some c.args.self.now.book c.requires.kept).1 c.requires.holding c.serving-t.result c.serving-t.ensures c.args.op c.requires.may c.requires.free) c.args.self.now.ends c.args.self.now.entered

pub found_in-requires : goal.found_in-requires
found_in-requires g c = record {
  can = can_work_here g.S.Tickets.meaning (id_of (hall_name c.args.hall.now)) (script_of c.args.hall.now) c.args.self.now (kept_some c.args.self.now.book c.requires.kept).0 (kept_some c.args.self.now.book c.requires.kept).1 c.requires.holding c.serving-t.result c.serving-t.ensures c.args.op c.requires.may
      (1 + c.place_of-first.result) c.span_of-many.result (first_is c.place_of-first.result _ c.place_of-first.ensures) c.span_of-many.ensures;
}

pub work_found-reply-requires : goal.work_found-reply-requires
work_found-reply-requires g c = record {
  can = can_found g.S.Tickets.meaning (id_of (hall_name c.args.hall.now)) (script_of c.args.hall.now) c.args.self.now (kept_some c.args.self.now.book c.requires.kept).0 (kept_some c.args.self.now.book c.requires.kept).1 c.requires.holding c.serving-t.result c.serving-t.ensures c.args.op c.requires.may
      (1 + c.place_of-first.result) c.span_of-many.result (first_is c.place_of-first.result _ c.place_of-first.ensures) c.span_of-many.ensures c.in-Some.found c.in-Some.ensures;
}

pub returns-in-Some-clause-holding : goal.returns-in-Some-clause-holding
returns-in-Some-clause-holding g c = (
  found_holding g.S.Tickets.meaning (id_of (hall_name c.args.hall.now)) (script_of c.args.hall.now) c.args.self.now (kept_some c.args.self.now.book c.requires.kept).0 (kept_some c.args.self.now.book c.requires.kept).1 c.requires.holding c.serving-t.result c.serving-t.ensures c.args.op c.requires.may
      (1 + c.place_of-first.result) c.span_of-many.result (first_is c.place_of-first.result _ c.place_of-first.ensures) c.span_of-many.ensures c.in-Some.found c.in-Some.ensures c.work_found-reply.new.hands c.work_found-reply.result c.work_found-reply.ensures.worked c.work_found-reply.ensures.room (free_here g.S.Tickets.meaning (id_of (hall_name c.args.hall.now)) (script_of c.args.hall.now) c.args.self.now (kept_some c.args.self.now.book c.requires.kept).0 (kept_some c.args.self.now.book c.requires.kept).1 c.requires.holding c.serving-t.result c.serving-t.ensures c.args.op c.requires.may c.requires.free),
  refl,
)

pub returns-in-Some-clause-worked : goal.returns-in-Some-clause-worked
returns-in-Some-clause-worked g c = found_kept g.S.Tickets.meaning (id_of (hall_name c.args.hall.now)) (script_of c.args.hall.now) c.args.self.now (kept_some c.args.self.now.book c.requires.kept).0 (kept_some c.args.self.now.book c.requires.kept).1 c.requires.holding c.serving-t.result c.serving-t.ensures c.args.op c.requires.may
    (1 + c.place_of-first.result) c.span_of-many.result (first_is c.place_of-first.result _ c.place_of-first.ensures) c.span_of-many.ensures c.in-Some.found c.in-Some.ensures c.work_found-reply.new.hands c.work_found-reply.result c.work_found-reply.ensures.worked c.work_found-reply.ensures.room (free_here g.S.Tickets.meaning (id_of (hall_name c.args.hall.now)) (script_of c.args.hall.now) c.args.self.now (kept_some c.args.self.now.book c.requires.kept).0 (kept_some c.args.self.now.book c.requires.kept).1 c.requires.holding c.serving-t.result c.serving-t.ensures c.args.op c.requires.may c.requires.free) c.args.self.now.ends c.args.self.now.entered
