use Rattle.std.proofs.Common.{ap}
use Rattle.turn_board.specs.Seated.{TableId}
use Rattle.turn_board.specs.Boards.{turn_count}
use Rattle.session_hall.specs.Names.{script_of}
use Rattle.session_hall.proofs.Finding.{has_book, is_tied}
use Rattle.session_hall.proofs.hall.Hall.take_book.Goals as goal

pub returns-in-Here-Register-clause-took : goal.returns-in-Here-Register-clause-took
returns-in-Here-Register-clause-took g c =
    let a = rw c.in-Here-Register.field-0-is at c.in-Here-Register.ensures.answer in
    has_book g.S.Tickets.meaning (script_of c.args.self.now) (turn_count c.args.self.now.board) c.args.seat.now c.try_take.new.seat c.requires.noted c.try_take.ensures.seat.1 a.1 c.in-Here-Register.book a.0

pub returns-in-Busy-clause-took : goal.returns-in-Busy-clause-took
returns-in-Busy-clause-took g c =
    let v = c.in-Busy.ensures.seat.1 in
    let missed = c.in-Busy.ensures.answer.1 in
    record {
      rule = is_tied g.S.Tickets.meaning (script_of c.args.self.now) (turn_count c.args.self.now.board) c.args.seat.now c.try_take.new.seat c.requires.noted v c.in-Busy.ensures.answer.3 (ap (λ (i : TableId). i.slots) c.in-Busy.ensures.seat.0.placed.of_table);
      rose = missed.here;
      others = missed.others;
      held_still = missed.held_is;
      note_still = v.note_is;
      given_still = v.given_is;
      change_still = v.change_is;
      asks_more = missed.asks_is;
      givings_still = missed.givings_is;
      several = c.in-Busy.ensures.answer.2;
    }
