use Rattle.std.proofs.Common.{sym, subst}
use Rattle.session_hall.specs.Names.{script_of}
use Rattle.session_hall.specs.Stages.{IsBetween}
use Rattle.session_hall.proofs.OneCall.{began_ticket, begun_quiet, found_all_begun}
use Rattle.session_hall.proofs.caller.Caller.try_begin.Goals as goal

pub begin_in-begun-requires-clause-stage : goal.begin_in-begun-requires-clause-stage
begin_in-begun-requires-clause-stage g c = subst (λ s. IsBetween s) (sym (c.in-Some.ensures.asked.1 0 0 0 0).stage_still) c.requires.stage

pub give_book-requires-clause-stage : goal.give_book-requires-clause-stage
give_book-requires-clause-stage g c =
    begun_quiet (g.S.Tickets.meaning (script_of c.args.hall.now)) c.take_book.new.self c.begin_in-begun.new.self c.in-Some.book c.begin_in-begun.new.book c.begin_in-begun.result c.begin_in-begun.ensures.began

pub returns-in-Some-begun-clause-began : goal.returns-in-Some-begun-clause-began
returns-in-Some-begun-clause-began g c =
    began_ticket (g.S.Tickets.meaning (script_of c.args.hall.now)) c.args.self.now c.take_book.new.self c.in-Some.book c.in-Some.ensures.asked.1
    c.begin_in-begun.new.self c.give_book.new.self c.begin_in-begun.new.book c.give_book.ensures.number c.give_book.ensures.gave
    c.begin_in-begun.result c.begin_in-begun.ensures.began c.in-Some-begun.t c.in-Some-begun.is

pub returns-in-None-begun-clause-began : goal.returns-in-None-begun-clause-began
returns-in-None-begun-clause-began g c =
    found_all_begun (g.S.Tickets.meaning (script_of c.args.hall.now)) c.args.self.now c.take_book.new.self c.in-Some.book c.in-Some.ensures.asked.1
    c.begin_in-begun.new.self c.give_book.new.self c.begin_in-begun.new.book c.give_book.ensures.number c.give_book.ensures.gave
    c.begin_in-begun.result c.begin_in-begun.ensures.began c.in-None-begun.is
