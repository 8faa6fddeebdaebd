use Rattle.std.proofs.Common.{◌≡◌}
use Rattle.session_values.specs.Dialogue.{Answers, replies}
use Rattle.session_hall.specs.Names.{script_of}
use Rattle.session_hall.proofs.OneCall.{ended_at, ended_quiet, may_in_hand}
use Rattle.session_hall.proofs.caller.Caller.try_end.Goals as goal

pub end_in-requires-clause-may : goal.end_in-requires-clause-may
end_in-requires-clause-may g c =
    let m = g.S.Tickets.meaning (script_of c.args.hall.now) in
    may_in_hand m c.args.self.now c.take_book.new.self c.in-Some.book c.in-Some.ensures.asked.1 (λ f es t. m.next t (replies es) ≡ Answers c.args.reply) c.requires.may

pub give_book-requires-clause-stage : goal.give_book-requires-clause-stage
give_book-requires-clause-stage g c =
    ended_quiet (g.S.Tickets.meaning (script_of c.args.hall.now)) c.take_book.new.self c.end_in.new.self c.in-Some.book c.end_in.new.book c.args.reply c.take_book.new.self.stage c.end_in.ensures.ended

pub returns-clause-ended : goal.returns-clause-ended
returns-clause-ended g c =
    ended_at (g.S.Tickets.meaning (script_of c.args.hall.now)) c.args.self.now c.take_book.new.self c.in-Some.book c.in-Some.ensures.asked.1
    c.end_in.new.self c.give_book.new.self c.end_in.new.book c.give_book.ensures.number c.give_book.ensures.gave c.args.reply c.end_in.ensures.ended
