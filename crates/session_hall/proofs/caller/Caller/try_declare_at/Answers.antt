use Rattle.session_values.specs.Dialogue.{rest, replies}
use Rattle.symbolic_ops.specs.Matching.{Covered}
use Rattle.session_journal.specs.Script.{IsForesight, declared_with}
use Rattle.session_hall.specs.Names.{script_of}
use Rattle.session_hall.proofs.OneCall.{declared_at, may_in_hand}
use Rattle.session_hall.proofs.caller.Caller.try_declare_at.Goals as goal

pub declare_at_in-requires-clause-may : goal.declare_at_in-requires-clause-may
declare_at_in-requires-clause-may g c =
    let m = g.S.Tickets.meaning (script_of c.args.hall.now) in
    let list = declared_with m c.args.site c.args.values.now in
    may_in_hand m c.args.self.now c.take_book.new.self c.in-Some.book c.in-Some.ensures.asked.1
    (λ f es t. Covered list f × IsForesight (rest (m.next t) (replies es)) list) c.requires.may

pub returns-clause-declared : goal.returns-clause-declared
returns-clause-declared g c =
    let m = g.S.Tickets.meaning (script_of c.args.hall.now) in
    declared_at m c.args.self.now c.take_book.new.self c.in-Some.book c.in-Some.ensures.asked.1
    c.take_book.new.self c.give_book.new.self c.declare_at_in.new.book c.give_book.ensures.number c.give_book.ensures.gave
    (declared_with m c.args.site c.args.values.now) c.declare_at_in.ensures.declared
