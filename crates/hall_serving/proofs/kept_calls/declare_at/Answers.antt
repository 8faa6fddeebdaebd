use Rattle.std.proofs.Common.{◌≡◌, None, rules}
use Rattle.session_journal.specs.Script.{declared_with}
use Rattle.session_hall.specs.Names.{script_of}
use Rattle.hall_serving.proofs.Unkept.{narrowed_apart, unkept}
use Rattle.hall_serving.proofs.kept_calls.declare_at.Goals as goal

pub returns-clause-narrowed : goal.returns-clause-narrowed
returns-clause-narrowed g c =
    let none : c.args.holding.now.book ≡ None = search rules in
    narrowed_apart g.S.Tickets.meaning c.args.hall.now (g.S.Tickets.meaning (script_of c.args.hall.now)) c.args.holding.now _ none none (unkept g.S.Tickets.meaning c.args.hall.now c.args.holding.now none c.requires.holding) c.declare_at-2.ensures.caller (declared_with (g.S.Tickets.meaning (script_of c.args.hall.now)) c.args.site c.args.values.now) c.declare_at-2.ensures.declared
