use Rattle.std.proofs.Common.{◌≡◌, None, rules}
use Rattle.session_hall.specs.Names.{script_of}
use Rattle.hall_serving.proofs.Unkept.{narrowed_apart, unkept}
use Rattle.hall_serving.proofs.kept_calls.declare.Goals as goal

pub returns-clause-narrowed : goal.returns-clause-narrowed
returns-clause-narrowed g c =
    let none : c.args.holding.now.book ≡ None = search rules in
    narrowed_apart g.S.Tickets.meaning c.args.hall.now (g.S.Tickets.meaning (script_of c.args.hall.now)) c.args.holding.now _ none none (unkept g.S.Tickets.meaning c.args.hall.now c.args.holding.now none c.requires.holding) c.declare_with.ensures.caller c.args.f.now.symbols c.declare_with.ensures.declared
