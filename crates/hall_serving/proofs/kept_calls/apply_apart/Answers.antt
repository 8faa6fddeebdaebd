use Rattle.session_hall.specs.Names.{script_of}
use Rattle.turn_board.specs.Boards.{turn_count}
use Rattle.hall_serving.proofs.Unkept.{called_apart, unkept}
use Rattle.hall_serving.proofs.kept_calls.apply_apart.Goals as goal

pub returns-clause-called : goal.returns-clause-called
returns-clause-called g c =
    let none = c.requires.none in
    called_apart g.S.Tickets.meaning c.args.hall.now (g.S.Tickets.meaning (script_of c.args.hall.now)) c.args.holding.now _ none none (unkept g.S.Tickets.meaning c.args.hall.now c.args.holding.now none c.requires.holding) c.apply_with.ensures.caller c.args.hall.now.sizes.shards (turn_count c.args.hall.now.board) c.apply_with.result c.apply_with.ensures.applied
