use Rattle.session_hall.specs.Names.{hall_name, id_of, script_of}
use Rattle.session_hall.proofs.TakenInHand.{alone_free}
use Rattle.session_hall.proofs.caller.Caller.judge_in.Goals as goal

pub returns-then-hall-eq1 : goal.returns-then-hall-eq1
returns-then-hall-eq1 g c = record {
  judges = alone_free g.S.Tickets.meaning (id_of (hall_name c.args.hall.now)) (script_of c.args.hall.now) c.args.self.now c.args.book.now c.requires.keeper c.args.t c.requires.stage c.args.op.now c.if-hall-eq1.true;
}
