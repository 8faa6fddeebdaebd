use Rattle.syntax_parser.proofs.Loops.{ValuesSoFar}
use Rattle.syntax_parser.proofs.parse_stmt.values.Given as goal

abbrev pub invariant-loop-turn : goal.invariant-loop-turn
invariant-loop-turn l = ValuesSoFar l.turn l.fn.input l.input l.values.items
