use Rattle.syntax_parser.proofs.Loops.{ArgumentsSoFar}
use Rattle.syntax_parser.proofs.parse_call.arguments.Given as goal

abbrev pub invariant-loop-turn : goal.invariant-loop-turn
invariant-loop-turn l = ArgumentsSoFar l.turn l.fn.input l.input l.items.items
