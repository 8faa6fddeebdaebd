use Rattle.std.proofs.Common.{length}
use Rattle.syntax_parser.proofs.ListLoops.{HandlersSoFar}
use Rattle.syntax_parser.proofs.parse_handler.handlers.Given as goal

abbrev pub invariant-handlers : goal.invariant-handlers
invariant-handlers l = HandlersSoFar l.fn.input l.input l.items.items

abbrev pub decreases-handlers : goal.decreases-handlers
decreases-handlers l = length l.input.reader.words
