use Rattle.std.proofs.Common.{length}
use Rattle.syntax_parser.proofs.ListLoops.{ParamsSoFar}
use Rattle.syntax_parser.proofs.parse_handler.some_params.Given as goal

abbrev pub invariant-params : goal.invariant-params
invariant-params l = ParamsSoFar l.fn.input l.input l.params.items

abbrev pub decreases-params : goal.decreases-params
decreases-params l = length l.input.reader.words
