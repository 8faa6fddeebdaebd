use Rattle.std.proofs.Common.{◌+◌, ◌-◌, ◌*◌, length}
use Rattle.syntax_parser.proofs.ListLoops.{StatementsSoFar}
use Rattle.syntax_parser.proofs.parse_block.+block.Given as goal

abbrev pub decreases-block : goal.decreases-block
decreases-block l = 6 * (17 - l.depth)

abbrev pub decreases-otherwise : goal.decreases-otherwise
decreases-otherwise l = 6 * (17 - l.depth) + 1

abbrev pub decreases-repetition : goal.decreases-repetition
decreases-repetition l = 6 * (17 - l.depth) + 2

abbrev pub decreases-choice : goal.decreases-choice
decreases-choice l = 6 * (17 - l.depth) + 3

abbrev pub decreases-statement : goal.decreases-statement
decreases-statement l = 6 * (17 - l.depth) + 4

abbrev pub decreases-statements : goal.decreases-statements
decreases-statements l = 6 * (17 - l.depth) + 5

abbrev pub invariant-statements-statements : goal.invariant-statements-statements
invariant-statements-statements l = StatementsSoFar l.depth l.fn.input l.input l.items.items

abbrev pub decreases-statements-statements : goal.decreases-statements-statements
decreases-statements-statements l = length l.input.reader.words
