use Rattle.std.proofs.Common.{◌+◌, ◌-◌, ◌*◌, length}
use Rattle.syntax_parser.proofs.Loops.{FactorsSoFar, TermsSoFar}
use Rattle.syntax_parser.proofs.parse_expr.+expression.Given as goal

abbrev pub decreases-factor : goal.decreases-factor
decreases-factor l = 3 * (17 - l.opened)

abbrev pub decreases-term : goal.decreases-term
decreases-term l = 3 * (17 - l.opened) + 1

abbrev pub decreases-sum : goal.decreases-sum
decreases-sum l = 3 * (17 - l.opened) + 2

abbrev pub invariant-term-factors : goal.invariant-term-factors
invariant-term-factors l = FactorsSoFar l.opened l.fn.input l.input l.left

abbrev pub decreases-term-factors : goal.decreases-term-factors
decreases-term-factors l = length l.input.reader.words

abbrev pub invariant-sum-terms : goal.invariant-sum-terms
invariant-sum-terms l = TermsSoFar l.opened l.fn.input l.input l.left

abbrev pub decreases-sum-terms : goal.decreases-sum-terms
decreases-sum-terms l = length l.input.reader.words
