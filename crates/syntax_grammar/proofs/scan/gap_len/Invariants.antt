use Rattle.std.proofs.Common.{◌≡◌, ◌+◌, drop, false}
use Rattle.syntax_grammar.specs.Scan.{gap}
use Rattle.syntax_grammar.proofs.scan.gap_len.Given as goal

abbrev pub invariant-loop-i : goal.invariant-loop-i
invariant-loop-i l = l.i + gap l.commented (drop l.i l.text) ≡ gap false l.text
