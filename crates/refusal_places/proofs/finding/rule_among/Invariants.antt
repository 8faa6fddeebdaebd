use Rattle.std.proofs.Common.{◌≡◌, drop, map}
use Rattle.refusal_places.specs.RuleTable.{row_in, row_of}
use Rattle.refusal_places.proofs.finding.rule_among.Given as goal

-- no rule before the index has this word
abbrev pub invariant-loop-rule : goal.invariant-loop-rule
invariant-loop-rule l = row_in (map row_of l.rules) l.word ≡ row_in (map row_of (drop l.rule-index l.rules)) l.word
