use Rattle.std.proofs.Common.{◌≡◌, ◌++◌, map, take}
use Rattle.std.specs.List.{flat_map}
use Rattle.refusal_places.specs.RuleTable.{row_line, row_of}
use Rattle.refusal_places.proofs.rule_text.push_rules.Given as goal

-- the lines of the rules before the index are appended
abbrev pub invariant-loop-rule : goal.invariant-loop-rule
invariant-loop-rule l = l.text.items ≡ l.fn.text.items ++ flat_map row_line (map row_of (take l.rule-index l.rules))
