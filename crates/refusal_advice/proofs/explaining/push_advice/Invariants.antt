use Rattle.std.proofs.Common.{◌≡◌, ◌++◌, map, string_bytes, take}
use Rattle.std.specs.List.{flat_map}
use Rattle.refusal_advice.specs.Told.{advice_line}
use Rattle.refusal_advice.proofs.explaining.push_advice.Given as goal

-- the lines before the index are appended
abbrev pub invariant-loop-line : goal.invariant-loop-line
invariant-loop-line l = l.text.items ≡ l.fn.text.items ++ flat_map advice_line (map string_bytes (take l.line-index l.lines))
