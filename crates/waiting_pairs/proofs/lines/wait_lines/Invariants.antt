use Rattle.std.proofs.Common.{◌≡◌, ◌++◌, take, string_bytes}
use Rattle.std.specs.List.{flat_map}
use Rattle.waiting_pairs.specs.Lines.{head, line}
use Rattle.waiting_pairs.proofs.lines.wait_lines.Given as goal

abbrev pub invariant-loop-wait : goal.invariant-loop-wait
invariant-loop-wait l = string_bytes l.out ≡ head ++ flat_map (line l.names l.program.file l.text) (take l.wait-index l.waits)
