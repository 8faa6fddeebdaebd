use Rattle.std.proofs.Common.{◌≡◌, ◌<◌, ◌+◌, ◌-◌, ◌≤◌, length, drop, true, get_or}
use Rattle.std.specs.List.{prefix_len}
use Rattle.syntax_grammar.specs.Scan.{is_in}
use Rattle.syntax_grammar.proofs.scan.run_len.Given as goal

abbrev pub invariant-loop-end : goal.invariant-loop-end
invariant-loop-end l = record {
  run : l.end + prefix_len (is_in l.class) (drop l.end l.text) ≡ prefix_len (is_in l.class) l.text;
  within : l.end ≤ length l.text;
  inside : 0 < l.end → is_in l.class (get_or l.text (l.end - 1) 0) ≡ true;
}

abbrev pub decreases-loop-end : goal.decreases-loop-end
decreases-loop-end l = length l.text - l.end
