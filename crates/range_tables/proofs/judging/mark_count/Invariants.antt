use Rattle.std.proofs.Common.{◌≡◌, ◌≤◌, take}
use Rattle.std.specs.List.{count_by}
use Rattle.range_tables.proofs.judging.mark_count.Given as goal

abbrev pub invariant-loop-word : goal.invariant-loop-word
invariant-loop-word l = record {
  count : l.count ≡ count_by (λ w. w.is_mark) (take l.word-index l.words);
  few : l.count ≤ l.word-index;
}
