use Rattle.std.proofs.Common.{◌≡◌, ◌+◌, ◌≤◌, [], length, drop}
use Rattle.std.specs.List.{AllByRecursion}
use Rattle.range_tables.specs.Joined.{joined}
use Rattle.range_tables.specs.Ready.{IsReady}
use Rattle.range_tables.specs.Steps.{parts_behind, symbols_of}
use Rattle.range_tables.proofs.step.symbols_of_parts.Given as goal

abbrev pub invariant-loop-word : goal.invariant-loop-word
invariant-loop-word l = record {
  is : joined l.found.items l.flaw (symbols_of (parts_behind l.part.items (drop l.word-index l.words))) ≡ symbols_of (parts_behind [] l.words);
  few : length l.found.items + length (parts_behind l.part.items (drop l.word-index l.words)) ≤ length (parts_behind [] l.words);
  ready : AllByRecursion IsReady l.found.items;
}
