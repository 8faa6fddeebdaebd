use Rattle.std.proofs.Common.{◌≡◌, ◌+◌, drop, length}
use Rattle.std.specs.List.{AllByRecursion}
use Rattle.session_journal.specs.Opening.{AreApart}
use Rattle.shard_tables.specs.Either.{entries_in}
use Rattle.hall_rule.specs.Listing.{all_entries, all_sizes}
use Rattle.session_hall.proofs.listing.count_entries.Given as goal

-- what is counted, and what is still to be counted
abbrev pub invariant-loop-part : goal.invariant-loop-part
invariant-loop-part l = record {
  count : l.count + length (all_entries (drop l.part-index l.parts)) ≡ length (all_entries l.parts);
  size : l.count + all_sizes (drop l.part-index l.parts) ≡ all_sizes l.parts;
  apart : AllByRecursion (λ p. AreApart (entries_in p)) (drop l.part-index l.parts) → AllByRecursion (λ p. AreApart (entries_in p)) l.parts;
}
