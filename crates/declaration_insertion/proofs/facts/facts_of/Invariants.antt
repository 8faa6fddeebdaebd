use Rattle.std.proofs.Common.{◌≡◌, ℕ, ◌<◌, length, []}
use Rattle.std.specs.Prelude.{slice_index_or}
use Rattle.declaration_insertion.specs.Facts.{AreFacts}
use Rattle.declaration_insertion.proofs.facts.facts_of.Given as goal

abbrev pub invariant-loop-h : goal.invariant-loop-h
invariant-loop-h l = record {
  count : length l.facts.items ≡ l.h;
  each : (k : ℕ) → k < l.h → AreFacts (slice_index_or l.later k []) (slice_index_or l.facts.items k []);
}
