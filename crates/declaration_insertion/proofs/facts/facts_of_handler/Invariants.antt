use Rattle.std.proofs.Common.{◌≡◌, ℕ, ◌-◌, ◌<◌, length, []}
use Rattle.std.specs.Prelude.{slice_index_or}
use Rattle.declaration_insertion.specs.Facts.{HasFacts, IsAlike, no_facts}
use Rattle.declaration_insertion.specs.Promises.{listed}
use Rattle.declaration_insertion.proofs.facts.facts_of_handler.Given as goal

abbrev pub invariant-loop-point : goal.invariant-loop-point
invariant-loop-point l = record {
  count : length l.facts.items ≡ l.point;
  alike : IsAlike (listed (slice_index_or l.later l.h [])) l.alike (l.point - 1);
  each : (p : ℕ) → p < l.point → HasFacts (listed (slice_index_or l.later l.h [])) p (slice_index_or l.facts.items p no_facts);
}
