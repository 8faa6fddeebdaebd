use Rattle.std.proofs.Common.{◌≡◌, ℕ, ◌<◌, Some}
use Rattle.admission_book.specs.CallerRecord.{record_at}
use Rattle.admission_book.proofs.fields.place_of.Given as goal

abbrev pub invariant-loop-i : goal.invariant-loop-i
invariant-loop-i l = (k : ℕ) → k < l.i → (record_at l.records k).ticket ≡ Some l.t → ⊥
