use Rattle.std.proofs.Common.{◌≡◌, replicate, vec_capacity}
use Rattle.admission_book.specs.CallerRecord.{idle_record}
use Rattle.admission_book.proofs.fields.idle_records.Given as goal

abbrev pub invariant-loop : goal.invariant-loop
invariant-loop l = record {
  items : l.records.items ≡ replicate l.counter idle_record;
  room : vec_capacity l.records ≡ l.callers;
}
