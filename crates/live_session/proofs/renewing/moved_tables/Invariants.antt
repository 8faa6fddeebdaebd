use Rattle.std.proofs.Common.{◌≡◌, ◌≤◌, length, map, take, vec_capacity, vec_len}
use Rattle.std.specs.List.{AllByRecursion}
use Rattle.session_values.specs.Opening.{IsPair, tables_of}
use Rattle.session_values.specs.Tables.{kind_of}
use Rattle.shard_tables.specs.Slots.{factor_of}
use Rattle.live_session.specs.Held.{factors_in, held, lists_in}
use Rattle.live_session.specs.Moving.{moved_entries, place_in}
use Rattle.live_session.proofs.renewing.moved_tables.Given as goal

-- the first tables are filled
abbrev pub invariant-loop-part : goal.invariant-loop-part
invariant-loop-part l = record {
  held : held l.parts.items ≡ tables_of (map kind_of (held (take l.part-index l.tables.parts.items))) (map (moved_entries (place_in l.places)) (lists_in (take l.part-index l.tables.parts.items)));
  pairs : AllByRecursion (AllByRecursion IsPair) (map (moved_entries (place_in l.places)) (lists_in (take l.part-index l.tables.parts.items)));
  factors : AllByRecursion (λ n. n ≡ factor_of l.seed) (factors_in l.parts.items);
  long : vec_len l.parts ≡ l.part-index;
  room : length l.tables.parts.items ≤ vec_capacity l.parts;
}
