use Rattle.std.proofs.Common.{◌≡◌, ◌<◌, drop, length, slice_get}
use Rattle.hall_rule.specs.Listing.{all_entries}
use Rattle.session_hall.proofs.listing.entry_at.Given as goal

-- the entry stands behind the shards that were passed
abbrev pub invariant-loop-part : goal.invariant-loop-part
invariant-loop-part l = record {
  same : slice_get (all_entries (drop l.part-index l.parts)) l.left ≡ slice_get (all_entries l.parts) l.i;
  within : l.left < length (all_entries (drop l.part-index l.parts));
}
