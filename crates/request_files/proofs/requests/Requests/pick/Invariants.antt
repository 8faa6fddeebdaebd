use Rattle.std.proofs.Common.{◌≡◌, length, take}
use Rattle.request_files.specs.Entries.{AreWithin, requests_in}
use Rattle.request_files.specs.Picked.{picked}
use Rattle.request_files.proofs.requests.Requests.pick.Given as goal

abbrev pub invariant-loop-number : goal.invariant-loop-number
invariant-loop-number l = record {
  picked : requests_in l.values.items l.entries.items ≡ picked l.self (take l.number-index l.numbers);
  within : AreWithin (length l.values.items) l.entries.items;
  count : length l.entries.items ≡ l.number-index;
}
