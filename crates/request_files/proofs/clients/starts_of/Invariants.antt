use Rattle.std.proofs.Common.{◌≡◌, sum, take}
use Rattle.request_files.specs.Clients.{starts_from}
use Rattle.request_files.proofs.clients.starts_of.Given as goal

abbrev pub invariant-loop-count : goal.invariant-loop-count
invariant-loop-count l = record {
  starts : l.starts.items ≡ starts_from 0 (take l.count-index l.counts);
  start : l.start ≡ sum (take l.count-index l.counts);
}
