-- Between rounds: what arrived so far is served, and of each table is known what may be added.
use Rattle.std.proofs.Common.{◌≡◌, ◌-◌, length, sum, vec_capacity}
use Rattle.handler_check.specs.Resolved.{shape_of}
use Rattle.client_feed.proofs.Between.{IsBetween}
use Rattle.client_feed.proofs.rounds.serve_rounds.Given as goal

abbrev pub invariant-rounds : goal.invariant-rounds
invariant-rounds g l = record {
  between : IsBetween l.fn.work.program.now l.fn.work.opening.now l.fn.work.clients.now l.fn.sizes.callers l.fn.sizes.shards l.gatherer l.arrivals l.replies.items (vec_capacity l.replies) l.closed;
  later : length l.later.items ≡ length (shape_of l.fn.work.program.now.file);
}

abbrev pub decreases-rounds : goal.decreases-rounds
decreases-rounds g l = sum l.gatherer.counts - length l.gatherer.got
