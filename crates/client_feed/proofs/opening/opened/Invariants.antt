-- While feeders are made: the clients before this one have theirs.
use Rattle.std.proofs.Common.{◌≡◌, ◌≤◌, length, vec_capacity, []}
use Rattle.crossbeam_channel.specs.Claims.{IsSeatAt}
use Rattle.crossbeam_channel.specs.Ends.{sends_on}
use Rattle.client_feed.specs.Feeding.{gatherer}
use Rattle.client_feed.specs.Passes.{knows}
use Rattle.client_feed.proofs.Feeders.{AreMade}
use Rattle.client_feed.proofs.opening.opened.Given as goal

abbrev pub invariant-loop-client : goal.invariant-loop-client
invariant-loop-client g l = record {
  seat : IsSeatAt (sends_on l.sender) l.pass;
  view_is : knows l.pass ≡ gatherer l.client [] l.counts;
  made : AreMade l.counts l.client l.feeders.items;
  room : length l.counts ≤ vec_capacity l.feeders;
  within : l.client ≤ length l.counts;
}
