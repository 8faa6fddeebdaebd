-- The numbers of arrivals are different ones of requests.
use Rattle.std.proofs.Common.{◌≡◌, sum, length, List, ap, sym, ◌∙◌, arith}
use Rattle.request_files.specs.declared.request.Request.{Request}
use Rattle.client_feed.proofs.DrawnNumbers.{arrival_at, arrivals_there, numbers_ready}
use Rattle.client_feed.proofs.picking.requests_of.Goals as goal

pub number-requires-clause-client : goal.number-requires-clause-client
number-requires-clause-client c =
    (arrival_at c.args.clients.now.counts c.args.arrivals.now c.loop-arrival.arrival-index _ (arrivals_there c.args.clients.now.counts c.requires.before c.args.arrivals.now c.requires.drawn) (omega arith)).0

pub number-requires-clause-place : goal.number-requires-clause-place
number-requires-clause-place c =
    (arrival_at c.args.clients.now.counts c.args.arrivals.now c.loop-arrival.arrival-index _ (arrivals_there c.args.clients.now.counts c.requires.before c.args.arrivals.now c.requires.drawn) (omega arith)).1

pub pick-requires : goal.pick-requires
pick-requires c =
    let all : sum c.args.clients.now.counts ≡ length c.requests.result.now = c.clients-clients.ensures.shared.all ∙ ap (λ (rs : List Request). length rs) (sym c.requests.ensures) in
    numbers_ready c.args.clients.now.counts c.requires.before c.args.arrivals.now (length c.requests.result.now) c.loop-arrival.arrival-index c.as_slice.result.now c.requires.drawn all (omega arith) (c.as_slice.ensures.value ∙ c.loop-arrival.invariant.0)
