use Rattle.trace_audit.proofs.Tickets.{all_tickets, none_done, ticket_done, ticket_fits, ticket_stops}
use Rattle.trace_audit.proofs.replaying.first_unreplayed.Goals as goal

pub loop-t-init : goal.loop-t-init
loop-t-init c = none_done _ _

pub replay_entries-requires : goal.replay_entries-requires
replay_entries-requires c = rw c.entries.ensures (ticket_fits c.args.tables.now c.loop-t.tables c.args.replays.now c.loop-t.t c.index-replays-t.result c.requires c.loop-t.invariant c.loop-t-test.true c.index-replays-t.is)

pub returns-then-not-branch : goal.returns-then-not-branch
returns-then-not-branch c =
    let took = rw c.entries.ensures at c.in_ok-replay_entries.ensures.took in
    ticket_stops c.args.tables.now c.loop-t.tables c.replay_entries.new.tables c.args.replays.now c.loop-t.t c.index-replays-t.result c.in_ok-replay_entries.field-0 c.loop-t.invariant c.loop-t-test.true c.index-replays-t.is c.if-not-branch.true took

pub loop-t-preserved : goal.loop-t-preserved
loop-t-preserved c =
    let took = rw c.entries.ensures at c.in_ok-replay_entries.ensures.took in
    ticket_done c.args.tables.now c.loop-t.tables c.replay_entries.new.tables c.args.replays.now c.loop-t.t c.index-replays-t.result c.in_ok-replay_entries.field-0 c.loop-t.invariant c.loop-t-test.true c.index-replays-t.is c.if-not-branch.false took c.in_ok-replay_entries.ensures.kinds

pub returns : goal.returns
returns c = all_tickets _ _ _ _ c.loop-t.invariant c.loop-t-test.false
