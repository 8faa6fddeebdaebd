use Rattle.std.proofs.Common.{List, sym, subst}
use Rattle.shard_tables.specs.declared.part.Part.{Part}
use Rattle.session_hall.specs.Closings.{ClosedView}
use Rattle.session_hall.specs.Reopenings.{AreKept, HaveMovedIn, OpensOver}
use Rattle.session_hall.proofs.Reopened.{left_opens}
use Rattle.session_hall.proofs.hall.Hall.reopen.Goals as goal

pub returns-in-Ok-clause-room : goal.returns-in-Ok-clause-room
returns-in-Ok-clause-room g c = λ i d e.
    let m = g.S.Tickets.meaning c.args.tickets in
    let r = c.in-Ok.ensures.room i d e in
    let by_list = subst (λ (ps : List Part). HaveMovedIn m c.args.later.now ps c.closed.inside.shards r.0) c.into_vec.ensures r.2 in
    (r.0, r.1, subst (λ (x : ClosedView). HaveMovedIn m c.args.later.now x.parts x.shards r.0) c.closed.view_is by_list)

pub returns-in-Err-clause-again : goal.returns-in-Err-clause-again
returns-in-Err-clause-again g c =
    let m = g.S.Tickets.meaning c.args.tickets in
    let opens = subst (λ (x : ClosedView). OpensOver m x) (sym c.closed.view_is) c.requires.opens in
    let before = subst (λ (ps : List Part). AreKept ps c.in-Err.parts.items) c.into_vec.ensures c.in-Err.ensures.back in
    let kept = subst (λ (ps : List Part). AreKept c.closed.inside.parts ps) (sym c.from_vec.ensures) before in
    left_opens _ c.from_vec.result kept m opens
