use Rattle.std.proofs.Common.{subst, arith}
use Rattle.admission_book.specs.declared.caller_record.CallerRecord.{CallerRecord}
use Rattle.admission_book.specs.Foresights.{KeepsForesight}
use Rattle.admission_book.proofs.Scans.{scan_more, scan_all, record_is, records_length}
use Rattle.admission_book.proofs.Oldest.{none_older}
use Rattle.admission_book.proofs.Shown.{record_here}
use Rattle.admission_book.proofs.blocker.least_against.Goals as goal

pub older_blocker-found-requires : goal.older_blocker-found-requires
older_blocker-found-requires g c =
    let P : CallerRecord → Type 0 = λ r. KeepsForesight (g.S.Tickets.meaning c.args.script.now) r.foresight in
    subst P (record_here c.args.records.now c.loop-r.r-index c.r-item.result c.loop-r-test.true c.r-item.is) (c.requires.kept c.loop-r.r-index)

pub loop-r-preserved : goal.loop-r-preserved
loop-r-preserved g c =
    let m = g.S.Tickets.meaning c.args.script.now in
    scan_more _ c.args.t c.args.op.now c.loop-r.r-index c.loop-r.found c.older_blocker-found.result _ (record_is m c.args.records.now c.loop-r.r-index c.r-item.result c.loop-r-test.true c.r-item.is) c.loop-r.invariant c.older_blocker-found.ensures

pub returns : goal.returns
returns g c =
    let m = g.S.Tickets.meaning c.args.script.now in
    scan_all _ c.args.t c.args.op.now c.loop-r.r-index c.loop-r.found (omega (arith, c.loop-r-test.false, records_length m c.args.records.now)) c.loop-r.invariant

pub returns-then-t-oldest : goal.returns-then-t-oldest
returns-then-t-oldest g c = none_older (g.S.Tickets.meaning c.args.script.now) c.args.records.now c.args.oldest c.args.t c.args.op.now c.requires.from (omega (arith, c.if-t-oldest.true))
