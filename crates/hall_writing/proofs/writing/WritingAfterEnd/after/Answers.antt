-- The ticket's own reply is kept, and then it goes on as without one.
use Rattle.std.proofs.Common.{◌≡◌, ◌+◌, ◌<◌, length, arith, subst}
use Rattle.std.proofs.lemmas.Option.{slice_get_within}
use Rattle.hall_writing.specs.Ends.{state_of}
use Rattle.hall_writing.specs.Sheets.{IsKept, progress}
use Rattle.hall_writing.proofs.Progress.{goes_from}
use Rattle.hall_writing.proofs.Sheets.{keeps_own, keeps_still, next_kept}
use Rattle.hall_writing.proofs.Taken.{keeps_given}
use Rattle.hall_writing.proofs.writing.WritingAfterEnd.after.Goals as goal

pub returns-clause-takes : goal.returns-clause-takes
returns-clause-takes g c replies may =
    let old = c.args.self.now in
    let given = c.requires.takes in
    c.meanwhile.ensures.takes replies (record {
      end = may.end;
      keeps = keeps_given given.0 replies (state_of old.end.now).known old.sheet.now.pending c.keep.new.self c.args.ticket c.args.reply given.1.end.2 may.end.2 given.2 may.keeps c.keep.ensures.kept c.keep.ensures.room;
      few = may.few;
      printable = may.printable;
    })

pub returns-clause-given : goal.returns-clause-given
returns-clause-given g c =
    let old = c.args.self.now in
    let was = old.sheet.now.pending in
    let now = c.meanwhile.new.self in
    let given = c.requires.takes in
    let on = c.meanwhile.ensures.given in
    let kept = c.keep.ensures.kept in
    let low : c.args.ticket < was.next + length was.waiting = omega (arith, slice_get_within given.0 c.args.ticket c.args.reply given.2, given.1.keeps.room) in
    let own : IsKept now.sheet.now.pending c.args.ticket = on.still c.args.ticket (keeps_own was c.keep.new.self c.args.ticket c.args.reply kept low) in
    record {
      end_still = on.end_still;
      sheet_still = on.sheet_still;
      out_still = on.out_still;
      names_still = on.names_still;
      known_still = on.known_still;
      alone_still = on.alone_still;
      own = λ u at. let same : c.args.ticket ≡ u = cc in subst (IsKept now.sheet.now.pending) same own;
      taken = on.taken;
      empty = on.empty;
      still = λ u before. on.still u (keeps_still was c.keep.new.self c.args.ticket c.args.reply kept u before);
      stops = on.stops;
      failed = on.failed;
      quiet = on.quiet;
      on = goes_from (state_of old.end.now).known old.names.now (g.O.Sink.held old.out.now) (g.O.Sink.faults old.out.now) c.keep.new.self.next was.next old.sheet.now.failed
          (progress (g.O.Sink.held now.out.now) (g.O.Sink.faults now.out.now) now.sheet.now) (next_kept was c.keep.new.self c.args.ticket c.args.reply kept) on.on;
    }
