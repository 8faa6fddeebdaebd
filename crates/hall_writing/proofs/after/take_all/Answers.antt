-- One more reply is kept, which is spoken for the replies that the end knows.
use Rattle.std.proofs.Common.{◌≡◌, ◌<◌, ℕ, List, Some, slice_get, ap, sym, ◌∙◌, subst, arith}
use Rattle.std.proofs.lemmas.Option.{slice_get_within}
use Rattle.hall_writing.specs.Lanes.{times}
use Rattle.hall_writing.specs.declared.rule.Spoken.{Spoken}
use Rattle.hall_writing.specs.declared.rule.EndState.{EndState}
use Rattle.hall_writing.specs.Sheets.{IsKept}
use Rattle.hall_writing.proofs.Taken.{taken_more}
use Rattle.session_values.specs.declared.reply.Reply.{Reply}
use Rattle.hall_writing.specs.Ends.{state_of}
use Rattle.reply_sheet.specs.Pending.{PendingView}
use Rattle.hall_writing.proofs.Sheets.{keeps_more, keeps_own, keeps_still}
use Rattle.hall_writing.proofs.after.take_all.Goals as goal

pub loop-preserved : goal.loop-preserved
loop-preserved g c =
    let m = c.in-Some-next.m in
    let known = (state_of c.args.end.now).known in
    let e = c.next-in-loop.ensures.end in
    let same = c.loop.invariant.end.2 in
    let kept = c.keep.ensures.kept in
    let there = subst (λ (rs : List Reply). slice_get rs m.ticket ≡ Some m.reply) same c.in-Some-next.ensures.took.spoken in
    record {
      end = (e.0, e.1, e.2 ∙ same);
      keeps = keeps_more known c.loop.pending c.keep.new.self m.ticket m.reply c.loop.invariant.keeps there kept c.keep.ensures.room;
      still = λ t h. keeps_still c.loop.pending c.keep.new.self m.ticket m.reply kept t (c.loop.invariant.still t h);
      next = ap (λ (p : PendingView). p.next) c.keep.ensures.kept ∙ c.loop.invariant.next;
      taken = subst (λ (xs : List Spoken). (t : ℕ) → times t (state_of c.args.end.now).taken < times t xs → IsKept c.keep.new.self t) (sym (ap (λ (v : EndState). v.taken) c.in-Some-next.ensures.took.is))
          (taken_more (state_of c.args.end.now).taken (state_of c.loop.end).taken m c.loop.pending c.keep.new.self c.loop.invariant.taken (keeps_still c.loop.pending c.keep.new.self m.ticket m.reply kept)
          (keeps_own c.loop.pending c.keep.new.self m.ticket m.reply kept (let long = slice_get_within known m.ticket m.reply there in omega (arith, long, c.loop.invariant.keeps.room))));
    }
