-- What was taken is kept, and then the lines that are next are written, unless writing had failed.
use Rattle.std.proofs.Common.{ℕ, List, refl, sym, ◌∙◌, subst, true≢false}
use Rattle.std.proofs.lemmas.Bool.{not-false}
use Rattle.session_values.specs.declared.reply.Reply.{Reply}
use Rattle.hall_writing.specs.Ends.{state_of}
use Rattle.hall_writing.specs.Sheets.{IsKept, Keeps}
use Rattle.hall_writing.proofs.Progress.{goes_from}
use Rattle.hall_writing.proofs.Sheets.{keeps_behind, kept_behind, kept_printable, stays, stops_behind, writes_next}
use Rattle.hall_writing.proofs.writing.WritingAfterEnd.meanwhile.Goals as goal

pub write_ready-whole-requires-clause-printable : goal.write_ready-whole-requires-clause-printable
write_ready-whole-requires-clause-printable g c =
    let given = c.requires.takes in
    let was = c.take_all.new.pending in
    kept_printable c.args.self.now.names.now given.0 was given.1.printable (subst (λ (rs : List Reply). Keeps rs was) given.1.end.2 c.take_all.ensures.keeps)

pub returns-clause-takes : goal.returns-clause-takes
returns-clause-takes g c replies may =
    let taken = c.take_all.ensures in
    let was = c.take_all.new.pending in
    let w = c.write_ready-whole in
    let far = w.ensures.onward in
    record {
      end = (taken.end.0, taken.end.1, taken.end.2 ∙ may.end.2);
      keeps = keeps_behind replies was w.new.pending far.0 far.1 far.2 far.3 (subst (λ (rs : List Reply). Keeps rs was) may.end.2 taken.keeps);
      few = may.few;
      printable = may.printable;
    }

pub returns-then-sheet-clause-given : goal.returns-then-sheet-clause-given
returns-then-sheet-clause-given g c =
    let old = c.args.self.now in
    let taken = c.take_all.ensures in
    let held = g.O.Sink.held old.out.now in
    let faults = g.O.Sink.faults old.out.now in
    let known = (state_of old.end.now).known in
    record {
      end_still = refl;
      sheet_still = refl;
      out_still = refl;
      names_still = refl;
      known_still = taken.end.2;
      alone_still = refl;
      own = λ u none. cc;
      taken = taken.taken;
      empty = taken.empty;
      still = taken.still;
      stops = λ sound. absurd (true≢false (sym c.if-sheet.true ∙ sound));
      failed = λ failed. failed;
      quiet = λ failed. refl;
      on = goes_from known old.names.now held faults c.take_all.new.pending.next old.sheet.now.pending.next old.sheet.now.failed _ taken.next (stays known old.names.now _);
    }

pub returns-clause-given : goal.returns-clause-given
returns-clause-given g c =
    let old = c.args.self.now in
    let taken = c.take_all.ensures in
    let was = c.take_all.new.pending in
    let w = c.write_ready-whole in
    let now = w.new.pending in
    let far = w.ensures.onward in
    let still : (t : ℕ) → IsKept was t → IsKept now t = kept_behind was now far.0 far.1 far.2 in
    let held = g.O.Sink.held old.out.now in
    let faults = g.O.Sink.faults old.out.now in
    let known = (state_of old.end.now).known in
    record {
      end_still = refl;
      sheet_still = refl;
      out_still = refl;
      names_still = refl;
      known_still = taken.end.2;
      alone_still = refl;
      own = λ u none. cc;
      taken = λ u more. still u (taken.taken u more);
      empty = taken.empty;
      still = λ u kept. still u (taken.still u kept);
      stops = λ sound. stops_behind was now far.0 far.1 far.2 (w.ensures.next (not-false w.result sound));
      failed = λ failed. absurd (true≢false (sym failed ∙ c.if-sheet.false));
      quiet = λ failed. absurd (true≢false (sym failed ∙ c.if-sheet.false));
      on = goes_from known old.names.now held faults was.next old.sheet.now.pending.next old.sheet.now.failed _ taken.next
          (writes_next known old.names.now was.waiting (record { held = held; faults = faults; next = was.next; failed = old.sheet.now.failed }) (g.O.Sink.held w.new.out) (g.O.Sink.faults w.new.out) now.next w.result
          taken.keeps c.if-sheet.false w.ensures.next w.ensures.all w.ensures.faults w.ensures.front);
    }
