-- The replies that the book knows are kept, and nothing else is done.
use Rattle.std.proofs.Common.{List, length, refl, sym, subst}
use Rattle.session_values.specs.declared.reply.Reply.{Reply}
use Rattle.session_journal.specs.Journal.{ended}
use Rattle.session_hall.specs.Holdings.{present_book}
use Rattle.hall_writing.specs.Sheets.{KeepsEnded}
use Rattle.hall_writing.proofs.writing.WritingAfterEnd.see.Goals as goal

pub returns-then-not-sheet-2-clause-seen : goal.returns-then-not-sheet-2-clause-seen
returns-then-not-sheet-2-clause-seen g c = record {
  end_still = refl;
  end_now = refl;
  sheet_still = refl;
  out_still = refl;
  out_now = refl;
  names_still = refl;
  next_still = c.keep_known.ensures.next;
  failed_still = refl;
  alone_still = refl;
  still = c.keep_known.ensures.still;
  kept = λ two sound. subst (λ (rs : List Reply). KeepsEnded (length rs) c.args.self.now.sheet.now.pending.next (λ t. ended (present_book c.args.holding.now).journal t) c.keep_known.new.pending) (sym c.requires.takes.end.2) c.keep_known.ensures.ended;
}
