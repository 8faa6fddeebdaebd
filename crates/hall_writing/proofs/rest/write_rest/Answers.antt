-- What is left is written from the next ticket on.
use Rattle.std.proofs.Common.{ℕ, List, drop, subst, sym, ◌∙◌, true≢false}
use Rattle.session_values.specs.declared.reply.Reply.{Reply}
use Rattle.session_values.specs.ReplyText.{reply_text}
use Rattle.byte_ends.specs.Ends.{Appended, AppendedPrefix}
use Rattle.hall_writing.specs.Sheets.{progress}
use Rattle.hall_writing.proofs.Sheets.{take_rest, writes_rest}
use Rattle.hall_writing.proofs.rest.write_rest.Goals as goal

pub returns : goal.returns
returns g c =
    let w = c.write_replies in
    let before = g.O.Sink.held c.args.out.now in
    let now = g.O.Sink.held w.new.out in
    let rs = c.args.replies.now in
    let names = c.args.names.now in
    record {
      quiet = λ f. absurd (true≢false (sym f ∙ c.if-sheet.false));
      failed = λ f. absurd (true≢false (sym f ∙ c.if-sheet.false));
      ends = writes_rest rs names (progress before (g.O.Sink.faults c.args.out.now) c.args.sheet) now (g.O.Sink.faults w.new.out) w.result c.if-sheet.false
          (λ ok. subst (λ (k : ℕ). Appended before now (reply_text names k (drop k rs))) c.next-next.ensures (subst (λ (l : List Reply). Appended before now (reply_text names c.next-next.result l)) (take_rest c.next-next.result rs) (w.ensures.all ok)))
          w.ensures.faults
          (λ no. subst (λ (k : ℕ). AppendedPrefix before now (reply_text names k (drop k rs))) c.next-next.ensures (subst (λ (l : List Reply). AppendedPrefix before now (reply_text names c.next-next.result l)) (take_rest c.next-next.result rs) (w.ensures.front no)));
    }
