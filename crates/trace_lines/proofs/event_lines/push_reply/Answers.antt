use Rattle.std.proofs.Common.{arith, ap, subst, sym}
use Rattle.session_values.specs.declared.reply.Reply.{Reply}
use Rattle.session_values.specs.ReplyText.{IsPrintable}
use Rattle.trace_lines.proofs.Joined.{second, third}
use Rattle.trace_lines.proofs.event_lines.push_reply.Goals as goal

pub push_literal-requires-then-reply-gt1-clause-printable : goal.push_literal-requires-then-reply-gt1-clause-printable
push_literal-requires-then-reply-gt1-clause-printable g c =
    let r = c.args.reply.now in
    subst (IsPrintable c.args.names.now) (sym c.b.ensures) (second (IsPrintable c.args.names.now) r.a r.b r.c r.d r.count (omega (arith, c.if-reply-gt1.true, ap (λ (x : Reply). x.count) c.reply.view_is)) c.requires.printable)

pub push_literal-requires-then-reply-gt2-clause-printable : goal.push_literal-requires-then-reply-gt2-clause-printable
push_literal-requires-then-reply-gt2-clause-printable g c =
    let r = c.args.reply.now in
    subst (IsPrintable c.args.names.now) (sym c.c.ensures) (third (IsPrintable c.args.names.now) r.a r.b r.c r.d r.count (omega (arith, c.if-reply-gt2.true, ap (λ (x : Reply). x.count) c.reply.view_is)) c.requires.printable)
