use Rattle.std.proofs.Common.{◌≡◌, List, length, rules, sym, ap, ◌∙◌, subst, arith, false}
use Rattle.session_values.specs.ReplyText.{reply_text}
use Rattle.session_values.specs.declared.reply.Reply.{Reply}
use Rattle.session_journal.specs.Script.{session_of}
use Rattle.handler_machine.specs.Scripts.{meaning}
use Rattle.reply_sheet.specs.Printable.{ArePrintableReplies}
use Rattle.byte_ends.specs.Changes.{change}
use Rattle.serve_single.specs.Serving.{asked_text, script_of_loaded}
use Rattle.serve_single.proofs.Answering.{few_replies, print_replies, replied_is, wrote, wrote_front}
use Rattle.serve_single.proofs.writing.write_answers.Goals as goal

pub write_replies-requires-clause-few : goal.write_replies-requires-clause-few
write_replies-requires-clause-few g c =
    let is : c.as_slice-replies.result.now ≡ c.args.served.now.replies.items = search rules in
    let few = few_replies c.args.loaded.now c.requires.can c.args.served.now.replies.items c.args.served.now.tables c.requires.served in
    omega (arith, few, ap (λ (rs : List Reply). length rs) is)

pub write_replies-requires-clause-printable : goal.write_replies-requires-clause-printable
write_replies-requires-clause-printable g c =
    let is : c.as_slice-replies.result.now ≡ c.args.served.now.replies.items = search rules in
    subst (λ (rs : List Reply). ArePrintableReplies c.args.loaded.now.names rs) (sym is) (print_replies c.args.loaded.now c.requires.can c.args.served.now.replies.items c.args.served.now.tables c.requires.served)

pub returns-then-write_replies : goal.returns-then-write_replies
returns-then-write_replies g c =
    let l = c.args.loaded.now in
    let is : c.as_slice-replies.result.now ≡ c.args.served.now.replies.items = search rules in
    wrote (reply_text l.names 0 c.as_slice-replies.result.now) (asked_text false l.names l.program.file (session_of (meaning (script_of_loaded l)))) (change g.O.Sink.held g.O.Sink.faults c.args.out.now c.write_replies.new.out)
    (ap (λ (rs : List Reply). reply_text l.names 0 rs) is ∙ replied_is l c.requires.can c.args.served.now.replies.items c.args.served.now.tables c.requires.served)
    (c.write_replies.ensures.faults.0 c.if-write_replies.true, c.write_replies.ensures.all c.if-write_replies.true)

pub returns : goal.returns
returns g c =
    let l = c.args.loaded.now in
    let is : c.as_slice-replies.result.now ≡ c.args.served.now.replies.items = search rules in
    wrote_front (reply_text l.names 0 c.as_slice-replies.result.now) (asked_text false l.names l.program.file (session_of (meaning (script_of_loaded l)))) (change g.O.Sink.held g.O.Sink.faults c.args.out.now c.write_replies.new.out)
    (ap (λ (rs : List Reply). reply_text l.names 0 rs) is ∙ replied_is l c.requires.can c.args.served.now.replies.items c.args.served.now.tables c.requires.served)
    (c.write_replies.ensures.faults.1 c.if-write_replies.false) (c.write_replies.ensures.front c.if-write_replies.false)
