use Rattle.std.proofs.Common.{[], ◌∙◌}
use Rattle.trace_lines.specs.Placing.{texts}
use Rattle.trace_lines.proofs.Replies.{reply_more}
use Rattle.trace_lines.proofs.event_words.reply.Goals as goal

pub returns-in-Some : goal.returns-in-Some
returns-in-Some c = c.reply_of_one.ensures ∙ reply_more c.args.names.now ([]) (texts c.args.words.now) (texts c.in-Some.rest.now) c.in-Some.a c.in-Some.ensures.front
