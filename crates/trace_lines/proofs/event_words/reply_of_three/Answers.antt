use Rattle.std.proofs.Common.{[], ◌∷◌, ◌∙◌}
use Rattle.trace_lines.specs.Placing.{texts}
use Rattle.trace_lines.proofs.Replies.{reply_more}
use Rattle.trace_lines.proofs.event_words.reply_of_three.Goals as goal

pub returns-in-Some : goal.returns-in-Some
returns-in-Some c = c.reply_of_four.ensures ∙ reply_more c.args.names.now (c.args.a ∷ c.args.b ∷ c.args.c ∷ []) (texts c.args.words.now) (texts c.in-Some.rest.now) c.in-Some.d c.in-Some.ensures.front
