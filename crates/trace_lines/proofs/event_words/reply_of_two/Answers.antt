use Rattle.std.proofs.Common.{[], ◌∷◌, ◌∙◌}
use Rattle.trace_lines.specs.Placing.{texts}
use Rattle.trace_lines.proofs.Replies.{reply_more}
use Rattle.trace_lines.proofs.event_words.reply_of_two.Goals as goal

pub returns-in-Some : goal.returns-in-Some
returns-in-Some c = c.reply_of_three.ensures ∙ reply_more c.args.names.now (c.args.a ∷ c.args.b ∷ []) (texts c.args.words.now) (texts c.in-Some.rest.now) c.in-Some.c c.in-Some.ensures.front
