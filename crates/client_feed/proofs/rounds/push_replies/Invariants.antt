-- While replies are appended: those so far stand behind the earlier ones.
use Rattle.std.proofs.Common.{◌≡◌, ◌++◌, take, vec_capacity}
use Rattle.client_feed.proofs.rounds.push_replies.Given as goal

abbrev pub invariant-loop-reply : goal.invariant-loop-reply
invariant-loop-reply l = (l.replies.items ≡ l.fn.replies.items ++ take l.reply-index l.closed.replies) × (vec_capacity l.replies ≡ vec_capacity l.fn.replies)
