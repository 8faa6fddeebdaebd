use Rattle.std.proofs.Common.{◌<◌, List, Option, Some, length, ◌∙◌, ap, arith}
use Rattle.std.proofs.Math.ListN.{set}
use Rattle.session_values.specs.declared.reply.Reply.{Reply}
use Rattle.admission_book.proofs.KeptLists.{kept_length, kept_set}
use Rattle.admission_book.proofs.kept_replies.KeptReplies.keep.Goals as goal

pub index_mut-requires : goal.index_mut-requires
index_mut-requires c = omega (arith, c.requires, ap length c.self.view_is, kept_length c.self.inside.ended.items c.self.inside.replies.items, c.self.invariant.0, c.self.inside.replies.ok)

pub index_mut-requires-2 : goal.index_mut-requires-2
index_mut-requires-2 c = omega (arith, c.requires, ap length c.self.view_is, kept_length c.self.inside.ended.items c.self.inside.replies.items, c.self.inside.ended.ok)

pub returns : goal.returns
returns c =
    let within : c.args.t < length c.self.inside.ended.items = omega (arith, c.requires, ap length c.self.view_is, kept_length c.self.inside.ended.items c.self.inside.replies.items) in
    kept_set c.self.inside.ended.items c.self.inside.replies.items c.args.t c.args.reply within (omega (arith, within, c.self.invariant.0))
    ∙ ap (λ (l : List (Option Reply)). set l c.args.t (Some c.args.reply)) c.self.view_is
