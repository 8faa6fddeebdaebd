use Rattle.std.proofs.Common.{List, Option, None, get_or, ◌∙◌, ap, arith}
use Rattle.session_values.specs.declared.reply.Reply.{Reply}
use Rattle.admission_book.proofs.KeptLists.{kept_past, kept_open, kept_ended}
use Rattle.admission_book.proofs.kept_replies.KeptReplies.reply.Goals as goal

pub returns-then-at-len : goal.returns-then-at-len
returns-then-at-len c =
    kept_past c.self.inside.ended.items c.self.inside.replies.items c.args.t (omega (arith, c.if-at-len.true, c.len.ensures, c.self.inside.ended.ok))
    ∙ ap (λ (l : List (Option Reply)). get_or l c.args.t None) c.self.view_is

pub returns-then-not-index : goal.returns-then-not-index
returns-then-not-index c =
    kept_open c.self.inside.ended.items c.self.inside.replies.items c.args.t c.index.result.now (omega (arith, c.if-at-len.false, c.len.ensures, c.self.inside.ended.ok)) c.index.ensures c.if-not-index.true
    ∙ ap (λ (l : List (Option Reply)). get_or l c.args.t None) c.self.view_is

pub returns : goal.returns
returns c =
    kept_ended c.self.inside.ended.items c.self.inside.replies.items c.args.t c.index.result.now c.index-2.result.now (omega (arith, c.if-at-len.false, c.len.ensures, c.self.inside.ended.ok)) c.self.invariant.0 c.index.ensures c.if-not-index.false c.index-2.ensures
    ∙ ap (λ (l : List (Option Reply)). get_or l c.args.t None) c.self.view_is
