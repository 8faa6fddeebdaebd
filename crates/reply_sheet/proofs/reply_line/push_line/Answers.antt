use Rattle.std.proofs.Common.{◌∷◌, [], ◌∙◌, arith}
use Rattle.reply_sheet.proofs.LineLemmas.{line_room}
use Rattle.reply_sheet.proofs.reply_line.push_line.Goals as goal

pub push_values-requires-clause-room : goal.push_values-requires-clause-room
push_values-requires-clause-room g c =
    let r = c.reply.inside in
    let start = c.as_bytes.ensures.value ∙ c.format.ensures.text in
    omega (arith, line_room _ c.args.ticket r.count (c.a.result ∷ c.b.result ∷ c.c.result ∷ c.d.result ∷ []) start c.requires.ticket c.reply.invariant.4.1 c.reply.invariant.4.1, c.push.ensures.spare, c.requires.room)

pub push-requires-2 : goal.push-requires-2
push-requires-2 g c =
    let r = c.reply.inside in
    let start = c.as_bytes.ensures.value ∙ c.format.ensures.text in
    omega (arith, line_room _ c.args.ticket r.count (c.a.result ∷ c.b.result ∷ c.c.result ∷ c.d.result ∷ []) start c.requires.ticket c.reply.invariant.4.1 c.reply.invariant.4.1, c.push.ensures.spare, c.requires.room, c.push_values.ensures.len)
