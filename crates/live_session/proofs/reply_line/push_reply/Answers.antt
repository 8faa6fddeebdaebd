use Rattle.std.proofs.Common.{◌≡◌, ◌≤◌, ◌++◌, length, drop, sym, ◌∙◌, ap, subst, arith, length-drop}
use Rattle.text_lines.specs.Text.{Text}
use Rattle.live_session.specs.Answers.{reply_line}
use Rattle.live_session.proofs.OneRow.{line_dropped, line_long}
use Rattle.live_session.proofs.reply_line.push_reply.Goals as goal

pub split_at-requires : goal.split_at-requires
split_at-requires g c =
    let is = c.bytes.ensures ∙ c.line.ensures in
    subst (λ (t : Text). 2 ≤ length t) (sym is) (line_long c.args.names.now c.args.reply.now)

pub push-requires : goal.push-requires
push-requires g c =
    let long = ap (λ (t : Text). length t) c.bytes.ensures in
    let cut = ap (λ (t : Text). length t) c.split_at.ensures.back in
    let short = length-drop 2 c.bytes.result.now in
    omega (arith, long, cut, short, c.len-len.ensures.len, c.len-len.ensures.bound, c.requires.room)

pub returns-clause-text : goal.returns-clause-text
returns-clause-text g c =
    let is = c.bytes.ensures ∙ c.line.ensures in
    c.push.ensures.held ∙ ap (λ (t : Text). g.T.TextRoom.held c.args.out.now ++ t) (c.split_at.ensures.back ∙ ap (drop 2) is ∙ line_dropped c.args.names.now c.args.reply.now)

pub returns-clause-short : goal.returns-clause-short
returns-clause-short g c =
    let is = c.bytes.ensures ∙ c.line.ensures in
    let whole : drop 2 c.bytes.result.now ≡ reply_line c.args.names.now c.args.reply.now = ap (drop 2) is ∙ line_dropped c.args.names.now c.args.reply.now in
    let long = ap (λ (t : Text). length t) c.bytes.ensures in
    let same = ap (λ (t : Text). length t) whole in
    let short = length-drop 2 c.bytes.result.now in
    omega (arith, long, same, short, c.len-len.ensures.len, c.len-len.ensures.bound)
