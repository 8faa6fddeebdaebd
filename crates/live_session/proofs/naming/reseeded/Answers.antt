use Rattle.std.proofs.Common.{List, ap, ◌∙◌}
use Rattle.session_values.specs.Names.{with_text}
use Rattle.text_lines.specs.Text.{Text}
use Rattle.live_session.proofs.Seeds.{placed_more}
use Rattle.live_session.proofs.naming.reseeded.Goals as goal

pub loop-place-preserved : goal.loop-place-preserved
loop-place-preserved c =
    c.in_ok-place.ensures.list
    ∙ ap (λ (ns : List Text). with_text ns c.text.result.now) c.loop-place.invariant
    ∙ placed_more c.args.names.now c.loop-place.place c.text.result.now c.len-place-end.ensures.distinct c.text.ensures
