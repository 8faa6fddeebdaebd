use Rattle.std.proofs.Common.{sym, ap, ◌∙◌, map, vec_len}
use Rattle.std.specs.Prelude.{slice_get}
use Rattle.turn_board.proofs.Opened.{begins, first-idle, first-unlost}
use Rattle.turn_board.proofs.board.Board.open_or_return.Goals as goal

pub hand_out-requires-clause-first : goal.hand_out-requires-clause-first
hand_out-requires-clause-first g c =
    let r = c.requires.rule in
    let f = c.in-Ok-open.ensures.first r.0 r.1 in
    let contents = map g.R.TieRule.content c.args.values.items in (
      first-idle _ c.in-Ok-open.pass.token (vec_len c.args.values) c.args.callers r.0 contents f.0 f.1 c.in-Ok-open.ensures.turns,
      first-unlost c.in-Ok-open.words.table.shared.table_id c.in-Ok-open.pass.token (vec_len c.args.values) c.args.callers r.0 contents f.0 f.1 c.in-Ok-open.ensures.turns,
    )

pub hand_out-requires-clause-caller_count : goal.hand_out-requires-clause-caller_count
hand_out-requires-clause-caller_count g c =
    let r = c.requires.rule in
    let f = c.in-Ok-open.ensures.first r.0 r.1 in
    (ap (λ m. m.0.caller_count) f.1, (r.0, ap (λ m. m.0.speaks) f.1))

pub returns-in-Ok-open-clause-each : goal.returns-in-Ok-open-clause-each
returns-in-Ok-open-clause-each g c = λ b has i s at.
    let f = c.in-Ok-open.ensures.first b has in
    begins _ c.args.callers b _ i s (c.hand_out.ensures.each b (ap (λ m. m.0.speaks) f.1) i s (ap (λ l. slice_get l i) (sym c.from_vec.ensures) ∙ at))

pub returns-in-Ok-open-clause-opened : goal.returns-in-Ok-open-clause-opened
returns-in-Ok-open-clause-opened g c = λ i s at.
    let r = c.requires.rule in
    let f = c.in-Ok-open.ensures.first r.0 r.1 in
    (c.hand_out.ensures.each r.0 (ap (λ m. m.0.speaks) f.1) i s (ap (λ l. slice_get l i) (sym c.from_vec.ensures) ∙ at)).change_is ∙ ap (λ m. m.0.change) f.1
