use Rattle.std.proofs.Common.{ℕ, sym, ap, ◌∙◌, arith}
use Rattle.std.specs.Prelude.{slice_get}
use Rattle.turn_board.proofs.Rows.{get-within, map-get}
use Rattle.tests_threads.proofs.rows.open_board.Goals as goal

pub open-requires-clause-rule : goal.open-requires-clause-rule
open-requires-clause-rule c =
    let long = c.args.values.ok.0 in
    let some' = c.requires.values.0 in
    let x = get-within c.args.values.items 0 (omega arith) in
    (x.0, map-get (λ (v : ℕ). v) c.args.values.items 0 x.0 x.1, tt)

pub returns-clause-each : goal.returns-clause-each
returns-clause-each c = λ i s e.
    let long = c.args.values.ok.0 in
    let some' = c.requires.values.0 in
    let x = get-within c.args.values.items 0 (omega arith) in
    let h = c.in_ok-board.ensures.each x.0 (map-get (λ (v : ℕ). v) c.args.values.items 0 x.0 x.1) i s (ap (λ l. slice_get l i) (sym c.into_vec.ensures) ∙ e) in
    record { seat = h.seat; caller_is = h.caller_is; caller_count_is = h.caller_count_is; free = h.free }
