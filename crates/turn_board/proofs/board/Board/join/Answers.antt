use Rattle.std.proofs.Common.{◌∙◌, ap, sym, subst, ◌+◌, ◌++◌, length}
use Rattle.turn_steps.specs.Tied.{counted, place}
use Rattle.turn_steps.specs.Steps.{lost_at}
use Rattle.turn_steps.specs.Passes.{IdleFirst}
use Rattle.turn_steps.proofs.Rows.{row-length}
use Rattle.turn_board.proofs.board.Board.join.Goals as goal

pub join-requires-clause-other : goal.join-requires-clause-other
join-requires-clause-other g c = subst (λ p. IdleFirst c.args.self.now.words.table.shared.table_id p.token) (sym c.into_pass.ensures) c.requires.other

pub join-requires-clause-caller_count : goal.join-requires-clause-caller_count
join-requires-clause-caller_count g c = ap (λ p. p.token.me.0.caller_count) c.into_pass.ensures ∙ c.requires.caller_count

pub returns-clause-seat : goal.returns-clause-seat
returns-clause-seat g c =
    let i = c.requires.seat in
    let r = c.join.ensures.2 in
    let v = c.args.seat.now.pass.token.me.0 in
    let w = c.into_pass.result.token.me.0 in (
      record {
        of_table = c.join.ensures.0 ∙ i.of_table;
        empty = ap (λ m. m.1) r ∙ i.empty;
        counts = ap (λ m. length m.0.counts) r ∙ i.counts;
        places = ap (λ m. length m.0.places) r ∙ i.places;
        losses = ap (λ m. length m.0.lost) r ∙ row-length 0 (length v.counts) (λ t. lost_at v t + lost_at w t) ∙ i.counts;
        vacant = λ t. ap (λ m. place m.0 t) r ∙ i.vacant t;
        none_held = λ t. ap (λ m. counted m.0 t) r ∙ i.none_held t;
      },
      ap (λ m. m.0.caller_count) r,
    )

pub returns-clause-callers : goal.returns-clause-callers
returns-clause-callers g c = ap (λ m. m.0.speaks) c.join.ensures.2 ∙ ap (λ p. p.token.me.0.speaks ++ c.args.seat.now.pass.token.me.0.speaks) c.into_pass.ensures
