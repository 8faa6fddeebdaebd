use Rattle.std.proofs.Common.{ap, ◌∙◌, length, None}
use Rattle.turn_steps.specs.declared.view.Place.TheVariants.{Vacant}
use Rattle.turn_steps.specs.Tied.{counted, place}
use Rattle.turn_steps.specs.Steps.{head, tail, lost_at}
use Rattle.turn_steps.proofs.CallerCounts.{none-at}
use Rattle.turn_steps.proofs.Rows.{row-length}
use Rattle.turn_board.proofs.board.Board.part.Goals as goal

pub returns-clause-one : goal.returns-clause-one
returns-clause-one g c = let r = c.split.ensures.first.1 in let v = c.args.seat.now.pass.token.me.0 in let n = length v.counts in (
  record {
    of_table = c.split.ensures.first.0 ∙ c.requires.seat.of_table;
    empty = ap (λ m. m.1) r;
    counts = ap (λ m. length m.0.counts) r ∙ row-length 0 n (λ _. None) ∙ c.requires.seat.counts;
    places = ap (λ m. length m.0.places) r ∙ row-length 0 n (λ _. Vacant) ∙ c.requires.seat.counts;
    losses = ap (λ m. length m.0.lost) r ∙ row-length 0 n (λ _. 0) ∙ c.requires.seat.counts;
    vacant = λ t. ap (λ m. place m.0 t) r ∙ none-at t n Vacant;
    none_held = λ t. ap (λ m. counted m.0 t) r ∙ none-at t n None;
  },
  ap (λ m. m.0.caller_count) r,
)

pub returns-clause-callers : goal.returns-clause-callers
returns-clause-callers g c = λ k n d e. (ap (λ m. m.0.speaks) c.split.ensures.rest.2 ∙ ap tail e, ap (λ m. m.0.speaks) c.split.ensures.first.1 ∙ ap head e)

pub returns-clause-counts : goal.returns-clause-counts
returns-clause-counts g c = let r = c.split.ensures.first.1 in let l = c.split.ensures.rest.2 in let v = c.args.seat.now.pass.token.me.0 in (
  record { lost = λ t. ap (λ m. lost_at m.0 t) r ∙ none-at t (length v.counts) 0; given = ap (λ m. m.0.given) r; asks = ap (λ m. m.0.asks) r; givings = ap (λ m. m.0.givings) r },
  λ h. record { lost = λ t. ap (λ m. lost_at m.0 t) l ∙ h.lost t; given = ap (λ m. m.0.given) l ∙ h.given; asks = ap (λ m. m.0.asks) l ∙ h.asks; givings = ap (λ m. m.0.givings) l ∙ h.givings },
)

pub returns-clause-change : goal.returns-clause-change
returns-clause-change g c = (ap (λ m. m.0.change) c.split.ensures.rest.2, ap (λ m. m.0.change) c.split.ensures.first.1)
