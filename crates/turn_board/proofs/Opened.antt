-- The first pass of a board, and the seats that are cut from it.
use Rattle.std.proofs.Common.{◌≡◌, ℕ, List, [], length, sym, ap, ◌∙◌}
use Rattle.std.specs.Prelude.{None}
use Rattle.turn_steps.specs.Seated.{TableId}
use Rattle.turn_steps.specs.declared.view.Place.TheVariants.{Vacant}
use Rattle.turn_steps.specs.Tied.{counted, place, first_view, all_speak}
use Rattle.turn_steps.specs.Steps.{lost_at, note_of, caller_of}
use Rattle.turn_steps.specs.Passes.{Token, IdleFirst}
use Rattle.turn_board.specs.declared.board.Board.{Board}
use Rattle.turn_board.specs.declared.seat.Seat.{Seat}
use Rattle.turn_board.specs.Boards.{Begins}
use Rattle.turn_board.specs.Openings.{Unlost, Fresh}
use Rattle.turn_steps.proofs.Rows.{row-length}
use Rattle.turn_steps.proofs.CallerCounts.{none-at}

-- the first pass
module _ {V C : Type 0} (id : TableId) (p : Token V C) (turns caller_count : ℕ) (note : C) (contents : List C) (of-table : p.table_id ≡ id) (is : p.me ≡ (first_view turns caller_count note contents, [])) (slots : id.slots ≡ turns) where
  pub first-idle : IdleFirst id p
  first-idle = record {
    of_table = of-table;
    empty = ap (λ m. m.1) is;
    counts = ap (λ m. length m.0.counts) is ∙ row-length 0 turns (λ _. None) ∙ sym slots;
    places = ap (λ m. length m.0.places) is ∙ row-length 0 turns (λ _. Vacant) ∙ sym slots;
    losses = ap (λ m. length m.0.lost) is ∙ row-length 0 turns (λ _. 0) ∙ sym slots;
    vacant = λ t. ap (λ m. place m.0 t) is ∙ none-at t turns Vacant;
    none_held = λ t. ap (λ m. counted m.0 t) is ∙ none-at t turns None;
  }

  pub first-unlost : Unlost p
  first-unlost = record { lost = λ t. ap (λ m. lost_at m.0 t) is ∙ none-at t turns 0; given = ap (λ m. m.0.given) is; asks = ap (λ m. m.0.asks) is; givings = ap (λ m. m.0.givings) is }

  pub first-caller_count : p.me.0.caller_count ≡ caller_count
  first-caller_count = ap (λ m. m.0.caller_count) is

  pub first-speaks : p.me.0.speaks ≡ all_speak 0 caller_count note
  first-speaks = ap (λ m. m.0.speaks) is

-- a fresh seat, in the words of a contract
pub begins : {V R C : Type 0} (b : Board V R C) (n : ℕ) (note : C) (change : ℕ × List C) (k : ℕ) (s : Seat V R C) → Fresh b.words.table.shared.table_id n note change k s.pass.token → Begins b n note k s
begins b n note change k s f = record {
  seat = record {
    placed = record { of_table = f.idle.of_table; empty = f.idle.empty; counts = f.idle.counts; places = f.idle.places; losses = f.idle.losses; one = (k, note, f.speaks) };
    vacant = f.idle.vacant;
  };
  caller_is = ap caller_of f.speaks;
  note_is = ap note_of f.speaks;
  caller_count_is = f.caller_count_is;
  free = f.idle.none_held;
  unlost = f.unlost.lost;
  ungiven = f.unlost.given;
  unasked = f.unlost.asks;
  ungiving = f.unlost.givings;
}
