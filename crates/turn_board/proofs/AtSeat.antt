-- A pass as the seat that has it, and what the rule told it.
use Rattle.std.proofs.Common.{◌≡◌, ℕ, List, [], ◌∷◌, sym, ap, ◌∙◌}
use Rattle.std.specs.Prelude.{slice_get}
use lib.ListN.{get_elem?}
use Rattle.turn_board.specs.declared.seat.Seat.{Seat}
use Rattle.turn_steps.specs.Steps.{Told, note_of, caller_of}
use Rattle.turn_steps.specs.Passes.{Token}
use Rattle.turn_board.specs.Boards.{Tells}

abbrev pub at : {V C : Type 0} (R : Type 0) → Token V C → Seat V R C
at R p = record { pass = record { token = p } }

pub told : {V C : Type 0} (R : Type 0) (holds : List C → List C → Type 0) (slots : ℕ) (q : Token V C) (k : ℕ) (c : C) → q.me.0.speaks ≡ (k, c) ∷ [] → Told holds slots q.me.0 → Tells holds slots (at R q)
told {V} {C} R holds slots q k c one o = let n = o.spoken 0 k c (ap (λ (l : List (ℕ × C)). get_elem? l 0) one) in record {
  contents = o.contents;
  notes = o.notes;
  tied = o.tied;
  turns_is = o.turns_is;
  callers = n.0;
  own = o.own;
  noted = ap (λ (l : List (ℕ × C)). slice_get o.notes (caller_of l)) one ∙ n.1 ∙ sym (ap note_of one);
}
