use Rattle.std.proofs.Common.{refl, sym, ap, ◌∙◌, [], ◌∷◌, ◌++◌, length}
use Rattle.std.specs.Prelude.{slice_get, option_to_list}
use Rattle.turn_board.specs.Closings.{all_notes}
use Rattle.turn_steps.proofs.Rows.{get-last, get-longer}
use Rattle.turn_board.proofs.Closes.{spoken_notes-snoc}
use Rattle.turn_board.proofs.board.Board.gather.Goals as goal

pub join-requires-clause-other : goal.join-requires-clause-other
join-requires-clause-other g c =
    let is = c.pop.ensures.items ∙ ap (λ o. c.pop.new.self.items ++ option_to_list o) c.in-Some.is in
    (c.loop-other.invariant.others (length c.pop.new.self.items) c.in-Some.other (ap (λ l. slice_get l (length c.pop.new.self.items)) is ∙ get-last c.pop.new.self.items c.in-Some.other _ refl)).0

pub join-requires-clause-caller_count : goal.join-requires-clause-caller_count
join-requires-clause-caller_count g c =
    let is = c.pop.ensures.items ∙ ap (λ o. c.pop.new.self.items ++ option_to_list o) c.in-Some.is in
    (c.loop-other.invariant.others (length c.pop.new.self.items) c.in-Some.other (ap (λ l. slice_get l (length c.pop.new.self.items)) is ∙ get-last c.pop.new.self.items c.in-Some.other _ refl)).1

pub loop-other-preserved : goal.loop-other-preserved
loop-other-preserved g c =
    let is = c.pop.ensures.items ∙ ap (λ o. c.pop.new.self.items ++ option_to_list o) c.in-Some.is in
    record {
      idle = c.join.ensures.seat.0;
      others = λ i s e. let h = c.loop-other.invariant.others i s (ap (λ l. slice_get l i) is ∙ get-longer c.pop.new.self.items (c.in-Some.other ∷ []) i s e) in (h.0, h.1 ∙ sym c.join.ensures.seat.1);
      caller_count_is = c.join.ensures.seat.1 ∙ c.loop-other.invariant.caller_count_is;
      callers = ap (λ l. all_notes c.pop.new.self.items ++ l) c.join.ensures.callers
          ∙ sym (spoken_notes-snoc c.pop.new.self.items c.in-Some.other c.loop-other.seat.pass.token.me.0.speaks)
          ∙ ap (λ l. all_notes l ++ c.loop-other.seat.pass.token.me.0.speaks) (sym is)
          ∙ c.loop-other.invariant.callers;
    }
