use Rattle.std.proofs.Common.{◌++◌, sym, ap, ◌∙◌}
use Rattle.std.specs.Prelude.{slice_get, option_to_list}
use Rattle.turn_board.proofs.Rows.{get-last, get-longer}
use Rattle.tests_threads.proofs.rows.last_seat.Goals as goal

pub returns-clause-each : goal.returns-clause-each
returns-clause-each c = λ i s e.
    c.requires.each i s (ap (λ l. slice_get l i) c.pop.ensures.items ∙ get-longer c.pop.new.self.items (option_to_list c.pop.result) i s e)

pub returns-clause-seat : goal.returns-clause-seat
returns-clause-seat c =
    let is = c.pop.ensures.items ∙ ap (λ o. c.pop.new.self.items ++ option_to_list o) c.unwrap.ensures in
    c.requires.each c.pop.new.self.len c.unwrap.result (ap (λ l. slice_get l c.pop.new.self.len) is ∙ get-last c.pop.new.self.items c.unwrap.result c.pop.new.self.len (sym c.pop.new.self.ok.0))
