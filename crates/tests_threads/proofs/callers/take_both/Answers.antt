use Rattle.std.proofs.Common.{ℕ, ⊎_elim, ap, ◌∙◌, arith, length}
use Rattle.turn_board.specs.Maps.{bits_of}
use Rattle.turn_board.specs.Boards.{held}
use Rattle.tests_threads.proofs.Counting.{in-set, has-both}
use Rattle.tests_threads.proofs.callers.take_both.Goals as goal

pub try_take_all-requires-clause-set : goal.try_take_all-requires-clause-set
try_take_all-requires-clause-set g c = λ u e.
    let three = c.requires.turns in
    ⊎_elim (λ is. (omega arith, omega arith, ap (held c.loop.seat) is ∙ c.loop.invariant.held_is 1 ∙ c.requires.free.0)) (λ is. (omega arith, omega arith, ap (held c.loop.seat) is ∙ c.loop.invariant.held_is 2 ∙ c.requires.free.1)) (in-set u e)

pub try_take_all-requires-clause-room : goal.try_take_all-requires-clause-room
try_take_all-requires-clause-room g c =
    let none' = ap length c.loop.invariant.pairs in
    let bits = ap (λ (n : ℕ). length (bits_of 6 n)) c.requires.turns in
    let room = c.requires.room.1 in
    let same = c.loop.invariant.room in
    omega arith

pub returns-in-Here-clause-both : goal.returns-in-Here-clause-both
returns-in-Here-clause-both g c = has-both _ _ _ _ _ _ c.requires.turns c.loop.invariant.pairs c.loop.invariant.held_is c.in-Here.ensures.answer.0
