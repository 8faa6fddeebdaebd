use Rattle.std.proofs.Common.{arith, sym, ap, ◌∙◌, subst}
use Rattle.std.specs.Int.{bit_not, w64}
use Rattle.turn_steps.specs.Maps.{SameTurns}
use Rattle.turn_steps.specs.Steps.{booked}
use Rattle.turn_board.specs.Boards.{held, caller}
use Rattle.turn_board.proofs.Fills.{from-mask}
use Rattle.turn_board.proofs.board.Board.settle.Goals as goal

pub book-requires-clause-note : goal.book-requires-clause-note
book-requires-clause-note g c = (g.R.TieRule.content c.args.book.now.value, ap (λ n. n 0) c.requires.new)

pub book-requires-clause-lies : goal.book-requires-clause-lies
book-requires-clause-lies g c = λ u h e.
    let x = c.requires.lies u h (from-mask c.args.set u c.ranges.set.fits (let f = c.args.self.now.words.few in omega arith) e) in
    (x.0, ap (λ n. n u) c.requires.new ∙ x.1, x.2)

pub book-requires-clause-held : goal.book-requires-clause-held
book-requires-clause-held g c = subst (SameTurns (held c.args.seat.now)) (sym c.requires.new) c.requires.held

pub book-requires-clause-moves : goal.book-requires-clause-moves
book-requires-clause-moves g c = subst (g.R.TieRule.moves c.args.self.now.words.table.shared.table_id.slots (caller c.args.seat.now) (held c.args.seat.now)) (sym c.requires.new) c.requires.moves

pub returns-clause-booked : goal.returns-clause-booked
returns-clause-booked g c = subst (λ n. booked n c.args.self.now.words.table.shared.table_id.slots (bit_not w64 c.args.set) c.args.seat.now.pass.token.me c.book.new.pass.token.me) c.requires.new c.book.ensures.2
