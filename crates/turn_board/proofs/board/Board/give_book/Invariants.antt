use Rattle.turn_board.specs.Hands.{put_back}
use Rattle.turn_board.proofs.board.Board.give_book.Given as goal

abbrev pub ghosts-settle : goal.ghosts-settle
ghosts-settle g a = record { new = put_back g.R.TieRule.content a.book.now.value a.hands.now.value.pairs }
