use Rattle.turn_steps.proofs.words.Words.exchange.Given as goal

abbrev pub ghosts-exchange_at : goal.ghosts-exchange_at
ghosts-exchange_at g a = record { turn = a.turn }
