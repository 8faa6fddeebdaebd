-- The numbers of requests are those that are passed.
use Rattle.client_feed.proofs.opening.Feed.open.Given as goal

abbrev pub ghosts-opened : goal.ghosts-opened
ghosts-opened a = record { counts = a.counts.now }
