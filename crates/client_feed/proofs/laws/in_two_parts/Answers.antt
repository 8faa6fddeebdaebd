-- The laws of rounds.
use Rattle.client_feed.proofs.RoundsFacts.{before_first, tables_in_two, serial_in_two, replies_in_two}
use Rattle.client_feed.proofs.laws.in_two_parts.Goals as goal

pub returns : goal.returns
returns c = record { first = before_first; tables = tables_in_two; tickets = serial_in_two; replies = replies_in_two }
