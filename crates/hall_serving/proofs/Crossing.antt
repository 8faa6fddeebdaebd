-- A hall is shared among threads where its script may be sent to them.
use mir.Syntax.{given}
use denote.RattleType.{RattleType}
use denote.Param.Send.{IsSend, IsSync, part_keyless}
use denote.Param.SendFields.{declared_sync, as_row_sync}
use Rattle.std.specs.contracts.snapshot.Snapshot as snapshot
use Rattle.std.specs.contracts.sync.Mutex as mutex
use Rattle.std.proofs.sync.Mutex.TheSendSync as locked
use Rattle.std.proofs.sync.atomic.AtomicU32.TheSendSync as counted
use Rattle.session_journal.specs.declared.tickets.Tickets.{Ghosts}
use Rattle.turn_board.proofs.board.Board.TheSendSync as board
use Rattle.turn_board.specs.contracts.seat.Seat as seat_row
use Rattle.turn_board.proofs.seat.Seat.TheSendSync as seat
use Rattle.hall_rule.specs.contracts.held.Counted as counted_row
use Rattle.hall_rule.specs.contracts.held.Held as held_row
use Rattle.hall_rule.specs.contracts.hall_rule.HallRule as rule_row
use Rattle.hall_rule.specs.contracts.hall_rule.HallRuleTieRuleHeld.TheImpl as rule
use Rattle.hall_rule.proofs.held.Held.TheSendSync as held
use Rattle.shard_tables.specs.contracts.part.Part as part_row
use Rattle.shard_tables.proofs.part.Part.TheSendSync as part
use Rattle.session_hall.specs.contracts.hall.Hall as hall
use Rattle.session_hall.proofs.hall.Counts.TheSendSync as sizes
use Rattle.session_hall.specs.contracts.hall.Spare as spare_row
use Rattle.session_hall.proofs.hall.Spare.TheSendSync as spare

snapshot_send : (T : RattleType) → IsSend (snapshot.the_row T)
snapshot_send T = record { owned = λ d vs. ((λ vss. (tt, ((λ uss. (tt, tt)), tt))), tt); leaving = λ k f vs. tt }

snapshot_sync : (T : RattleType) → IsSync (snapshot.the_row T)
snapshot_sync T = record { shared = λ d b o κ q. part_keyless (snapshot.the_row T) (snapshot_send T) q d b o }

module _ (T : RattleType) (g : Ghosts T.Denot) where
  abbrev Held : RattleType
  Held = held_row.the_row T g

  abbrev SeatRow : RattleType
  SeatRow = seat_row.the_row (held_row.the_row T g) (rule_row.the_row T) (counted_row.the_row T g)

  abbrev SpareRow : RattleType
  SpareRow = spare_row.the_row (seat_row.the_row (held_row.the_row T g) (rule_row.the_row T) (counted_row.the_row T g)) part_row.the_row

  pub hall_sync : IsSend T → IsSync (hall.the_row T g)
  hall_sync s =
      let values = held.the_send T g s in
      let seats = seat.the_send (held_row.the_row T g) (rule_row.the_row T) (counted_row.the_row T g) values in
      let lists = spare.the_send (seat_row.the_row (held_row.the_row T g) (rule_row.the_row T) (counted_row.the_row T g)) part_row.the_row seats part.the_send in
      let turns = board.the_sync (held_row.the_row T g) (rule_row.the_row T) (counted_row.the_row T g) (rule.ghosts T g (given 0) (given 1)) values in
      let kept = as_row_sync (mutex.the_field SpareRow) (locked.the_sync SpareRow lists) in
      declared_sync (hall.the_type T g) (turns, (as_row_sync (snapshot.the_field T) (snapshot_sync T), (sizes.the_sync, (counted.the_sync, (counted.the_sync, (counted.the_sync, (kept, tt)))))))
