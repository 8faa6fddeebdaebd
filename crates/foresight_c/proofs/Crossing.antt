-- A desk may go to another thread.
use denote.Param.Send.{IsSend}
use denote.Param.SendFields.{as_row_send, declared_send, variants_send}
use Rattle.driven_tickets.specs.contracts.driven_tables.DrivenTables as tables_row
use Rattle.driven_tickets.proofs.driven_tables.DrivenTables.TheSendSync as tables
use Rattle.live_session.specs.contracts.session.LiveSession as live_row
use Rattle.live_session.proofs.Crossing.{buffer_send, live_send}
use Rattle.foresight_c.specs.contracts.desk.Desk as desk
use Rattle.foresight_c.specs.contracts.session_desk.SessionDesk as session

session_send : IsSend session.the_row
session_send = declared_send session.the_type
    (as_row_send live_row.the_field live_send, (buffer_send, tt))

pub desk_send : IsSend desk.the_row
desk_send = variants_send desk.enum ((as_row_send tables_row.the_field tables.the_send, tt), ((session_send, tt), tt))
