-- A session that lives may go to another thread: so may the trees of its program.
use mir.Syntax.{w32, w64}
use denote.RattleType.{RattleType}
use denote.Builtin as builtin
use denote.Hole.{as_row}
use denote.Plain.{UInt}
use denote.Param.Send.{IsSend, view_send, sendable}
use denote.Param.SendFields.{as_row_send, declared_send}
use Rattle.std.specs.contracts.alloc.Global as heap
use Rattle.std.specs.contracts.impls.GlobalAllocator.TheImpl.{ghosts}
use Rattle.std.specs.contracts.vec.Vec as vec
use Rattle.std.proofs.Crossing.{Vec-send, send}
use Rattle.byte_ends.specs.contracts.write_buffer.WriteBuffer as buffer_row
use Rattle.byte_ends.proofs.write_buffer.WriteBuffer.TheSendSync as buffer
use Rattle.session_values.proofs.Listed.TheSendSync as lists
use Rattle.session_values.proofs.Boxed.TheSendSync as boxes
use Rattle.syntax_trees.specs.contracts.expr.Expr as expr
use Rattle.syntax_trees.proofs.expr.Expr.TheLaws.TheKnot as expr_knot
use Rattle.syntax_trees.proofs.expr.Calc.TheSendSync as calc
use Rattle.syntax_trees.specs.contracts.stmt.Stmt as stmt
use Rattle.syntax_trees.proofs.stmt.Stmt.TheLaws.TheKnot as stmt_knot
use Rattle.syntax_trees.proofs.stmt.Call.TheSendSync as call
use Rattle.syntax_trees.proofs.stmt.Compare.TheSendSync as compare
use Rattle.syntax_trees.specs.contracts.stmt.Right as right
use Rattle.syntax_trees.specs.contracts.stmt.Cond as cond
use Rattle.syntax_trees.specs.contracts.file.File as file
use Rattle.syntax_trees.specs.contracts.file.Handler as handler
use Rattle.syntax_trees.proofs.file.Param.TheSendSync as param
use Rattle.syntax_trees.proofs.file.TableDecl.TheSendSync as table_decl
use Rattle.check_meaning.specs.contracts.tree.CheckedExpr as checked_expr
use Rattle.check_meaning.proofs.tree.CheckedExpr.TheLaws.TheKnot as checked_expr_knot
use Rattle.check_meaning.proofs.tree.CheckedAtom.TheSendSync as checked_atom
use Rattle.check_meaning.specs.contracts.tree.CheckedStmt as checked_stmt
use Rattle.check_meaning.proofs.tree.CheckedStmt.TheLaws.TheKnot as checked_stmt_knot
use Rattle.check_meaning.proofs.tree.CheckedCall.TheSendSync as checked_call
use Rattle.check_meaning.specs.contracts.tree.CheckedCond as checked_cond
use Rattle.check_meaning.specs.contracts.tree.CheckedHandler as checked_handler
use Rattle.handler_check.specs.contracts.checked.Checked as checked
use Rattle.handler_check.proofs.bounds.HandlerBounds.TheSendSync as handler_bounds
use Rattle.may_use_analysis.proofs.later.Later.TheSendSync as later
use Rattle.declaration_insertion.specs.contracts.program.Program as program
use Rattle.declaration_insertion.proofs.facts.PointFacts.TheSendSync as point_facts
use Rattle.session_values.specs.contracts.names.Names as names_row
use Rattle.session_values.proofs.names.Names.TheSendSync as names
use Rattle.session_journal.proofs.scratch.Scratch.TheSendSync as scratch
use Rattle.driven_tickets.specs.contracts.open_tickets.OpenTickets as tickets_row
use Rattle.driven_tickets.proofs.open_tickets.OpenTickets.TheSendSync as tickets
use Rattle.live_session.proofs.history.History.TheSendSync as history
use Rattle.live_session.proofs.arguments.Arguments.TheSendSync as arguments
use Rattle.live_session.proofs.tables.LiveTables.TheSendSync as tables
use Rattle.live_session.specs.contracts.session.LiveSession as live
use Rattle.live_session.specs.contracts.session.LiveSession.TheInside as inside

expr_field : IsSend (expr.the_field).row
expr_field = search (sendable, expr_knot.send-Expr, calc.the_field_send, boxes.the_send) depth 20

expr_send : IsSend expr.the_row
expr_send = as_row_send expr.the_field expr_field

right_field : IsSend (right.the_field).row
right_field = search (sendable, expr_field, call.the_field_send) depth 20

cond_field : IsSend (cond.the_field).row
cond_field = search (sendable, expr_field, compare.the_field_send) depth 20

cond_send : IsSend cond.the_row
cond_send = as_row_send cond.the_field cond_field

stmt_field : IsSend (stmt.the_field).row
stmt_field = search (sendable, stmt_knot.send-Stmt, right_field, call.the_field_send, boxes.the_send, cond_send, lists.the_send, expr_send) depth 20

stmt_send : IsSend stmt.the_row
stmt_send = as_row_send stmt.the_field stmt_field

handler_field : IsSend (handler.the_field).row
handler_field = search (sendable, lists.the_send, stmt_send, param.the_send) depth 20

handler_send : IsSend handler.the_row
handler_send = as_row_send handler.the_field handler_field

file_field : IsSend (file.the_field).row
file_field = search (sendable, lists.the_send, handler_send, table_decl.the_send) depth 20

file_send : IsSend file.the_row
file_send = as_row_send file.the_field file_field

checked_expr_field : IsSend (checked_expr.the_field).row
checked_expr_field = checked_expr_knot.send-CheckedExpr checked_atom.the_field_send calc.the_field_send boxes.the_send

checked_expr_send : IsSend checked_expr.the_row
checked_expr_send = as_row_send checked_expr.the_field checked_expr_field

checked_cond_field : IsSend (checked_cond.the_field).row
checked_cond_field = search (sendable, checked_expr_field, compare.the_field_send) depth 20

checked_stmt_field : IsSend (checked_stmt.the_field).row
checked_stmt_field = search (sendable, checked_stmt_knot.send-CheckedStmt, checked_expr_field, checked_call.the_field_send, checked_cond_field, lists.the_send, checked_expr_send) depth 20

checked_stmt_send : IsSend checked_stmt.the_row
checked_stmt_send = as_row_send checked_stmt.the_field checked_stmt_field

checked_handler_field : IsSend (checked_handler.the_field).row
checked_handler_field = search (sendable, lists.the_send, checked_stmt_send) depth 20

checked_handler_send : IsSend checked_handler.the_row
checked_handler_send = as_row_send checked_handler.the_field checked_handler_field

checked_send : IsSend checked.the_row
checked_send = search (sendable, lists.the_send, file_field, checked_handler_send, handler_bounds.the_send) depth 20

program_send : IsSend program.the_row
program_send = search (sendable, checked_send, later.the_send, Vec-send, lists.the_send, point_facts.the_send) depth 20

number : IsSend (UInt w32)
number = search sendable

long_number : IsSend (UInt w64)
long_number = search sendable

numbers : IsSend (builtin.Array builtin.u32 tt 64)
numbers = search (sendable, number)

listed : (T : RattleType) → IsSend T → IsSend (as_row (vec.the_field T heap.the_row ghosts))
listed T s = as_row_send (vec.the_field T heap.the_row ghosts) (Vec-send T s)

pub live_send : IsSend live.the_row
live_send =
    view_send inside.the_row _ _ _ _ (declared_send inside.the_type (
      send,
      (
        as_row_send program.the_field program_send,
        (
          listed _ numbers,
          (
            number,
            (
              number,
              (
                as_row_send names_row.the_field names.the_send,
                (
                  tables.the_send,
                  (
                    long_number,
                    (
                      long_number,
                      (
                        arguments.the_send,
                        (scratch.the_send, (as_row_send tickets_row.the_field tickets.the_send, (history.the_send, tt))),
                      ),
                    ),
                  ),
                ),
              ),
            ),
          ),
        ),
      ),
    ))

pub buffer_send : IsSend (as_row buffer_row.the_field)
buffer_send = as_row_send buffer_row.the_field buffer.the_send
