-- Scripts are shared among threads: so are the trees of a program and its requests.
use denote.Ref.{NamedLft}
use denote.Param.Send.{IsSend, IsSync, sendable}
use denote.Param.SendFields.{as_row_sync}
use Rattle.std.proofs.Crossing.{Vec-sync}
use Rattle.session_values.proofs.Listed.TheSendSync as lists
use Rattle.session_values.proofs.Boxed.TheSendSync as boxes
use Rattle.syntax_trees.specs.contracts.expr.Expr as expr
use Rattle.syntax_trees.proofs.expr.Expr.TheLaws.TheKnot as expr_knot
use Rattle.session_values.proofs.value.Value.TheSendSync as value
use Rattle.syntax_trees.proofs.expr.Calc.TheSendSync as calc
use Rattle.syntax_trees.specs.contracts.stmt.Stmt as stmt
use Rattle.syntax_trees.proofs.stmt.Stmt.TheLaws.TheKnot as stmt_knot
use Rattle.syntax_trees.proofs.stmt.Call.TheSendSync as call
use Rattle.syntax_trees.proofs.stmt.Compare.TheSendSync as compare
use Rattle.syntax_trees.specs.contracts.stmt.Right as right
use Rattle.syntax_trees.specs.contracts.stmt.Cond as cond
use Rattle.syntax_trees.specs.contracts.file.File as file
use Rattle.syntax_trees.specs.contracts.file.Handler as handler
use Rattle.syntax_trees.proofs.file.Param.TheSendSync as param
use Rattle.syntax_trees.proofs.file.TableDecl.TheSendSync as table_decl
use Rattle.check_meaning.specs.contracts.tree.CheckedExpr as checked_expr
use Rattle.check_meaning.proofs.tree.CheckedExpr.TheLaws.TheKnot as checked_expr_knot
use Rattle.check_meaning.proofs.tree.CheckedAtom.TheSendSync as checked_atom
use Rattle.check_meaning.specs.contracts.tree.CheckedStmt as checked_stmt
use Rattle.check_meaning.proofs.tree.CheckedStmt.TheLaws.TheKnot as checked_stmt_knot
use Rattle.check_meaning.proofs.tree.CheckedCall.TheSendSync as checked_call
use Rattle.check_meaning.specs.contracts.tree.CheckedCond as checked_cond
use Rattle.check_meaning.specs.contracts.tree.CheckedHandler as checked_handler
use Rattle.handler_check.specs.contracts.checked.Checked as checked
use Rattle.handler_check.proofs.bounds.HandlerBounds.TheSendSync as handler_bounds
use Rattle.may_use_analysis.proofs.later.Later.TheSendSync as later
use Rattle.declaration_insertion.specs.contracts.program.Program as program
use Rattle.declaration_insertion.proofs.facts.PointFacts.TheSendSync as point_facts
use Rattle.request_files.proofs.requests.Requests.TheSendSync as requests
use Rattle.session_values.proofs.opening.Opening.TheSendSync as opening
use Rattle.handler_machine.specs.contracts.scripts.Scripts as scripts

expr_field : IsSync (expr.the_field).row
expr_field = search (sendable, expr_knot.sync-Expr, value.the_field_sync, calc.the_field_sync, boxes.the_sync) depth 20

pub expr_sync : IsSync expr.the_row
expr_sync = as_row_sync expr.the_field expr_field

right_field : IsSync (right.the_field).row
right_field = search (sendable, expr_field, call.the_field_sync) depth 20

cond_field : IsSync (cond.the_field).row
cond_field = search (sendable, expr_field, compare.the_field_sync) depth 20

cond_sync : IsSync cond.the_row
cond_sync = as_row_sync cond.the_field cond_field

stmt_field : IsSync (stmt.the_field).row
stmt_field = search (sendable, stmt_knot.sync-Stmt, right_field, call.the_field_sync, boxes.the_sync, cond_sync, lists.the_sync, expr_sync) depth 20

pub stmt_sync : IsSync stmt.the_row
stmt_sync = as_row_sync stmt.the_field stmt_field

handler_field : IsSync (handler.the_field).row
handler_field = search (sendable, lists.the_sync, stmt_sync, param.the_sync) depth 20

handler_sync : IsSync handler.the_row
handler_sync = as_row_sync handler.the_field handler_field

file_field : IsSync (file.the_field).row
file_field = search (sendable, lists.the_sync, handler_sync, table_decl.the_sync) depth 20

file_sync : IsSync file.the_row
file_sync = as_row_sync file.the_field file_field

checked_expr_field : IsSync (checked_expr.the_field).row
checked_expr_field = checked_expr_knot.sync-CheckedExpr checked_atom.the_field_sync calc.the_field_sync boxes.the_sync

pub checked_expr_sync : IsSync checked_expr.the_row
checked_expr_sync = as_row_sync checked_expr.the_field checked_expr_field

checked_cond_field : IsSync (checked_cond.the_field).row
checked_cond_field = search (sendable, checked_expr_field, compare.the_field_sync) depth 20

checked_stmt_field : IsSync (checked_stmt.the_field).row
checked_stmt_field = search (sendable, checked_stmt_knot.sync-CheckedStmt, checked_expr_field, checked_call.the_field_sync, checked_cond_field, lists.the_sync, checked_expr_sync) depth 20

pub checked_stmt_sync : IsSync checked_stmt.the_row
checked_stmt_sync = as_row_sync checked_stmt.the_field checked_stmt_field

checked_handler_field : IsSync (checked_handler.the_field).row
checked_handler_field = search (sendable, lists.the_sync, checked_stmt_sync) depth 20

checked_handler_sync : IsSync checked_handler.the_row
checked_handler_sync = as_row_sync checked_handler.the_field checked_handler_field

pub checked_sync : IsSync checked.the_row
checked_sync = search (sendable, lists.the_sync, file_field, checked_handler_sync, handler_bounds.the_sync) depth 20

pub program_sync : IsSync program.the_row
program_sync = search (sendable, checked_sync, later.the_sync, Vec-sync, lists.the_sync, point_facts.the_sync) depth 20

pub scripts_send : (κ : NamedLft) → IsSend (scripts.the_row κ)
scripts_send κ = search (sendable, checked_sync, program_sync, opening.the_sync, requests.the_sync) depth 20

pub scripts_sync : (κ : NamedLft) → IsSync (scripts.the_row κ)
scripts_sync κ = search (sendable, checked_sync, program_sync, opening.the_sync, requests.the_sync) depth 20
