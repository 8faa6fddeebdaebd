-- The tree of a phrase.
use Rattle.std.specs.Prelude.{ℕ, zero, suc, List, [], ◌∷◌, ℤ, pos, negsuc}
use Rattle.session_values.specs.declared.value.Value.TheVariants as value
use Rattle.session_values.specs.declared.kind.Kind.{Kind}
use Rattle.syntax_trees.specs.declared.expr.Atom.{Atom}
use Rattle.syntax_trees.specs.declared.expr.Atom.TheVariants as atom
use Rattle.syntax_trees.specs.declared.expr.Calc.TheVariants as calc
use Rattle.syntax_trees.specs.declared.expr.Expr.{Expr}
use Rattle.syntax_trees.specs.declared.expr.Expr.TheVariants as expr
use Rattle.syntax_trees.specs.declared.stmt.Stmt.{Stmt}
use Rattle.syntax_trees.specs.declared.stmt.Stmt.TheVariants as stmt
use Rattle.syntax_trees.specs.declared.stmt.Right.{Right}
use Rattle.syntax_trees.specs.declared.stmt.Right.TheVariants as right
use Rattle.syntax_trees.specs.declared.stmt.Call.{Call}
use Rattle.syntax_trees.specs.declared.stmt.Cond.{Cond}
use Rattle.syntax_trees.specs.declared.file.Param.{Param}
use Rattle.syntax_trees.specs.declared.file.TableDecl.{TableDecl}
use Rattle.syntax_trees.specs.declared.file.Handler.{Handler}
use Rattle.syntax_trees.specs.declared.file.File.{File}
use Rattle.syntax_trees.specs.Alone.{alone}
use Rattle.syntax_grammar.specs.declared.turns.Turns.{Turns}
use Rattle.syntax_grammar.specs.Phrase.{NamePhrase, named, NumberPhrase, digits, AtomPhrase, name_atom, nil_atom, symbol_atom, number_atom, negative_atom, FactorPhrase, plain, grouped, MoreFactors, no_factor, times, TermPhrase, term, MoreTerms, no_term, plus, minus, ExprPhrase, sum, MoreAtoms, no_atom, more_atom, ArgumentsPhrase, OperandsPhrase, operands, CallPhrase, a_call, RightPhrase, result_right, plain_right, CondPhrase, a_cond, TurnsPhrase, a_turns, MoreValues, no_value, more_value, ValuesPhrase, StmtPhrase, let_stmt, assign_stmt, call_stmt, if_stmt, repeat_stmt, reply_stmt, ElsePhrase, no_else, an_else, StmtsPhrase, no_stmt, more_stmts, BlockPhrase, block, MoreParams, no_more, more_param, SomeParams, ParamsPhrase, no_param, some_params, HandlerPhrase, a_handler, HandlersPhrase, no_handler, more_handlers, TablePhrase, a_table, TablesPhrase, no_table, more_tables, FilePhrase, a_file}

-- a name and its place in the source
abbrev pub name_of : NamePhrase → ℕ × ℕ
name_of (named n p) = (n, p)

-- a number and its place in the source
abbrev pub count_of : NumberPhrase → ℕ × ℕ
count_of (digits v p) = (v, p)

abbrev pub minus_ℕ : ℕ → ℤ
minus_ℕ zero = pos 0
minus_ℕ (suc n) = negsuc n

abbrev pub number_of : NumberPhrase → ℤ
number_of (digits v p) = pos v

-- the number behind a minus
abbrev pub negative_of : NumberPhrase → ℤ
negative_of (digits v p) = minus_ℕ v

-- a value that stands alone
abbrev pub atom_tree : AtomPhrase → Atom
atom_tree (name_atom n p) = atom.Name n p
atom_tree (nil_atom p) = atom.Lit value.Nil
atom_tree (symbol_atom n p) = atom.Lit (value.Sym n)
atom_tree (number_atom d) = atom.Lit (value.Num (number_of d))
atom_tree (negative_atom p d) = atom.Lit (value.Num (negative_of d))

-- operators group to the left, and parentheses leave no trace
abbrev mutual
  pub factor_tree : FactorPhrase → Expr
  factor_tree (plain a) = alone (atom_tree a)
  factor_tree (grouped p e q) = expr_tree e

  pub factors_tree : MoreFactors → Expr → Expr
  factors_tree no_factor left = left
  factors_tree (times p f fs) left = factors_tree fs (expr.Binary calc.Times (left, factor_tree f))

  pub term_tree : TermPhrase → Expr
  term_tree (term f fs) = factors_tree fs (factor_tree f)

  pub terms_tree : MoreTerms → Expr → Expr
  terms_tree no_term left = left
  terms_tree (plus p t ts) left = terms_tree ts (expr.Binary calc.Plus (left, term_tree t))
  terms_tree (minus p t ts) left = terms_tree ts (expr.Binary calc.Minus (left, term_tree t))

  pub expr_tree : ExprPhrase → Expr
  expr_tree (sum t ts) = terms_tree ts (term_tree t)

abbrev pub atoms_trees : MoreAtoms → List Atom
atoms_trees no_atom = []
atoms_trees (more_atom p a xs) = atom_tree a ∷ atoms_trees xs

-- the arguments of an operation
abbrev pub arguments_trees : ArgumentsPhrase → List Atom
arguments_trees xs = atoms_trees xs.atoms

-- an operation of this kind at this place, by what stands behind its word
abbrev pub call_of : Kind → ℕ → OperandsPhrase → Call
call_of k p (operands l t xs r) = record {
  kind = k;
  at = p;
  table = (name_of t).0;
  table_at = (name_of t).1;
  args = arguments_trees xs;
}

abbrev pub call_tree : CallPhrase → Call
call_tree (a_call k p o) = call_of k p o

-- what a variable is given
abbrev pub right_tree : RightPhrase → Right
right_tree (result_right c) = right.Result (call_tree c)
right_tree (plain_right e) = right.Plain (expr_tree e)

-- a condition
abbrev pub cond_tree : CondPhrase → Cond
cond_tree (a_cond a c p b) = record { compare = c; left = expr_tree a; right = expr_tree b }

-- how often a repeat runs, and its variable
abbrev pub turns_of : TurnsPhrase → Turns
turns_of (a_turns d a n) = record {
  turns = (count_of d).0;
  turns_at = (count_of d).1;
  name = (name_of n).0;
  name_at = (name_of n).1;
}

abbrev pub more_trees : MoreValues → List Expr
more_trees no_value = []
more_trees (more_value p e vs) = expr_tree e ∷ more_trees vs

-- the values of a reply
abbrev pub values_trees : ValuesPhrase → List Expr
values_trees v = expr_tree v.first ∷ more_trees v.more

abbrev pub repeat_tree : ℕ → Turns → List Stmt → Stmt
repeat_tree p t b = stmt.Repeat p t.turns t.turns_at t.name t.name_at b

abbrev mutual
  pub stmt_tree : StmtPhrase → Stmt
  stmt_tree (let_stmt p n a r e) = stmt.Let (name_of n).0 (name_of n).1 (right_tree r)
  stmt_tree (assign_stmt n a r e) = stmt.Assign (name_of n).0 (name_of n).1 (right_tree r)
  stmt_tree (call_stmt c e) = stmt.Perform (call_tree c)
  stmt_tree (if_stmt p c b e) = stmt.Choose p (cond_tree c) (block_trees b) (else_trees e)
  stmt_tree (repeat_stmt p t b) = repeat_tree p (turns_of t) (block_trees b)
  stmt_tree (reply_stmt p v e) = stmt.Answer p (values_trees v)

  pub else_trees : ElsePhrase → List Stmt
  else_trees no_else = []
  else_trees (an_else p b) = block_trees b

  pub stmts_trees : StmtsPhrase → List Stmt
  stmts_trees no_stmt = []
  stmts_trees (more_stmts s ss) = stmt_tree s ∷ stmts_trees ss

  pub block_trees : BlockPhrase → List Stmt
  block_trees (block p ss q) = stmts_trees ss

abbrev pub param_of : NamePhrase → Param
param_of n = record { name = (name_of n).0; at = (name_of n).1 }

abbrev pub more_params_trees : MoreParams → List Param
more_params_trees no_more = []
more_params_trees (more_param p n ns) = param_of n ∷ more_params_trees ns

-- a parameter, and those behind it
abbrev pub some_params_trees : SomeParams → List Param
some_params_trees ps = param_of ps.first ∷ more_params_trees ps.more

-- the parameters of a handler
abbrev pub params_trees : ParamsPhrase → List Param
params_trees no_param = []
params_trees (some_params ps) = some_params_trees ps

-- a handler
abbrev pub handler_tree : HandlerPhrase → Handler
handler_tree (a_handler p n l ps r b) =
    record {
      name = (name_of n).0;
      at = (name_of n).1;
      params = params_trees ps;
      body = block_trees b;
    }

-- handlers
abbrev pub handlers_trees : HandlersPhrase → List Handler
handlers_trees no_handler = []
handlers_trees (more_handlers h hs) = handler_tree h ∷ handlers_trees hs

-- a table
abbrev pub table_tree : TablePhrase → TableDecl
table_tree (a_table k p n e) = record { kind = k; name = (name_of n).0; at = (name_of n).1 }

-- tables
abbrev pub tables_trees : TablesPhrase → List TableDecl
tables_trees no_table = []
tables_trees (more_tables t ts) = table_tree t ∷ tables_trees ts

-- a whole file
abbrev pub file_tree : FilePhrase → File
file_tree (a_file ts hs) = record { tables = tables_trees ts; handlers = handlers_trees hs }
