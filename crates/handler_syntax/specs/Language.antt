-- What others cite of the language.
pub use Rattle.syntax_trees.specs.declared.expr.Atom.{Atom}
pub use Rattle.syntax_trees.specs.declared.expr.Atom.TheVariants as atom
pub use Rattle.syntax_trees.specs.declared.expr.Calc.{Calc}
pub use Rattle.syntax_trees.specs.declared.expr.Calc.TheVariants as calc
pub use Rattle.syntax_trees.specs.declared.expr.Expr.{Expr}
pub use Rattle.syntax_trees.specs.declared.expr.Expr.TheVariants as expr
pub use Rattle.syntax_trees.specs.declared.stmt.Call.{Call}
pub use Rattle.syntax_trees.specs.declared.stmt.Compare.{Compare}
pub use Rattle.syntax_trees.specs.declared.stmt.Compare.TheVariants as compare
pub use Rattle.syntax_trees.specs.declared.stmt.Cond.{Cond}
pub use Rattle.syntax_trees.specs.declared.stmt.Right.{Right}
pub use Rattle.syntax_trees.specs.declared.stmt.Right.TheVariants as right
pub use Rattle.syntax_trees.specs.declared.stmt.Stmt.{Stmt}
pub use Rattle.syntax_trees.specs.declared.stmt.Stmt.TheVariants as stmt
pub use Rattle.syntax_trees.specs.declared.file.TableDecl.{TableDecl}
pub use Rattle.syntax_trees.specs.declared.file.Param.{Param}
pub use Rattle.syntax_trees.specs.declared.file.Handler.{Handler}
pub use Rattle.syntax_trees.specs.declared.file.File.{File}
pub use Rattle.syntax_trees.specs.Mentions.{Mention, a_name, a_symbol, a_number, value_mentions, atom_mentions, expr_mentions, call_mentions, right_mentions, cond_mentions, stmt_mentions, table_mentions, param_mentions, handler_mentions, file_mentions, AreNamed}
pub use Rattle.syntax_grammar.specs.Texts.{HasText, HaveTexts, IsNamedFile}
pub use Rattle.syntax_grammar.specs.Words.{names_of}
pub use Rattle.syntax_grammar.specs.Parsed.{Parsed, IsSourceOf, HasFault}
pub use Rattle.syntax_grammar.specs.declared.refusals.SyntaxRefusal.{SyntaxRefusal}
pub use Rattle.syntax_grammar.specs.declared.refusals.SyntaxRefusal.TheVariants as syntax_refusal
pub use Rattle.syntax_printer.specs.Canonical.{canonical_text}
pub use Rattle.syntax_printer.specs.Countable.{IsCountable}
pub use Rattle.syntax_printer.specs.Lines.{Line, of_file, of_else, of_point, file_lines, shown_text, written}
pub use Rattle.syntax_printer.specs.Points.{AtPoints}
pub use Rattle.handler_syntax.specs.Keeps.{KeepsLimits, IsKept, IsReadAs, Printed}
pub use Rattle.handler_syntax.specs.SameTree.{SameTree}
pub use Rattle.syntax_trees.specs.Bounds.{Form, a_call, a_reply, a_nest, file_forms, IsBoundedForm, IsBoundedNumber, KeepsBounds}
pub use Rattle.syntax_trees.specs.Rising.{PlacesRise}
