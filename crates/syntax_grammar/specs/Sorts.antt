-- The words that stand for operations, comparisons and kinds of tables.
use Rattle.std.specs.Prelude.{Option, Some, None}
use Rattle.session_values.specs.declared.kind.Kind.{Kind}
use Rattle.session_values.specs.declared.kind.TableKind.{TableKind}
use Rattle.syntax_grammar.specs.declared.word.Sort.{Sort}
use Rattle.syntax_grammar.specs.declared.word.Sort.TheVariants as sort
use Rattle.syntax_grammar.specs.declared.sorts.Start.{Start}
use Rattle.syntax_grammar.specs.declared.sorts.Start.TheVariants as start
use Rattle.syntax_trees.specs.declared.stmt.Compare.{Compare}

-- the operation that a word names
abbrev pub operation : Sort → Option Kind
operation (sort.Do k) = Some k
operation _ = None

-- the comparison that a sign is
abbrev pub comparison : Sort → Option Compare
comparison (sort.Compare c) = Some c
comparison _ = None

-- the kind of table that a word begins
abbrev pub table_kind : Sort → Option TableKind
table_kind (sort.Table k) = Some k
table_kind _ = None

-- the statement that an operation's word begins
abbrev pub call_start : Option Kind → Option Start
call_start (Some k) = Some (start.Call k)
call_start None = None

-- the statement that a word begins
abbrev pub statement_start : Sort → Option Start
statement_start sort.Let = Some start.Let
statement_start (sort.Name n) = Some (start.Assign n)
statement_start sort.If = Some start.If
statement_start sort.Repeat = Some start.Repeat
statement_start sort.Reply = Some start.Reply
statement_start s = call_start (operation s)
