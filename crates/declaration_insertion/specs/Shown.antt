-- What is shown of a program at its points.
use Rattle.std.specs.Prelude.{true}
use Rattle.syntax_printer.specs.Points.{AtPoints}
use Rattle.handler_check.specs.Resolved.{table_names, variables_at}
use Rattle.declaration_insertion.specs.Program.{ProgramView, declared_at}

-- the declaration of each point, with the names of tables and variables
abbrev pub shown_of : ProgramView → AtPoints
shown_of p = record {
  shown = true;
  symbols = declared_at p;
  tables = table_names p.file;
  variables = variables_at p.file;
}
