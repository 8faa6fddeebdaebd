use Rattle.syntax_printer.proofs.Parts.{named_handlers}
use Rattle.syntax_printer.proofs.Written.{file_written}
use Rattle.syntax_printer.proofs.file.put_with_declarations.Goals as goal

pub put_handlers-requires-clause-named : goal.put_handlers-requires-clause-named
put_handlers-requires-clause-named g c = named_handlers c.args.names.now c.args.file.now _ c.as_slice-2.ensures c.requires.named

pub returns : goal.returns
returns g c = file_written c.args.names.now (g.D.Declarations.at_points c.args.at.now) c.args.file.now _ _ c.as_slice.ensures c.as_slice-2.ensures c.put_tables.ensures c.put_handlers.ensures
