use Rattle.syntax_printer.proofs.file.print_with_declarations.Goals as goal

pub returns : goal.returns
returns g c = c.text_in_memory.ensures
