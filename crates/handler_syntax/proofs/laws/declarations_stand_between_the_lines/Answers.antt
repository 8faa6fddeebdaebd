use Rattle.std.proofs.Common.{[], ◌∙◌, ap}
use Rattle.syntax_printer.specs.Lines.{file_lines, written}
use Rattle.syntax_printer.proofs.Own.{own_is_canonical}
use Rattle.handler_syntax.proofs.laws.declarations_stand_between_the_lines.Goals as goal

pub returns-clause-without : goal.returns-clause-without
returns-clause-without c = λ names at file. own_is_canonical names at file

pub returns-clause-none : goal.returns-clause-none
returns-clause-none c = λ names at file e. ap (λ shown. written shown (file_lines names at file) []) e ∙ own_is_canonical names at file
