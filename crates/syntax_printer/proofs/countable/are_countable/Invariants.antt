use Rattle.std.proofs.Common.{take}
use Rattle.std.specs.List.{AllByRecursion}
use Rattle.syntax_printer.specs.Countable.{IsCountableHandler}
use Rattle.syntax_printer.proofs.countable.are_countable.Given as goal

abbrev pub invariant-loop-handler : goal.invariant-loop-handler
invariant-loop-handler l = AllByRecursion IsCountableHandler (take l.handler-index l.handlers)
