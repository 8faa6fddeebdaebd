use Rattle.std.proofs.Common.{arith}
use Rattle.std.proofs.lemmas.Str.Pattern.{strip_prefix_char}
use Rattle.range_tables.proofs.WordLemmas.{no_point}
use Rattle.range_tables.proofs.word.after_point.Goals as goal

pub returns-in-None : goal.returns-in-None
returns-in-None c = let none = rw c.in-None.is at (strip_prefix_char 46 c.args.rest.now c.strip_prefix.result c.strip_prefix.ensures.cases (omega arith)) in no_point c.args.rest.now none
