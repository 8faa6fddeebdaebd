use Rattle.std.proofs.Common.{rules, ◌≡◌, arith}
use Rattle.std.proofs.lemmas.Str.Pattern.{split_once_first}
use Rattle.text_lines.specs.Values.{number}
use Rattle.range_tables.specs.Words.{after_point, range_by}
use Rattle.range_tables.proofs.WordLemmas.{no_range, some_range}
use Rattle.range_tables.proofs.word.range_of.Goals as goal

pub returns-in-None : goal.returns-in-None
returns-in-None c = let none = rw c.in-None.is at (split_once_first 46 c.args.word.now c.split_once.result c.split_once.ensures.cases (omega arith)) in no_range c.args.word.now none

pub returns-in-Some : goal.returns-in-Some
returns-in-Some c =
    let found = rw c.in-Some.is at (split_once_first 46 c.args.word.now c.split_once.result c.split_once.ensures.cases (omega arith)) in
    let is : c.range_by.result ≡ range_by (number c.in-Some.low.now) (after_point c.in-Some.rest.now) = search rules in
    some_range c.args.word.now c.in-Some.low.now c.in-Some.rest.now c.range_by.result found.1 found.2 is
