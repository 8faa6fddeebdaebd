use Rattle.std.proofs.Common.{sym, ◌∙◌, arith}
use Rattle.std.proofs.lemmas.Str.Pattern.{strip_prefix_char}
use Rattle.trace_lines.proofs.WordLemmas.{plain_placed, plain_symbol, quoted_placed}
use Rattle.trace_lines.proofs.words.placed.Goals as goal

pub returns-in_ok-place-in-Some-clause-names : goal.returns-in_ok-place-in-Some-clause-names
returns-in_ok-place-in-Some-clause-names c =
    let is = rw c.in-Some.is at (strip_prefix_char 39 c.args.text.now c.strip_prefix.result c.strip_prefix.ensures.cases (omega arith)) in
    c.in_ok-place-in-Some.ensures.names ∙ sym (quoted_placed c.args.names.now c.args.text.now c.in-Some.symbol.now is)

pub returns-in-None-clause-placed : goal.returns-in-None-clause-placed
returns-in-None-clause-placed c =
    let none = rw c.in-None.is at (strip_prefix_char 39 c.args.text.now c.strip_prefix.result c.strip_prefix.ensures.cases (omega arith)) in
    record { place = plain_symbol c.args.names.now c.args.text.now none; there = tt }

pub returns-in-None-clause-names : goal.returns-in-None-clause-names
returns-in-None-clause-names c =
    let none = rw c.in-None.is at (strip_prefix_char 39 c.args.text.now c.strip_prefix.result c.strip_prefix.ensures.cases (omega arith)) in
    sym (plain_placed c.args.names.now c.args.text.now none)
