use Rattle.std.proofs.Common.{◌≡◌, drop, map}
use Rattle.syntax_grammar.specs.Keyword.{sort_in, operation_row}
use Rattle.syntax_grammar.proofs.keyword.operation_among.Given as goal

-- no operation before the index has this word
abbrev pub invariant-loop-kind : goal.invariant-loop-kind
invariant-loop-kind l = sort_in (map operation_row l.kinds) l.text ≡ sort_in (map operation_row (drop l.kind-index l.kinds)) l.text
