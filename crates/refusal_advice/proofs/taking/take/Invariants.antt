use Rattle.std.proofs.Common.{◌≡◌, vec_len}
use Rattle.syntax_grammar.specs.Next as next
use Rattle.refusal_advice.specs.Parts.{parts_of}
use Rattle.refusal_advice.proofs.taking.take.Given as goal

-- the parts that were taken off don't take the word
abbrev pub invariant-parts : goal.invariant-parts
invariant-parts l = next.taking (parts_of l.fn.parts.items) l.sort ≡ next.taking (parts_of l.parts.items) l.sort

abbrev pub decreases-parts : goal.decreases-parts
decreases-parts l = vec_len l.parts
