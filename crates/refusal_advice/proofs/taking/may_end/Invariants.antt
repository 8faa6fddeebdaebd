use Rattle.std.proofs.Common.{◌≡◌, vec_len}
use Rattle.syntax_grammar.specs.Next as next
use Rattle.refusal_advice.specs.Parts.{parts_of}
use Rattle.refusal_advice.proofs.taking.may_end.Given as goal

-- the parts that were taken off may be empty
abbrev pub invariant-parts : goal.invariant-parts
invariant-parts l = next.may_end (parts_of l.fn.parts.items) ≡ next.may_end (parts_of l.parts.items)

abbrev pub decreases-parts : goal.decreases-parts
decreases-parts l = vec_len l.parts
