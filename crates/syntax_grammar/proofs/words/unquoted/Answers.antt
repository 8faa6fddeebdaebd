use Rattle.std.proofs.Common.{◌≡◌, ℕ, ◌≤◌, List, [], ◌∷◌, length, get_or, arith}
use Rattle.std.proofs.lemmas.Grind.{common_steps}
use Rattle.std.proofs.lemmas.Bool.Decides.{nat_tests}
use Rattle.syntax_grammar.specs.Words.{unquoted}
use Rattle.syntax_grammar.proofs.Cut.{behind_ascii}
use Rattle.syntax_grammar.proofs.words.unquoted.Goals as goal

is_long : (text : List ℕ) → get_or text 0 0 ≡ 39 → 1 ≤ length text
is_long [] h = absurd (cc)
is_long (b ∷ bs) h = omega arith

pub range_from-requires : goal.range_from-requires
range_from-requires c =
    λ some. (is_long c.args.text.now (grind arith), (behind_ascii c.args.text.now 1 c.utf8.text some (is_long c.args.text.now (grind arith)) (grind arith)).1)

pub returns-then-byte_at-eq39 : goal.returns-then-byte_at-eq39
unfolding unquoted
returns-then-byte_at-eq39 c = grind (arith, nat_tests, common_steps)

pub returns-else-byte_at-eq39 : goal.returns-else-byte_at-eq39
unfolding unquoted
returns-else-byte_at-eq39 c = grind (arith, nat_tests, common_steps)
