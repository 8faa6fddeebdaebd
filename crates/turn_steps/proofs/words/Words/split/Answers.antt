use Rattle.std.proofs.Common.{arith, suc}
use Rattle.turn_steps.specs.Tied.{all_speak}
use Rattle.turn_steps.proofs.CallerCounts.{parts, rising}
use Rattle.turn_steps.proofs.words.Words.split.Goals as goal

pub split_seat-requires : goal.split_seat-requires
split_seat-requires g c = let x = c.requires.callers in (
  c.requires.pass.of_table,
  (let h = c.args.self.now.words in omega arith),
  parts g.R.TieRule.content g.R.TieRule.holds _ c.args.pass.now.token.id c.args.pass.now.token.me.0 x.0 x.2 (all_speak (suc x.0) (suc x.1) x.2) c.requires.pass.none_held x.3
      (λ i k d e. let h = rising x.2 (suc x.1) (suc x.0) i k d e in λ s. omega arith),
)
