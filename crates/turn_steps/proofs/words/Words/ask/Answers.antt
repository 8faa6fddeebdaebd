use Rattle.std.proofs.Common.{arith}
use Rattle.turn_steps.proofs.Asks.{asks}
use Rattle.turn_steps.proofs.words.Words.ask.Goals as goal

pub fetch_or-requires : goal.fetch_or-requires
fetch_or-requires g c = let p = c.requires.pass in (
  p.of_table,
  (let h = c.args.self.now.words in omega arith),
  asks g.R.TieRule.content g.R.TieRule.holds _ _ _ c.args.pass.now.token.me c.args.set p.one.0 p.one.1 p.one.2 c.requires.free,
)
