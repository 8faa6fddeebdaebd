use Rattle.std.proofs.Common.{arith}
use Rattle.turn_steps.proofs.Gives.{returns}
use Rattle.turn_steps.proofs.words.Words.give_back.Goals as goal

pub fetch_and-requires : goal.fetch_and-requires
fetch_and-requires g c = (
  c.requires.pass,
  (let h = c.args.self.now.words in omega arith),
  returns g.R.TieRule.content g.R.TieRule.holds _ _ _ c.args.pass.now.token.me c.args.mask c.requires.lies,
)
