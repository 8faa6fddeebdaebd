use Rattle.std.proofs.Common.{arith, ◌∙◌, ap, sym, subst}
use Rattle.turn_steps.specs.Passes.{IdleFirst}
use Rattle.turn_steps.proofs.CallerCounts.{merges}
use Rattle.turn_steps.proofs.words.Words.join.Goals as goal

pub join_seat-requires : goal.join_seat-requires
join_seat-requires g c = let o = subst (IdleFirst c.args.self.now.table.shared.table_id) (sym c.into_token.ensures) c.requires.other in (
  c.requires.pass.of_table,
  o.of_table,
  o.empty,
  (let h = c.args.self.now.words in omega arith),
  merges g.R.TieRule.content g.R.TieRule.holds _ c.args.pass.now.token.id c.into_token.result.id c.args.pass.now.token.me.0 c.into_token.result.me.0 c.requires.pass.none_held o.none_held (ap (λ p. p.me.0.caller_count) c.into_token.ensures ∙ c.requires.caller_count),
)
