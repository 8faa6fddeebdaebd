use Rattle.std.proofs.Common.{ℕ, inl, inr, sym, subst, arith}
use Rattle.session_hall.specs.Script.{Meaning}
use Rattle.session_hall.specs.Closings.{IsDone}
use Rattle.session_hall.specs.Listings.{AreLeft, listed}
use Rattle.client_feed.proofs.Filling.{lt_or_same, shards_there}
use Rattle.client_feed.proofs.LeftLists.{left_opens, left_reopens}
use Rattle.client_feed.proofs.reopening.look_at_tables.Goals as goal

pub len-entries-requires : goal.len-entries-requires
len-entries-requires c = shards_there c.args.closed.now c.args.shape.now c.requires.can c.loop-table.table (omega arith)

pub loop-table-preserved : goal.loop-table-preserved
loop-table-preserved c = λ t l. elim (lt_or_same t c.loop-table.table l) [
  | inl m ↦ c.loop-table.invariant t m
  | inr s ↦ subst (λ (k : ℕ). (m : Meaning) → IsDone m c.args.closed.now → AreLeft m k (listed c.args.closed.now k)) (sym s) c.len-entries.ensures.left
]

pub returns-clause-opens : goal.returns-clause-opens
returns-clause-opens c = left_opens c.args.closed.now c.args.shape.now c.requires.can c.requires.few (λ t l. c.loop-table.invariant t (omega (arith, l, c.loop-table-test.false)))

pub returns-clause-lists : goal.returns-clause-lists
returns-clause-lists c = left_reopens c.args.closed.now c.args.shape.now c.requires.can c.requires.few (λ t l. c.loop-table.invariant t (omega (arith, l, c.loop-table-test.false)))
