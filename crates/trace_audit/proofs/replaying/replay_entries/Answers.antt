use Rattle.std.proofs.Common.{◌≡◌, true, false, ◌∙◌}
use Rattle.trace_audit.proofs.Taking.{fails, holds}
use Rattle.trace_audit.proofs.Replayed.{all_done, entry_fits, none_done, not_replayed, one_done}
use Rattle.trace_audit.proofs.replaying.replay_entries.Goals as goal

pub loop-noted-init : goal.loop-noted-init
loop-noted-init c = none_done _ _

pub apply-requires : goal.apply-requires
apply-requires c = record { fits = entry_fits _ _ c.args.entries.now _ _ c.requires c.loop-noted.invariant c.loop-noted-test.true c.noted-item.is }

pub loop-noted-preserved : goal.loop-noted-preserved
loop-noted-preserved c =
    let e : c.same_value.result ≡ true = cc in
    one_done _ _ _ c.args.entries.now _ _ c.in_ok-given.given c.loop-noted.invariant c.loop-noted-test.true c.noted-item.is c.in_ok-given.ensures.reply (holds c.same_value.result e c.same_value.ensures) c.in_ok-given.ensures.tables c.apply.ensures.kinds

pub returns-then-not-same_value-clause-took : goal.returns-then-not-same_value-clause-took
returns-then-not-same_value-clause-took c =
    let e : c.same_value.result ≡ false = cc in
    not_replayed _ _ c.loop-noted.tables c.args.entries.now _ _ c.in_ok-given.given c.loop-noted.invariant c.loop-noted-test.true c.noted-item.is c.in_ok-given.ensures.reply (fails c.same_value.result e c.same_value.ensures)

pub returns-then-not-same_value-clause-kinds : goal.returns-then-not-same_value-clause-kinds
returns-then-not-same_value-clause-kinds c = c.apply.ensures.kinds ∙ c.loop-noted.invariant.kinds

pub returns-clause-took : goal.returns-clause-took
returns-clause-took c = all_done _ _ c.args.entries.now _ c.loop-noted.invariant c.loop-noted-test.false

pub returns-clause-kinds : goal.returns-clause-kinds
returns-clause-kinds c = c.loop-noted.invariant.kinds
