use Rattle.std.proofs.Common.{map, sym, ap, ◌∙◌}
use Rattle.refusal_places.specs.RuleTable.{row_in, row_of}
use Rattle.refusal_places.proofs.FirstRow.{missed, hit, all_seen}
use Rattle.refusal_places.proofs.finding.rule_among.Goals as goal

pub loop-rule-preserved : goal.loop-rule-preserved
loop-rule-preserved c =
    c.loop-rule.invariant ∙ missed c.args.rules.now c.loop-rule.rule-index c.args.word.now _ c.loop-rule-test.true (sym c.eq.ensures ∙ c.if-eq.false)

pub returns-then-eq : goal.returns-then-eq
returns-then-eq c =
    sym (c.loop-rule.invariant ∙ hit c.args.rules.now c.loop-rule.rule-index c.args.word.now _ c.loop-rule-test.true (sym c.eq.ensures ∙ c.if-eq.true))

pub returns : goal.returns
returns c = sym (c.loop-rule.invariant ∙ ap (λ l. row_in (map row_of l) c.args.word.now) (all_seen c.args.rules.now c.loop-rule.rule-index c.loop-rule-test.false))
