use Rattle.std.proofs.Common.{map}
use Rattle.std.proofs.lemmas.Result.{IfOk-weaker}
use Rattle.waiting_pairs.proofs.TellingLemmas.{told_by}
use Rattle.waiting_pairs.proofs.trace_telling.told_of.Goals as goal

pub returns : goal.returns
returns c = IfOk-weaker c.delay_text.result _ _
    (λ text h. told_by c.args.form c.args.audited.now c.events.result.now text.items c.in_ok-counts.counts.delays c.in_ok-counts.counts.rows.items (map (λ v. v.items) c.in_ok-counts.counts.chains.items)
    c.events.ensures.events c.in_ok-counts.ensures.delays c.in_ok-counts.ensures.rows c.in_ok-counts.ensures.chains h)
    c.delay_text.ensures
