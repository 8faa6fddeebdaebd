use Rattle.std.proofs.Common.{ap, ◌∙◌, map}
use Rattle.std.proofs.lemmas.Result.{IfOk-weaker}
use Rattle.serde_json.specs.View.{view}
use Rattle.waiting_pairs.specs.CountJson.{chain_value, row_value}
use Rattle.waiting_pairs.proofs.CountObjects.{text_of}
use Rattle.waiting_pairs.proofs.count_json.delay_json.Goals as goal

pub returns : goal.returns
returns c = IfOk-weaker c.value_text.result _ _
    (λ text h. text_of c.args.names.now c.args.program.now.file c.args.counts.now.rows.items (map (λ v. v.items) c.args.counts.now.chains.items) (view c.in_ok-value.value) (map view c.in_ok-chains.chains.items) (map view c.in_ok-rows.rows.items) text.items
    (c.in_ok-chains.ensures ∙ ap (λ z. map chain_value (map (λ v. v.items) z)) c.as_slice-longest.ensures.value)
    (c.in_ok-rows.ensures ∙ ap (map (row_value c.args.names.now c.args.program.now.file)) c.as_slice-counted.ensures.value) c.in_ok-value.ensures h)
    c.value_text.ensures
