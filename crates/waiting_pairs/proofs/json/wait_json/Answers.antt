use Rattle.std.proofs.Common.{map}
use Rattle.std.proofs.lemmas.Result.{IfOk-weaker}
use Rattle.serde_json.specs.View.{view}
use Rattle.waiting_pairs.proofs.Objects.{text_of}
use Rattle.waiting_pairs.proofs.json.wait_json.Goals as goal

pub returns : goal.returns
returns c = IfOk-weaker c.list_text.result _ _ (λ text h. text_of c.args.names.now c.args.program.now.file c.args.text.now text.items c.args.waits.now (map view c.in_ok-values.values.items) c.in_ok-values.ensures h) c.list_text.ensures
