use Rattle.std.proofs.Common.{map, string_bytes, ap}
use Rattle.refusal_advice.proofs.Advised.{advised, stopped, unadvised, unstopped}
use Rattle.refusal_advice.proofs.Stopping.{failed}
use Rattle.refusal_advice.proofs.grammar_advice.grammar.Goals as goal

pub stop_at-requires : goal.stop_at-requires
stop_at-requires c = c.requires

pub returns-in_err-stop : goal.returns-in_err-stop
returns-in_err-stop c = failed _ _ c.from_residual.result c.from_residual.ensures.1

pub token_at-requires : goal.token_at-requires
token_at-requires c = c.requires

pub stop_lines-requires : goal.stop_lines-requires
stop_lines-requires c = c.requires

pub returns-in-Some : goal.returns-in-Some
returns-in-Some c =
    let stop = stopped c.args.source.now c.args.at c.in_ok-stop.field-0 c.in-Some.stop c.in_ok-stop.ensures c.in-Some.is in
    advised c.args.source.now c.args.at c.in-Some.stop c.token_at.result.now c.stop_lines.result stop c.token_at.ensures c.stop_lines.ensures

pub returns-in-None : goal.returns-in-None
returns-in-None c = unadvised c.args.source.now c.args.at (map string_bytes c.new.result.items) (unstopped c.args.source.now c.args.at c.in_ok-stop.field-0 c.in_ok-stop.ensures c.in-None.is) (ap (map string_bytes) c.new.ensures.items)
