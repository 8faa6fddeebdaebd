use Rattle.std.proofs.Common.{◌≡◌, true, length, sym, ap, ◌∙◌, rules, arith, length-drop}
use Rattle.request_files.proofs.TraceParts.{found_is, trace_is, trace_edges}
use Rattle.request_files.proofs.trace_part.find_trace.Goals as goal

pub overflow_add-result-3 : goal.overflow_add-result-3
overflow_add-result-3 c =
    let first = c.find_mark-division.ensures.few in
    let second = c.find_mark-trace.ensures.few in
    omega (arith, first, second, c.requires, ap length c.split_at.ensures.back, length-drop c.find_mark-division.result.rest c.args.bytes.now)

pub returns-clause-place : goal.returns-clause-place
returns-clause-place c =
    trace_is c.args.bytes.now c.split_at.result.1.now c.find_mark-division.result c.find_mark-trace.result c.split_at.ensures.back c.find_mark-division.ensures c.find_mark-trace.ensures

pub returns-clause-edges : goal.returns-clause-edges
returns-clause-edges c =
    trace_edges c.args.bytes.now c.split_at.result.1.now c.find_mark-division.result c.find_mark-trace.result c.split_at.ensures.back c.find_mark-division.ensures c.find_mark-trace.ensures

pub returns-clause-found : goal.returns-clause-found
returns-clause-found c =
    let there : c.find_mark-trace.result.found ≡ true = search rules in
    sym (found_is c.args.bytes.now c.split_at.result.1.now c.find_mark-division.result c.find_mark-trace.result c.split_at.ensures.back c.find_mark-division.ensures c.find_mark-trace.ensures) ∙ there
