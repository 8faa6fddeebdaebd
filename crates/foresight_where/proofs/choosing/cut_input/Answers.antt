use Rattle.std.proofs.Common.{◌≡◌, ◌+◌, length, drop, refl, sym, ap, ◌∙◌, arith, length-drop}
use Rattle.std.proofs.lemmas.List.{drop-drop}
use Rattle.request_files.proofs.DivideLemmas.{line_at, rest_at}
use Rattle.foresight_where.specs.Chosen.{is_refusal}
use Rattle.foresight_where.proofs.Passing.{front_here, line_here, back_here, passed_more, front_left, line_left, back_left}
use Rattle.foresight_where.proofs.choosing.cut_input.Goals as goal

pub returns-then-is_refusal-clause-front : goal.returns-then-is_refusal-clause-front
returns-then-is_refusal-clause-front c =
    let text = c.args.input.now in
    let line = c.split_at-in-lines.result.0.now in
    let these = line_at text c.split_at.result.1.now line c.lines.at c.line_len-len.result (omega (arith, c.lines-test.true)) c.split_at.ensures.back c.line_len-len.ensures.len c.split_at-in-lines.ensures.front in
    c.split_at.ensures.front ∙ front_here is_refusal text c.lines.at c.lines.invariant line _ these (sym c.is_refusal.ensures ∙ c.if-is_refusal.true)

pub returns-then-is_refusal-clause-line : goal.returns-then-is_refusal-clause-line
returns-then-is_refusal-clause-line c =
    let text = c.args.input.now in
    let line = c.split_at-in-lines.result.0.now in
    let these = line_at text c.split_at.result.1.now line c.lines.at c.line_len-len.result (omega (arith, c.lines-test.true)) c.split_at.ensures.back c.line_len-len.ensures.len c.split_at-in-lines.ensures.front in
    line_here is_refusal text c.lines.at c.lines.invariant line _ these (sym c.is_refusal.ensures ∙ c.if-is_refusal.true)

pub returns-then-is_refusal-clause-back : goal.returns-then-is_refusal-clause-back
returns-then-is_refusal-clause-back c =
    let text = c.args.input.now in
    let rest = c.split_at.result.1.now in
    let line = c.split_at-in-lines.result.0.now in
    let n = c.line_len-len.result in
    let these = line_at text rest line c.lines.at n (omega (arith, c.lines-test.true)) c.split_at.ensures.back c.line_len-len.ensures.len c.split_at-in-lines.ensures.front in
    let long : length line ≡ n = omega (arith, c.split_at-in-lines.ensures.front_len) in
    let end : c.lines.at + (n + 1) ≡ c.lines.at + (length line + 1) = omega (arith, long) in
    c.behind_feed-back.ensures ∙ ap (drop 1) c.split_at-in-lines.ensures.back ∙ drop-drop 1 n rest ∙ ap (drop (n + 1)) c.split_at.ensures.back
    ∙ drop-drop (n + 1) c.lines.at text ∙ ap (λ k. drop k text) end
    ∙ back_here is_refusal text c.lines.at c.lines.invariant line _ these (sym c.is_refusal.ensures ∙ c.if-is_refusal.true)

pub lines-preserved : goal.lines-preserved
lines-preserved c =
    let text = c.args.input.now in
    let rest = c.split_at.result.1.now in
    let line = c.split_at-in-lines.result.0.now in
    let n = c.line_len-len.result in
    let r = c.split_at.ensures.back in
    let these = line_at text rest line c.lines.at n (omega (arith, c.lines-test.true)) r c.line_len-len.ensures.len c.split_at-in-lines.ensures.front in
    passed_more is_refusal text c.lines.at c.lines.invariant line _ these (c.lines.at + (n + 1)) (sym c.is_refusal.ensures ∙ c.if-is_refusal.false)
    (omega (arith, c.split_at-in-lines.ensures.front_len)) (rest_at text rest c.lines.at n (c.lines.at + (n + 1)) r refl)
    (omega (arith, ap length r, length-drop c.lines.at text, c.line_len-len.ensures.within, c.lines-test.true))

pub returns-clause-front : goal.returns-clause-front
returns-clause-front c = front_left is_refusal c.args.input.now c.lines.at c.lines.invariant (omega (arith, c.lines-test.false))

pub returns-clause-line : goal.returns-clause-line
returns-clause-line c = line_left is_refusal c.args.input.now c.lines.at c.lines.invariant (omega (arith, c.lines-test.false))

pub returns-clause-back : goal.returns-clause-back
returns-clause-back c = back_left is_refusal c.args.input.now c.lines.at c.lines.invariant (omega (arith, c.lines-test.false))
