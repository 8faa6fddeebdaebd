use Rattle.std.proofs.Common.{◌≡◌, ◌+◌, ◌-◌, ◌<◌, min, length, get_or, refl, sym, ap, ◌∙◌, subst, arith, length-drop}
use Rattle.std.specs.Str.{IsCharBoundary}
use Rattle.request_files.specs.Marks.{IsPlace, says}
use Rattle.request_files.proofs.DivideLemmas.{passed_start_boundary, place_here, place_last, place_left, passed_more, line_at, rest_at, feed_at, boundary_next, last_line}
use Rattle.request_files.proofs.mark_place.find_mark.Goals as goal

pub returns-then-is : goal.returns-then-is
returns-then-is c =
    let text = c.args.bytes.now in
    let rest = c.split_at.result.1.now in
    let line = c.split_at-in-lines.result.0.now in
    let n = c.line_len-len.result in
    let r = c.split_at.ensures.back in
    let is = line_at text rest line c.lines.at n (omega (arith, c.lines-test.true)) r c.line_len-len.ensures.len c.split_at-in-lines.ensures.front in
    let long : length line ≡ n = omega (arith, c.split_at-in-lines.ensures.front_len) in
    let end : c.min.result ≡ min (c.lines.at + (length line + 1)) (length text) = omega (arith, c.min.ensures, long) in
    let k : min (c.lines.at + n + 1) (length text) ≡ c.min.result = omega (arith, c.min.ensures) in
    place_here (says c.args.mark) text c.lines.at c.lines.number line _ c.lines.invariant is c.min.result (sym c.is.ensures ∙ c.if-is.true) end
    (λ u. (passed_start_boundary (says c.args.mark) text c.lines.at c.lines.number u c.lines.invariant, subst (IsCharBoundary text) k (boundary_next text rest c.lines.at n u c.lines.invariant.within r c.line_len-len.ensures.len)))

pub returns-then-len-rest : goal.returns-then-len-rest
returns-then-len-rest c =
    let text = c.args.bytes.now in
    let rest = c.split_at.result.1.now in
    let line = c.split_at-in-lines.result.0.now in
    let n = c.line_len-len.result in
    let r = c.split_at.ensures.back in
    let is = line_at text rest line c.lines.at n (omega (arith, c.lines-test.true)) r c.line_len-len.ensures.len c.split_at-in-lines.ensures.front in
    subst (λ p. IsPlace (says c.args.mark) text p) (sym c.unmarked.ensures)
    (place_last (says c.args.mark) text c.lines.at c.lines.number line _ c.lines.invariant is (sym c.is.ensures ∙ c.if-is.false) (last_line rest n (omega arith)) (omega (arith, c.lines-test.true)) (omega (arith, ap length r, length-drop c.lines.at text, c.split_at-in-lines.ensures.front_len)))

pub lines-preserved : goal.lines-preserved
lines-preserved c =
    let text = c.args.bytes.now in
    let rest = c.split_at.result.1.now in
    let line = c.split_at-in-lines.result.0.now in
    let n = c.line_len-len.result in
    let r = c.split_at.ensures.back in
    let is = line_at text rest line c.lines.at n (omega (arith, c.lines-test.true)) r c.line_len-len.ensures.len c.split_at-in-lines.ensures.front in
    let less : n < length rest = omega arith in
    let at : c.lines.at + (n + 1) - 1 ≡ c.lines.at + n = omega arith in
    passed_more (says c.args.mark) text c.lines.at c.lines.number line _ c.lines.invariant is (c.lines.at + (n + 1)) (sym c.is.ensures ∙ c.if-is.false)
    (omega (arith, c.split_at-in-lines.ensures.front_len)) (rest_at text rest c.lines.at n (c.lines.at + (n + 1)) r refl)
    (omega (arith, ap length r, length-drop c.lines.at text)) (ap (λ k. get_or text k 0) at ∙ feed_at text rest c.lines.at n r c.line_len-len.ensures.len less)

pub returns : goal.returns
returns c =
    let text = c.args.bytes.now in
    subst (λ p. IsPlace (says c.args.mark) text p) (sym c.unmarked-2.ensures)
    (place_left (says c.args.mark) text c.lines.at c.lines.number c.lines.invariant (omega (arith, c.lines-test.false)))
