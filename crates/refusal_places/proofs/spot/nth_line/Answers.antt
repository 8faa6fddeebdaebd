use Rattle.std.proofs.Common.{◌≡◌, ◌<◌, ◌+◌, ◌-◌, drop, length, Some, slice_get, sym, ap, ◌∙◌, arith}
use Rattle.std.proofs.lemmas.Bool.Decides.{nat_tests}
use Rattle.std.proofs.lemmas.List.{drop-drop}
use Rattle.text_lines.specs.Text.{lines}
use Rattle.refusal_places.proofs.Spotting.{first_line, no_line, nth_past, nth_step}
use Rattle.refusal_places.proofs.spot.nth_line.Goals as goal

pub returns-then-len-rest : goal.returns-then-len-rest
returns-then-len-rest c =
    let left : 0 < c.args.skipped - c.loop-done.done = omega (arith, c.loop-done-test.true) in
    sym (c.loop-done.invariant ∙ nth_past c.loop-done.rest.now c.line_len-len.result (c.args.skipped - c.loop-done.done) c.line_len-len.ensures.len c.if-len-rest.true left)

pub loop-done-preserved : goal.loop-done-preserved
loop-done-preserved c =
    let left : 0 < c.args.skipped - c.loop-done.done = omega (arith, c.loop-done-test.true) in
    let within : c.line_len-len.result < length c.loop-done.rest.now = omega (arith, c.line_len-len.ensures.within, c.if-len-rest.false) in
    let cut : c.split_at-in-loop-done.result.1.now ≡ drop (c.line_len-len.result + 1) c.loop-done.rest.now =
    c.split_at-in-loop-done.ensures.back ∙ ap (drop 1) c.split_at.ensures.back ∙ drop-drop 1 c.line_len-len.result c.loop-done.rest.now in
    let next : c.args.skipped - c.loop-done.done - 1 ≡ c.args.skipped - (c.loop-done.done + 1) = omega arith in
    c.loop-done.invariant ∙ nth_step c.loop-done.rest.now c.split_at-in-loop-done.result.1.now c.line_len-len.result (c.args.skipped - c.loop-done.done) c.line_len-len.ensures.len within cut left
    ∙ ap (slice_get (lines c.split_at-in-loop-done.result.1.now)) next

pub returns-then-is_empty : goal.returns-then-is_empty
returns-then-is_empty c = sym (c.loop-done.invariant ∙ no_line c.loop-done.rest.now _ (grind (arith, nat_tests, c.is_empty.ensures, c.if-is_empty.true)))

pub returns-else-is_empty : goal.returns-else-is_empty
returns-else-is_empty c =
    let none_left : c.args.skipped - c.loop-done.done ≡ 0 = omega (arith, c.loop-done-test.false) in
    sym (c.loop-done.invariant ∙ first_line c.loop-done.rest.now _ none_left (grind (arith, nat_tests, c.is_empty.ensures, c.if-is_empty.false)) ∙ ap Some (sym c.line_of.ensures))
