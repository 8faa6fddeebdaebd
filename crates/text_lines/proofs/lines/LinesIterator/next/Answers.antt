use Rattle.std.proofs.Common.{◌≡◌, ◌+◌, min, drop, length, sym, ap, ◌∙◌, subst, arith, refl}
use Rattle.std.proofs.lemmas.Bool.Decides.{nat_tests}
use Rattle.std.specs.Str.{IsCharBoundary}
use Rattle.std.specs.List.{prefix_len}
use Rattle.text_lines.specs.Text.{is_line_byte}
use Rattle.text_lines.proofs.TextLemmas.{boundary_stopped, boundary_line_end, line_stop_ascii, lines_cut, none_left}
use Rattle.text_lines.proofs.lines.LinesIterator.next.Goals as goal

pub split_at-requires : goal.split_at-requires
split_at-requires c =
    let k : IsCharBoundary c.as_bytes.result.now c.line_len-len.result = subst (IsCharBoundary c.as_bytes.result.now) (sym c.line_len-len.ensures.len) (boundary_stopped is_line_byte c.as_bytes.result.now line_stop_ascii) in
    subst (λ l. IsCharBoundary l c.line_len-len.result) c.as_bytes.ensures.value k

pub returns-then-is_empty-clause-steps : goal.returns-then-is_empty-clause-steps
returns-then-is_empty-clause-steps c = (none_left _ (grind (arith, nat_tests, c.is_empty.ensures, c.if-is_empty.true)), refl)

pub split_at-requires-2 : goal.split_at-requires-2
split_at-requires-2 c =
    let e : min (prefix_len is_line_byte c.as_bytes.result.now + 1) (length c.as_bytes.result.now) ≡ c.min.result =
    omega (arith, c.min.ensures, c.line_len-len.ensures.len, ap length c.as_bytes.ensures.value) in
    let k : IsCharBoundary c.as_bytes.result.now c.min.result = subst (IsCharBoundary c.as_bytes.result.now) e (boundary_line_end c.as_bytes.result.now c.as_bytes.ensures.utf8) in
    subst (λ l. IsCharBoundary l c.min.result) c.as_bytes.ensures.value k

pub returns-clause-steps : goal.returns-clause-steps
returns-clause-steps c =
    let e : c.min.result ≡ min (c.line_len-len.result + 1) (length c.args.self.now.rest.now) = omega (arith, c.min.ensures) in (
      lines_cut c.args.self.now.rest.now c.split_at.result.0.now c.split_at-2.result.1.now c.line_len-len.result
          (grind (arith, nat_tests, c.is_empty.ensures, c.if-is_empty.false))
          (c.line_len-len.ensures.len ∙ ap (prefix_len is_line_byte) c.as_bytes.ensures.value) c.split_at.ensures.front
          (c.split_at-2.ensures.back ∙ ap (λ n. drop n c.args.self.now.rest.now) e),
      refl,
      refl,
    )
