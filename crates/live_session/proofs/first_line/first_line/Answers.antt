use Rattle.std.proofs.Common.{◌≡◌, ◌+◌, min, take, drop, length, sym, ap, ◌∙◌, subst, arith}
use Rattle.std.specs.List.{list_all, prefix_len}
use Rattle.std.specs.Str.{IsCharBoundary}
use Rattle.text_lines.specs.Text.{is_line_byte}
use Rattle.text_lines.proofs.TextLemmas.{boundary_stopped, boundary_line_end, line_stop_ascii, lines_cut}
use Rattle.request_files.proofs.ClientLemmas.{line_plain}
use Rattle.live_session.proofs.first_line.first_line.Goals as goal

pub split_at-requires : goal.split_at-requires
split_at-requires c =
    let k : IsCharBoundary c.as_bytes.result.now c.line_len-len.result = subst (IsCharBoundary c.as_bytes.result.now) (sym c.line_len-len.ensures.len) (boundary_stopped is_line_byte c.as_bytes.result.now line_stop_ascii) in
    subst (λ l. IsCharBoundary l c.line_len-len.result) c.as_bytes.ensures.value k

pub split_at-requires-2 : goal.split_at-requires-2
split_at-requires-2 c =
    let e : min (prefix_len is_line_byte c.as_bytes.result.now + 1) (length c.as_bytes.result.now) ≡ c.min.result =
    omega (arith, c.min.ensures, c.line_len-len.ensures.len, ap length c.as_bytes.ensures.value) in
    let k : IsCharBoundary c.as_bytes.result.now c.min.result = subst (IsCharBoundary c.as_bytes.result.now) e (boundary_line_end c.as_bytes.result.now c.as_bytes.ensures.utf8) in
    subst (λ l. IsCharBoundary l c.min.result) c.as_bytes.ensures.value k

pub returns-clause-lines : goal.returns-clause-lines
returns-clause-lines c =
    let e : c.min.result ≡ min (c.line_len-len.result + 1) (length c.args.text.now) = omega (arith, c.min.ensures) in
    lines_cut c.args.text.now c.split_at.result.0.now c.split_at-2.result.1.now c.line_len-len.result c.requires
    (c.line_len-len.ensures.len ∙ ap (prefix_len is_line_byte) c.as_bytes.ensures.value) c.split_at.ensures.front
    (c.split_at-2.ensures.back ∙ ap (λ n. drop n c.args.text.now) e)

pub returns-clause-line : goal.returns-clause-line
returns-clause-line c =
    let n : c.line_len-len.result ≡ prefix_len is_line_byte c.args.text.now = c.line_len-len.ensures.len ∙ ap (prefix_len is_line_byte) c.as_bytes.ensures.value in
    ap (list_all is_line_byte) (c.split_at.ensures.front ∙ ap (λ k. take k c.args.text.now) n) ∙ line_plain c.args.text.now
