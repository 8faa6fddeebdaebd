use Rattle.std.proofs.Common.{sym, subst}
use Rattle.std.specs.Str.{IsCharBoundary}
use Rattle.text_lines.specs.Text.{is_line_byte}
use Rattle.text_lines.proofs.TextLemmas.{boundary_stopped, line_stop_ascii}
use Rattle.refusal_advice.proofs.explaining.first_line.Goals as goal

pub split_at-requires : goal.split_at-requires
split_at-requires c =
    let k : IsCharBoundary c.as_bytes.result.now c.line_len.result = subst (IsCharBoundary c.as_bytes.result.now) (sym c.line_len.ensures.len) (boundary_stopped is_line_byte c.as_bytes.result.now line_stop_ascii) in
    subst (λ l. IsCharBoundary l c.line_len.result) c.as_bytes.ensures.value k
