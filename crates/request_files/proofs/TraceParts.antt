-- Where the trace part of a file stands, and that it may be cut off where the file is UTF-8.
use Rattle.std.proofs.Common.{◌≡◌, ◌+◌, ◌-◌, ◌≤◌, min, length, take, drop, IsUtf8, sym, ap, ◌∙◌, subst, arith, length-drop}
use Rattle.std.proofs.lemmas.List.{drop-drop}
use Rattle.std.proofs.lemmas.Str.{IsCharBoundary-from_rest, IsUtf8-take, IsUtf8-drop}
use Rattle.std.specs.List.{list_any, position_or_len}
use Rattle.std.specs.Str.{IsCharBoundary}
use Rattle.text_lines.specs.Text.{Text, lines}
use Rattle.request_files.specs.declared.mark_place.MarkPlace.{MarkPlace}
use Rattle.request_files.specs.declared.trace_part.TracePlace.{TracePlace}
use Rattle.request_files.specs.Divide.{is_dividing, head_size, behind}
use Rattle.request_files.specs.Marks.{IsPlace}
use Rattle.request_files.specs.TracePart.{is_trace_mark, has_trace, behind_dividing, before_trace, behind_trace, trace_start, IsTracePlace}
use Rattle.request_files.proofs.DivideLemmas.{cut_rest, take_min}

-- the places of the two marks, the second in what stands behind the first
module _ (text rest : Text) (d t : MarkPlace) (r : rest ≡ drop d.rest text) (first : IsPlace is_dividing text d) (second : IsPlace is_trace_mark rest t) where
  behind_is : rest ≡ behind_dividing text
  behind_is = r ∙ cut_rest is_dividing text d first

  pub found_is : t.found ≡ has_trace text
  found_is = second.found ∙ ap (λ x. list_any is_trace_mark (lines x)) behind_is

  d_within : d.rest ≤ length text
  d_within = omega (arith, first.rest)

  rest_long : d.rest + length rest ≡ length text
  rest_long = omega (arith, ap length r, length-drop d.rest text, d_within)

  front_is : d.rest + t.front ≡ min (trace_start text) (length text)
  front_is =
      let size : head_size is_trace_mark (lines rest) ≡ head_size is_trace_mark (lines (behind_dividing text)) = ap (λ x. head_size is_trace_mark (lines x)) behind_is in
      omega (arith, first.rest, second.front, size, rest_long)

  pub trace_is : IsTracePlace text (record { front = d.rest + t.front; rest = d.rest + t.rest; line = d.next + (t.next - 1) })
  trace_is = record {
    front = ap (λ n. take n text) front_is ∙ take_min (trace_start text) text;
    rest = sym (drop-drop t.rest d.rest text) ∙ ap (λ x. drop t.rest x) (sym r) ∙ cut_rest is_trace_mark rest t second ∙ ap (behind is_trace_mark) behind_is;
    line =
        let place : position_or_len is_trace_mark (lines rest) ≡ position_or_len is_trace_mark (lines (behind_dividing text)) = ap (λ x. position_or_len is_trace_mark (lines x)) behind_is in
        omega (arith, first.next, second.next, place);
    order = omega (arith, second.order);
    within = omega (arith, second.rest, rest_long);
  }

  pub trace_edges : IsUtf8 text → IsCharBoundary text (d.rest + t.front) × IsCharBoundary text (d.rest + t.rest)
  trace_edges u =
      let cut : IsUtf8 rest = subst IsUtf8 (sym r) (IsUtf8-drop text d.rest u (first.edges u).1) in
      let edges = second.edges cut in
      (IsCharBoundary-from_rest text d.rest t.front d_within (subst (λ x. IsCharBoundary x t.front) r edges.0), IsCharBoundary-from_rest text d.rest t.rest d_within (subst (λ x. IsCharBoundary x t.rest) r edges.1))

-- where the file is UTF-8 and may be cut there, so are both parts
pub utf8_parts : (text : Text) (p : TracePlace) → IsTracePlace text p → IsCharBoundary text p.front × IsCharBoundary text p.rest → IsUtf8 text → IsUtf8 (before_trace text) × IsUtf8 (behind_trace text)
utf8_parts text p is edges u = (subst IsUtf8 is.front (IsUtf8-take text p.front u edges.0), subst IsUtf8 is.rest (IsUtf8-drop text p.rest u edges.1))
