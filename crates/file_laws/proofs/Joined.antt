-- The parts of a session file with the text of a trace behind it.
use Rattle.std.proofs.Common.{◌≡◌, ◌+◌, true, false, ◌∷◌, ◌++◌, length, length-append, take, codes, refl, ap, ◌∙◌, arith}
use Rattle.std.proofs.Math.Seq.{take-append_seam}
use Rattle.std.specs.List.{list_any}
use Rattle.text_lines.specs.Text.{Text, lines}
use Rattle.request_files.specs.Divide.{behind, head_size, is_dividing, mark_size}
use Rattle.request_files.specs.TracePart.{before_trace, behind_dividing, behind_trace, has_trace, is_trace_mark, trace_start}
use Rattle.serve_faults.specs.Input.{front_of, is_divided}
use Rattle.file_laws.proofs.Dividing.{any_is, behind_is, head_behind, mark_behind, text_lines}
use Rattle.file_laws.proofs.Fed.{Halves, fed, fed_lines, fed_whole, halves, requests_still, split_still}

its_mark : is_trace_mark (codes "%% trace") ≡ true
unfolding is_trace_mark
its_mark = refl

module _ (input rest : Text) (marked : is_divided input ≡ true) (clean : list_any is_trace_mark (lines (behind is_dividing input)) ≡ false) where
  abbrev half : Halves input
  half = halves input marked

  abbrev requests : Text
  requests = fed (behind is_dividing input)

  abbrev text : Text
  text = codes "%% trace" ++ 10 ∷ rest

  abbrev whole : Text
  whole = fed input ++ text

  none_before : list_any is_trace_mark (lines requests) ≡ false
  none_before = ap (list_any is_trace_mark) (fed_lines (behind is_dividing input)) ∙ clean

  behind_is_here : behind_dividing whole ≡ requests ++ text
  behind_is_here = requests_still input text marked

  pub traced : has_trace (fed input ++ (codes "%% trace" ++ 10 ∷ rest)) ≡ true
  traced = ap (λ (t : Text). list_any is_trace_mark (lines t)) behind_is_here ∙ any_is is_trace_mark requests (codes "%% trace") rest (fed_whole (behind is_dividing input)) none_before refl its_mark

  pub rest_is : behind_trace (fed input ++ (codes "%% trace" ++ 10 ∷ rest)) ≡ rest
  rest_is = ap (behind is_trace_mark) behind_is_here ∙ behind_is is_trace_mark requests (codes "%% trace") rest (fed_whole (behind is_dividing input)) none_before refl its_mark

  -- ---- what stands before the trace

  split : whole ≡ front_of input ++ (half.line ++ 10 ∷ (requests ++ text))
  split = split_still input text marked

  first_lines : lines whole ≡ lines (front_of input) ++ half.line ∷ lines (requests ++ text)
  first_lines = ap lines split ∙ text_lines is_dividing (front_of input) half.line (requests ++ text) half.whole half.undivided half.plain half.marks

  to_requests : mark_size is_dividing (lines whole) ≡ length (front_of input) + (length half.line + 1)
  to_requests =
      ap (mark_size is_dividing) first_lines ∙ mark_behind is_dividing half.line (lines (requests ++ text)) half.marks (lines (front_of input)) half.undivided
      ∙ ap (λ (t : Text). length t + (length half.line + 1)) half.whole

  to_trace : head_size is_trace_mark (lines (behind_dividing whole)) ≡ length requests
  to_trace =
      ap (λ (t : Text). head_size is_trace_mark (lines t)) behind_is_here
      ∙ ap (head_size is_trace_mark) (text_lines is_trace_mark requests (codes "%% trace") rest (fed_whole (behind is_dividing input)) none_before refl its_mark)
      ∙ head_behind is_trace_mark (codes "%% trace") (lines rest) its_mark (lines requests) none_before
      ∙ ap (λ (t : Text). length t) (fed_whole (behind is_dividing input))

  start_is : trace_start whole ≡ length (fed input)
  start_is =
      let all : length (fed input) ≡ length (front_of input ++ (half.line ++ 10 ∷ requests)) = ap (λ (t : Text). length t) half.is in
      omega (arith, to_requests, to_trace, all, length-append (front_of input) (half.line ++ 10 ∷ requests), length-append half.line (10 ∷ requests))

  pub front_is : before_trace (fed input ++ (codes "%% trace" ++ 10 ∷ rest)) ≡ fed input
  front_is = ap (λ n. take n whole) start_is ∙ take-append_seam (fed input) text
