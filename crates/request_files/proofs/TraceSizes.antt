-- What stands before a trace part, and how many lines.
use Rattle.std.proofs.Common.{◌≡◌, ℕ, suc, ◌+◌, ◌*◌, ◌≤◌, Bool, true, false, cond, List, [], ◌∷◌, length, take, sym, ap, arith, length-drop, length-take}
use Rattle.std.specs.Prelude.{not}
use Rattle.std.specs.List.{list_any, position_or_len}
use Rattle.std.proofs.lemmas.List.{take_all}
use Rattle.std.proofs.lemmas.List.Sums.{prefix_len-le-length}
use Rattle.text_lines.specs.Text.{Text, attach, is_line_byte, lines}
use Rattle.request_files.specs.declared.trace_part.TracePlace.{TracePlace}
use Rattle.request_files.specs.Divide.{head_size, is_dividing, mark_size}
use Rattle.request_files.specs.TracePart.{IsTracePlace, before_trace, behind_dividing, has_trace, is_trace_mark, line_behind_trace, trace_start}
use Rattle.request_files.proofs.WholeParts.{unmarked_is}

-- lines that none of are a mark take all of a text
head_all : (is : Text → Bool) (text : Text) → list_any is (lines text) ≡ false → length text ≤ head_size is (lines text)
head_all is text none = taken text (head_size is (lines text)) (unmarked_is is text none).head_is where
  taken : (bs : Text) (n : ℕ) → take n bs ≡ bs → length bs ≤ n
  taken bs n e = omega (arith, ap length e, length-take n bs)

-- all of a file without a trace part stands before it
pub before_whole : (input : Text) → has_trace input ≡ false → before_trace input ≡ input
before_whole input none =
    let m : ℕ = mark_size is_dividing (lines input) in
    let rest : length (behind_dividing input) ≤ head_size is_trace_mark (lines (behind_dividing input)) = head_all is_trace_mark (behind_dividing input) none in
    take_all (trace_start input) input (omega (arith, rest, length-drop m input))

attached : (b n : ℕ) (ls : List Text) → length ls ≤ n → length (attach b ls) ≤ suc n
attached b n [] h = omega arith
attached b n (l ∷ ls) h = omega (arith, h)

either : (b : Bool) (n : ℕ) (xs ys : List Text) → length xs ≤ n → length ys ≤ n → length (cond b xs ys) ≤ n
either true n xs ys h k = h
either false n xs ys h k = k

-- a text has no more lines than bytes
pub lines_few : (bs : Text) → length (lines bs) ≤ length bs
unfolding lines
lines_few [] = omega arith
lines_few (b ∷ bs) =
    let rest = lines_few bs in
    either (is_line_byte b) (suc (length bs)) (attach b (lines bs)) ([] ∷ lines bs) (attached b (length bs) (lines bs) rest) (omega (arith, rest))

-- how many lines stand before what is behind the mark
pub line_within : (input : Text) → line_behind_trace input ≤ 2 * length input + 3
line_within input =
    let rest : Text = behind_dividing input in
    let first : position_or_len is_dividing (lines input) ≤ length (lines input) = prefix_len-le-length (λ l. not (is_dividing l)) (lines input) in
    let second : position_or_len is_trace_mark (lines rest) ≤ length (lines rest) = prefix_len-le-length (λ l. not (is_trace_mark l)) (lines rest) in
    omega (arith, first, second, lines_few input, lines_few rest, length-drop (mark_size is_dividing (lines input)) input)

-- so many bytes stand before it as its place says
pub front_long : (input : Text) (p : TracePlace) → IsTracePlace input p → length (before_trace input) ≡ p.front
front_long input p at =
    let same : length (before_trace input) ≡ length (take p.front input) = ap (λ (t : Text). length t) (sym at.front) in
    omega (arith, same, at.order, at.within, length-take p.front input)
