-- The trace part of a session file: it begins at the first line behind the dividing line that is
-- `%% trace`. The file may be any bytes.
use Rattle.std.specs.Prelude.{◌≡◌, ℕ, ◌+◌, ◌≤◌, Bool, ◌&&◌, take, drop, codes, length}
use Rattle.std.specs.List.{list_all, list_any, position_or_len}
use Rattle.std.specs.Str.{bytes_eq}
use Rattle.text_lines.specs.Bytes.{is_blank}
use Rattle.text_lines.specs.Text.{Text, lines}
use Rattle.request_files.specs.declared.trace_part.TracePlace.{TracePlace}
use Rattle.request_files.specs.Divide.{is_dividing, head_size, mark_size, behind, line_behind}

-- the line behind which a trace stands: `%% trace`, and then blanks only
unfoldable pub is_trace_mark : Text → Bool
is_trace_mark l = bytes_eq (take 8 l) (codes "%% trace") && list_all is_blank (drop 8 l)

-- what stands behind the dividing line: requests, and perhaps a trace part
abbrev pub behind_dividing : Text → Text
behind_dividing text = behind is_dividing text

-- whether a file has a trace part
abbrev pub has_trace : Text → Bool
has_trace text = list_any is_trace_mark (lines (behind_dividing text))

-- how many bytes stand before the line at which it begins, where there is one
abbrev pub trace_start : Text → ℕ
trace_start text = mark_size is_dividing (lines text)
    + head_size is_trace_mark (lines (behind_dividing text))

-- what stands before that line: all where there is none
abbrev pub before_trace : Text → Text
before_trace text = take (trace_start text) text

-- what stands behind it: nothing where there is none
abbrev pub behind_trace : Text → Text
behind_trace text = behind is_trace_mark (behind_dividing text)

-- the number in the file of the line behind it
abbrev pub line_behind_trace : Text → ℕ
line_behind_trace text = line_behind is_dividing text
    + (position_or_len is_trace_mark (lines (behind_dividing text)) + 1)

-- the place of a file's trace part
pub record IsTracePlace (text : Text) (p : TracePlace) : Type 0 where
  pub front : take p.front text ≡ before_trace text
  pub rest : drop p.rest text ≡ behind_trace text
  pub line : p.line ≡ line_behind_trace text
  pub order : p.front ≤ p.rest
  pub within : p.rest ≤ length text
