-- No part of a session file is longer than the file.
use Rattle.std.proofs.Common.{◌≤◌, Bool, length, arith, length-drop}
use Rattle.std.proofs.lemmas.List.{length-take}
use Rattle.text_lines.specs.Text.{Text, lines}
use Rattle.request_files.specs.Divide.{before, behind, head_size, is_dividing, is_table_mark, mark_size}
use Rattle.serve_faults.specs.Input.{Parts, front_of, parts_of}

pub before_few : (is : Text → Bool) (text : Text) → length (before is text) ≤ length text
before_few is text = omega (arith, length-take (head_size is (lines text)) text)

pub behind_few : (is : Text → Bool) (text : Text) → length (behind is text) ≤ length text
behind_few is text = omega (arith, length-drop (mark_size is (lines text)) text)

pub record AreShort (parts : Parts) : Type 0 where
  pub handlers : length parts.handlers ≤ 4194304
  pub tables : length parts.tables ≤ 4194304
  pub requests : length parts.requests ≤ 4194304

pub are_short : (input : Text) → length input ≤ 4194304 → AreShort (parts_of input)
are_short input short = record {
  handlers = omega (arith, before_few is_table_mark (front_of input), front_few);
  tables = omega (arith, behind_few is_table_mark (front_of input), front_few);
  requests = omega (arith, behind_few is_dividing input, short);
}
  where
    front_few : length (front_of input) ≤ 4194304
    front_few = omega (arith, before_few is_dividing input, short)
