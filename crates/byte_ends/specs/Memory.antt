-- Sources and sinks in memory, as contracts see them, and what their calls do.
use Rattle.std.specs.Prelude.{ℕ, ◌-◌, ◌^◌, min, Bool, nat_eq, nat_le, if◌then◌else◌, List, ◌++◌, length, take, drop}
use Rattle.std.specs.List.{list_any}
use Rattle.byte_ends.specs.declared.source.Got.{Got}
use Rattle.byte_ends.specs.declared.source.Got.TheVariants as got
use Rattle.byte_ends.specs.declared.sink.Put.{Put}
use Rattle.byte_ends.specs.declared.sink.Put.TheVariants as put
use Rattle.byte_ends.specs.Ends.{raised}

-- whether a number is in a list
abbrev pub is_listed : List ℕ → ℕ → Bool
is_listed numbers n = list_any (λ m. nat_eq m n) numbers

-- a source: the bytes to come, the most of a call, the calls that fail, the calls and the faults so
-- far
pub record SourceView : Type 0 where
  pub left : List ℕ
  pub piece : ℕ
  pub fails : List ℕ
  pub calls : ℕ
  pub faults : ℕ

-- what a read into so many bytes answers
abbrev pub read_answer : SourceView → ℕ → Got
read_answer s asked =
    if is_listed s.fails s.calls then got.Failed
    else (if nat_eq (length s.left) 0 then got.End
    else (got.Bytes (min s.piece (min asked (length s.left)))))

-- the source behind a read with this answer
abbrev pub after_read : SourceView → Got → SourceView
after_read s (got.Bytes n) = record s { left = drop n s.left; calls = raised s.calls }
after_read s got.End = record s { calls = raised s.calls }
after_read s got.Failed = record s { calls = raised s.calls; faults = raised s.faults }

-- a sink: the bytes taken, its room, the most of a call, the calls that fail, the calls and the
-- faults so far
pub record SinkView : Type 0 where
  pub held : List ℕ
  pub room : ℕ
  pub piece : ℕ
  pub fails : List ℕ
  pub calls : ℕ
  pub faults : ℕ

-- what a write of so many bytes answers
abbrev pub write_answer : SinkView → ℕ → Put
write_answer s offered =
    if is_listed s.fails s.calls then put.Failed
    else (if nat_le s.room (length s.held) then put.Failed
    else (put.Took (min s.piece (min offered (s.room - length s.held)))))

-- the sink behind a write of these bytes with this answer
abbrev pub after_write : SinkView → List ℕ → Put → SinkView
after_write s bytes (put.Took n) = record s {
  held = s.held ++ take n bytes;
  calls = raised s.calls;
}
after_write s bytes put.Failed = record s { calls = raised s.calls; faults = raised s.faults }

-- what a read of a sure source answers, by how much is left and how much fits: a count is at most
-- the largest u32
abbrev pub sure_answer : ℕ → ℕ → Got
sure_answer left asked = if nat_eq left 0 then got.End
    else (got.Bytes (min (min left asked) (2 ^ 32 - 1)))
