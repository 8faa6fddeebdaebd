use Rattle.std.proofs.Common.{◌≡◌, ◌≤◌, vec_capacity, vec_len}
use Rattle.session_hall.specs.Openings.{NewParts}
use Rattle.session_hall.proofs.filling.new_parts.Given as goal

abbrev pub invariant-loop-place : goal.invariant-loop-place
invariant-loop-place g l = record {
  parts : NewParts (g.S.Script.meaning l.script) l.shards l.place l.values.items;
  long : vec_len l.values ≡ l.place;
  room : 57 ≤ vec_capacity l.values;
}
