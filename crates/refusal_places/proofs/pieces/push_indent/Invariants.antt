use Rattle.std.proofs.Common.{◌≡◌, ◌++◌, take}
use Rattle.refusal_places.specs.Spots.{indent_of}
use Rattle.refusal_places.proofs.pieces.push_indent.Given as goal

-- the blanks of the bytes before the index are appended
abbrev pub invariant-loop-byte : goal.invariant-loop-byte
invariant-loop-byte l = l.text.items ≡ l.fn.text.items ++ indent_of (take l.byte-index l.front)
