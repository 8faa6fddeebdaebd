-- A text at the front of a room.
use Rattle.std.specs.Prelude.{ℕ, List, ◌++◌, length, take, drop}

-- a room after a text, or another list, was put at its front: as much of it as the room takes, and
-- behind that what stood there
abbrev pub put_at_front : {X : Type 0} → List X → List X → List X
put_at_front room text = take (length room) text ++ drop (length text) room
