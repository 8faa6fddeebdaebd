-- The byte places that stand for points.
use Rattle.std.specs.Prelude.{ℕ, List, [], ◌∷◌, ◌++◌}
use Rattle.check_meaning.specs.Code.{Code, Finish, Move, Ask, Fork, Loop, Quit}

-- the places of the points of a block, in the order of the text: of an operation, of a choice for
-- the start of either side, of a loop
abbrev pub places : Code → List ℕ
places Finish = []
places (Move x e rest) = places rest
places (Ask at p x c rest) = at ∷ places rest
places (Fork at p q test a b rest) = at ∷ (places a ++ at ∷ (places b ++ places rest))
places (Loop at p n x body rest) = places body ++ at ∷ places rest
places (Quit es rest) = places rest
