-- Files whose text can be put with counters of 32 bits.
use Rattle.std.specs.Prelude.{ℕ, ◌+◌, ◌<◌, ◌^◌, length}
use Rattle.std.specs.List.{AllByRecursion}
use Rattle.syntax_trees.specs.declared.file.File.{File}
use Rattle.syntax_trees.specs.declared.file.Handler.{Handler}
use Rattle.syntax_trees.proofs.Sizes.{block_size}
use Rattle.syntax_printer.specs.declared.spot.Spot.{Spot}

-- A part of so many statements and blocks goes on at the spot: it has no more points, and nests no
-- deeper.
abbrev pub FitsAt : Spot → ℕ → Type 0
FitsAt spot size = (spot.depth + size < 2 ^ 32) × (spot.point + size < 2 ^ 32)

-- a handler of fewer than 2^32 statements and blocks
abbrev pub IsCountableHandler : Handler → Type 0
IsCountableHandler h = 1 + block_size h.body < 2 ^ 32

-- fewer than 2^32 handlers, each of them countable
pub record IsCountable (file : File) : Type 0 where
  pub few : length file.handlers < 2 ^ 32
  pub handlers : AllByRecursion IsCountableHandler file.handlers
