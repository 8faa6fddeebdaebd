-- Programs: checked files with their declarations.
use Rattle.std.specs.Prelude.{ℕ, List, [], slice_index_or}
use Rattle.symbolic_ops.specs.declared.symbol.Symbol.{Symbol}
use Rattle.syntax_trees.specs.declared.file.File.{File}
use Rattle.syntax_trees.specs.Bounds.{KeepsBounds}
use Rattle.handler_check.specs.Checking.{IsAccepted}
use Rattle.may_use_analysis.specs.Later.{AreLater}
use Rattle.declaration_insertion.specs.Promises.{Declarations, listed}

-- a file, and for each handler the lists of its points
pub record ProgramView : Type 0 where
  pub file : File
  pub lists : List (List (List Symbol))

-- the file is accepted and keeps its bounds, and each point has the list of the operations that may
-- still come
pub record IsProgram (p : ProgramView) : Type 0 where
  pub accepted : IsAccepted p.file
  pub bounds : KeepsBounds p.file
  pub later : AreLater p.file p.lists

-- the declarations of the handler of this number
abbrev pub declared_at : ProgramView → ℕ → Declarations
declared_at p h = listed (slice_index_or p.lists h [])
