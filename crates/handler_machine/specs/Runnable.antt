-- Code that can be walked with so many variables: it speaks of them alone, over some tables.
use Rattle.std.specs.Prelude.{ℕ, List}
use Rattle.session_values.specs.declared.kind.TableKind.{TableKind}
use Rattle.check_meaning.specs.declared.tree.CheckedCall.{CheckedCall}
use Rattle.check_meaning.specs.Code.{Code}
use Rattle.check_meaning.specs.Within.{CallWithin, CodeWithin}

abbrev pub IsCallWithin : ℕ → CheckedCall → Type 0
IsCallWithin n c = (shape : List TableKind) × CallWithin shape n c

-- the block is within the first n variables, and within tables of some kinds
abbrev pub IsRunnable : ℕ → Code → Type 0
IsRunnable n code = (shape : List TableKind) × CodeWithin shape n code
