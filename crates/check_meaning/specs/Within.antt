-- Code that speaks of variables and tables which exist.
use Rattle.std.specs.Prelude.{◌≡◌, ℕ, ◌<◌, ◌≤◌, List, length, Option, Some, None, slice_get}
use Rattle.std.specs.List.{AllByRecursion}
use Rattle.session_values.specs.Limits.{max_turns}
use Rattle.session_values.specs.declared.value.Value.TheVariants.{Nil}
use Rattle.session_values.specs.declared.kind.TableKind.{TableKind}
use Rattle.session_values.specs.Kinds.{arguments, home}
use Rattle.session_values.specs.Values.{IsValue}
use Rattle.check_meaning.specs.declared.tree.CheckedAtom.{CheckedAtom}
use Rattle.check_meaning.specs.declared.tree.CheckedAtom.TheVariants.{Lit, Var}
use Rattle.check_meaning.specs.declared.tree.CheckedCall.{CheckedCall}
use Rattle.check_meaning.specs.Code.{Term, Atom, Calculate, Code, Finish, Move, Ask, Fork, Loop, Quit}

-- a literal that a program can hold, or a variable below n
abbrev pub AtomWithin : ℕ → CheckedAtom → Type 0
AtomWithin n (Lit v) = IsValue v
AtomWithin n (Var x) = x < n

-- the same of each literal and each variable of an expression
abbrev pub TermWithin : ℕ → Term → Type 0
TermWithin n (Atom a) = AtomWithin n a
TermWithin n (Calculate calc l r) = TermWithin n l × TermWithin n r

-- the table exists and has the operation's kind of container, arguments are within, and those that
-- the kind doesn't have are nil
pub record CallWithin (shape : List TableKind) (n : ℕ) (c : CheckedCall) : Type 0 where
  pub table : slice_get shape c.table ≡ Some (home c.kind)
  pub key : AtomWithin n c.key
  pub value : AtomWithin n c.value
  pub no_key : arguments c.kind < 1 → c.key ≡ Lit Nil
  pub no_value : arguments c.kind < 2 → c.value ≡ Lit Nil

-- the variable that takes a reply, if one does, is below n
abbrev pub VarWithin : ℕ → Option ℕ → Type 0
VarWithin n None = Unit {0}
VarWithin n (Some x) = x < n

-- each variable of the block is below n, each operation fits the tables, each loop has 1 to 1000
-- turns, and each reply has 1 to 4 values
abbrev pub CodeWithin : List TableKind → ℕ → Code → Type 0
CodeWithin shape n Finish = Unit {0}
CodeWithin shape n (Move x e rest) = (x < n) × TermWithin n e × CodeWithin shape n rest
CodeWithin shape n (Ask at p x c rest) = VarWithin n x × CallWithin shape n c
    × CodeWithin shape n rest
CodeWithin shape n (Fork at p q test a b rest) = (TermWithin n test.left × TermWithin n test.right)
    × CodeWithin shape n a × CodeWithin shape n b × CodeWithin shape n rest
CodeWithin shape n (Loop at p turns x body rest) = (x < n) × (0 < turns) × (turns ≤ max_turns)
    × CodeWithin shape n body × CodeWithin shape n rest
CodeWithin shape n (Quit es rest) = (0 < length es) × (length es ≤ 4)
    × AllByRecursion (TermWithin n) es × CodeWithin shape n rest
