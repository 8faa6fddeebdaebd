-- What a reader of a file's tree may rely on: how many arguments operations have and how many
-- values replies, how deep blocks nest, and how large numbers and places of names are.
use Rattle.std.specs.Prelude.{ℕ, ◌+◌, ◌<◌, ◌≤◌, ◌^◌, List, [], ◌∷◌, ◌++◌, length, map}
use Rattle.std.specs.List.{AllByRecursion, flat_map}
use Rattle.session_values.specs.Limits.{max_depth}
use Rattle.session_values.specs.declared.value.Value.TheVariants.{Num}
use Rattle.session_values.specs.Values.{IsValue}
use Rattle.syntax_trees.specs.declared.stmt.Right.{Right}
use Rattle.syntax_trees.specs.declared.stmt.Right.TheVariants as right
use Rattle.syntax_trees.specs.declared.stmt.Stmt.{Stmt, fold-Stmt}
use Rattle.syntax_trees.specs.declared.stmt.Stmt.TheOpen.{Stmt-F}
use Rattle.syntax_trees.specs.declared.file.Handler.{Handler}
use Rattle.syntax_trees.specs.declared.file.File.{File}
use Rattle.syntax_trees.specs.Mentions.{Mention, a_name, a_symbol, a_number, AreBelow, file_mentions}

-- an operation with so many arguments behind its table; a reply with so many values; a statement
-- with blocks of its own inside so many blocks
pub data Form : Type 0 where
  a_call : ℕ → Form
  a_reply : ℕ → Form
  a_nest : ℕ → Form

abbrev pub right_forms : Right → List Form
right_forms (right.Plain e) = []
right_forms (right.Result call) = a_call (length call.args) ∷ []

-- the forms of a statement inside so many blocks
abbrev pub Forms : Type 0
Forms = ℕ → List Form

abbrev pub forms_at : ℕ → List Forms → List Form
forms_at depth [] = []
forms_at depth (s ∷ ss) = s depth ++ forms_at depth ss

abbrev pub forms_step : Stmt-F Forms → Forms
forms_step (Stmt-F.Let n p r) depth = right_forms r
forms_step (Stmt-F.Assign n p r) depth = right_forms r
forms_step (Stmt-F.Perform call) depth = a_call (length call.args) ∷ []
forms_step (Stmt-F.Choose p cond first second) depth = a_nest
    depth ∷ (forms_at (depth + 1) first ++ forms_at (depth + 1) second)
forms_step (Stmt-F.Repeat p turns q n r body) depth = a_nest depth ∷ forms_at (depth + 1) body
forms_step (Stmt-F.Answer p values) depth = a_reply (length values) ∷ []

abbrev pub stmt_forms : Stmt → Forms
stmt_forms = fold-Stmt Forms forms_step

abbrev pub block_forms : List Stmt → Forms
block_forms ss depth = forms_at depth (map stmt_forms ss)

abbrev pub handler_forms : Handler → List Form
handler_forms h = block_forms h.body 1

-- the forms in all handlers of a file, in their order
abbrev pub file_forms : File → List Form
file_forms f = flat_map handler_forms f.handlers

-- an operation has at most 2 arguments, a reply 1 to 4 values, and a statement with blocks of its
-- own stands inside fewer than 16 blocks
abbrev pub IsBoundedForm : Form → Type 0
IsBoundedForm (a_call n) = n ≤ 2
IsBoundedForm (a_reply n) = (1 ≤ n) × (n ≤ 4)
IsBoundedForm (a_nest depth) = depth < max_depth

-- a number, also how often a repeat runs, is one of i64
abbrev pub IsBoundedNumber : Mention → Type 0
IsBoundedNumber (a_name place) = Unit {0}
IsBoundedNumber (a_symbol place) = Unit {0}
IsBoundedNumber (a_number z) = IsValue (Num z)

-- a file's tree keeps the bounds on its forms, its numbers, and the places of its names and symbols
pub record KeepsBounds (f : File) : Type 0 where
  pub forms : AllByRecursion IsBoundedForm (file_forms f)
  pub numbers : AllByRecursion IsBoundedNumber (file_mentions f)
  -- the place of each name and each symbol is a number of 32 bits
  pub places : AreBelow (2 ^ 32) (file_mentions f)
