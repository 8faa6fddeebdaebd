-- What a dialogue keeps, whatever is replied.
use Rattle.std.specs.Prelude.{◌≡◌, ℕ, ◌≤◌, List}
use Rattle.std.specs.List.{AllByRecursion}
use Rattle.session_values.specs.declared.value.Value.{Value}
use Rattle.session_values.specs.declared.kind.TableKind.{TableKind}
use Rattle.session_values.specs.declared.op.Op.{Op}
use Rattle.session_values.specs.Dialogue.{Next, Calls, Answers, Dialogue, Entry, Follows}
use Rattle.session_values.specs.Op.{IsHeld}
use Rattle.session_values.specs.Reply.{IsHeldReply}
use Rattle.session_values.specs.Tables.{Fits}
use Rattle.session_values.specs.Values.{IsValue}
use Rattle.check_meaning.specs.Bounds.{Weight, weight_of}

-- each operation that is called next fits the tables
abbrev pub CallsFit : List TableKind → Dialogue → Type 0
CallsFit shape f = (replies : List Value) (op : Op) → f replies ≡ Calls op → Fits shape op

-- a program can hold what comes next
abbrev pub IsHeldNext : Next → Type 0
IsHeldNext (Calls op) = IsHeld op
IsHeldNext (Answers r) = IsHeldReply r

-- where a program can hold the replies, it can hold what comes next
abbrev pub KeepsValues : Dialogue → Type 0
KeepsValues f = (replies : List Value) → AllByRecursion IsValue replies → IsHeldNext (f replies)

-- the operations that are called one after another count at most n in all
abbrev pub CountsAtMost : Weight → ℕ → Dialogue → Type 0
CountsAtMost w n f = (entries : List Entry) → Follows f entries → weight_of w entries ≤ n
