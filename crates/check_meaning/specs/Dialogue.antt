-- What a handler does, as a dialogue with the tables: it calls operations and is told their
-- replies.
use Rattle.std.specs.Prelude.{ℕ, zero, suc, ◌+◌, ◌==◌, Bool, true, false, not, if◌then◌else◌, ◌&&◌, ℤ, pos, negsuc, ◌+ℤ◌, ◌-ℤ◌, ◌*ℤ◌, int_lt, int_le, List, [], ◌∷◌, ◌++◌, map, Option, Some, None, slice_index_or}
use Rattle.session_values.specs.declared.value.Value.{Value}
use Rattle.session_values.specs.declared.value.Value.TheVariants.{Nil, Num}
use Rattle.session_values.specs.declared.op.Op.{Op}
use Rattle.session_values.specs.Values.{value_eq}
use Rattle.session_values.specs.Reply.{reply_of}
use Rattle.session_values.specs.Dialogue.{Next, Calls as NextCalls, Answers as NextAnswers, Dialogue}
use Rattle.syntax_trees.specs.declared.expr.Calc.{Calc}
use Rattle.syntax_trees.specs.declared.expr.Calc.TheVariants.{Plus, Minus, Times}
use Rattle.syntax_trees.specs.declared.stmt.Compare.{Compare}
use Rattle.syntax_trees.specs.declared.stmt.Compare.TheVariants.{Same, Differ, Less, LessOrSame}
use Rattle.check_meaning.specs.declared.tree.CheckedAtom.{CheckedAtom}
use Rattle.check_meaning.specs.declared.tree.CheckedAtom.TheVariants.{Lit, Var}
use Rattle.check_meaning.specs.declared.tree.CheckedCall.{CheckedCall}
use Rattle.check_meaning.specs.Code.{Term, Atom, Calculate, Test, Code, Finish, Move, Ask, Fork, Loop, Quit}

-- ---- values

-- the values of the variables, by their numbers
abbrev pub Env : Type 0
Env = ℕ → Value

-- those of a list, and nil behind it
abbrev pub env_of : List Value → Env
env_of values = λ x. slice_index_or values x Nil

-- the same, but for this value of x
abbrev pub with_value : Env → ℕ → Value → Env
with_value env x v = λ y. if y == x then v else env y

-- a whole number, or nil where it leaves 64 bits
abbrev pub in_range : ℤ → Value
in_range n = if int_le low n && int_le n high then Num n else Nil
  where
    low : ℤ
    low = negsuc 9223372036854775807

    high : ℤ
    high = pos 9223372036854775807

-- a sum, a difference or a product of two numbers; nil of other values
abbrev pub calculated : Calc → Value → Value → Value
calculated Plus (Num a) (Num b) = in_range (a +ℤ b)
calculated Minus (Num a) (Num b) = in_range (a -ℤ b)
calculated Times (Num a) (Num b) = in_range (a *ℤ b)
calculated calc v w = Nil

-- a literal's value, or that of a variable
abbrev pub atom_value : CheckedAtom → Env → Value
atom_value (Lit v) env = v
atom_value (Var x) env = env x

-- the value of an expression
abbrev pub value_of : Term → Env → Value
value_of (Atom a) env = atom_value a env
value_of (Calculate calc l r) env = calculated calc (value_of l env) (value_of r env)

-- `==` and `!=` compare any values, the others numbers alone
abbrev pub compared : Compare → Value → Value → Bool
compared Same v w = value_eq v w
compared Differ v w = not (value_eq v w)
compared Less (Num a) (Num b) = int_lt a b
compared LessOrSame (Num a) (Num b) = int_le a b
compared order v w = false

-- whether a condition holds
abbrev pub holds : Test → Env → Bool
holds test env = compared test.compare (value_of test.left env) (value_of test.right env)

-- the operation that a call makes
abbrev pub op_of : CheckedCall → Env → Op
op_of c env = record {
  kind = c.kind;
  table = c.table;
  key = atom_value c.key env;
  value = atom_value c.value env;
}

-- ---- runs

-- a point that a run passes, with the values of the variables there, and whether a reply led to it
pub record Place : Type 0 where
  pub point : ℕ
  pub env : Env
  pub replied : Bool

-- how a part of a run ends, with the points that it passed: it calls an operation and has no reply
-- to it, it answers, or it goes on with these values of the variables and these replies not yet
-- used
pub data Outcome : Type 0 where
  Calls : (passed : List Place) (op : Op) → Outcome
  Answers : (passed : List Place) (values : List Value) → Outcome
  Goes : (passed : List Place) (env : Env) (left : List Value) → Outcome

-- the outcome behind these points
abbrev pub after : List Place → Outcome → Outcome
after front (Calls passed op) = Calls (front ++ passed) op
after front (Answers passed values) = Answers (front ++ passed) values
after front (Goes passed env left) = Goes (front ++ passed) env left

-- what comes next, where the first part goes on
abbrev pub then_do : Outcome → (Env → List Value → Outcome) → Outcome
then_do (Calls passed op) more = Calls passed op
then_do (Answers passed values) more = Answers passed values
then_do (Goes passed env left) more = after passed (more env left)

abbrev pub pass : ℕ → Env → Bool → Outcome → Outcome
pass p env replied o = after (record { point = p; env = env; replied = replied } ∷ []) o

-- the variables after a reply
abbrev pub with_reply : Option ℕ → Value → Env → Env
with_reply None v env = env
with_reply (Some x) v env = with_value env x v

-- n turns, the first of which has the number i
abbrev pub turns : (Env → List Value → Outcome) → ℕ → ℕ → ℕ → Env → List Value → Outcome
turns body x zero i env left = Goes [] env left
turns body x (suc n) i env left = then_do (body (with_value env x (Num (pos i))) left)
    (turns body x n (i + 1))

-- a block, from these values of the variables and with these replies to come
abbrev pub run : Code → Env → List Value → Outcome
run Finish env left = Goes [] env left
run (Move x e rest) env left = run rest (with_value env x (value_of e env)) left
run (Ask at p x c rest) env [] = Calls [] (op_of c env)
run (Ask at p x c rest) env (v ∷ left) = pass p (with_reply x v env) true
    (run rest (with_reply x v env) left)
run (Fork at p q test a b rest) env left =
    then_do (if holds test env then pass p env false (run a env left) else pass q env false
    (run b env left)) (run rest)
run (Loop at p n x body rest) env left = then_do (turns (run body) x n 0 env left)
    (λ e l. pass p e false (run rest e l))
run (Quit es rest) env left = Answers [] (map (λ e. value_of e env) es)

-- ---- what a handler does next

-- an outcome without its points; a handler that falls off its end answers nil
abbrev pub ended : Outcome → Next
ended (Calls passed op) = NextCalls op
ended (Answers passed values) = NextAnswers (reply_of values)
ended (Goes passed env left) = NextAnswers (reply_of [])

-- what a handler does next after these replies
abbrev pub next : Code → Env → Dialogue
next code env = λ replies. ended (run code env replies)

-- ---- where a run stands

-- the points that a part of a run passed, however it ends
abbrev pub passed_by : Outcome → List Place
passed_by (Calls passed op) = passed
passed_by (Answers passed values) = passed
passed_by (Goes passed env left) = passed

-- the last of these places
abbrev pub last_place : Place → List Place → Place
last_place at [] = at
last_place at (p ∷ ps) = last_place p ps

-- the last of these places that a reply led to
abbrev pub last_replied : Place → List Place → Place
last_replied at [] = at
last_replied at (p ∷ ps) = last_replied (if p.replied then p else at) ps

-- a handler's entry
abbrev pub entry : Env → Place
entry env = record { point = 0; env = env; replied = false }

-- where a run with these replies stands: the last point that it passed
abbrev pub due_place : Code → Env → List Value → Place
due_place code env replies = last_place (entry env) (passed_by (run code env replies))

-- the point that the last reply which it used led to, or the entry
abbrev pub told_place : Code → Env → List Value → Place
told_place code env replies = last_replied (entry env) (passed_by (run code env replies))
