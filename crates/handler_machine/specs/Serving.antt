-- A handler's run at a desk.
use Rattle.std.specs.Prelude.{◌≡◌, ℕ, ◌+◌, ◌<◌, ◌≤◌, ◌++◌, List, [], ◌∷◌, Option, Some, None, Bool, true, false, if◌then◌else◌, length, map}
use Rattle.std.specs.List.{AllByRecursion}
use Rattle.session_values.specs.Limits.{max_symbols}
use Rattle.session_values.specs.declared.op.Op.{Op}
use Rattle.session_values.specs.declared.value.Value.{Value}
use Rattle.session_values.specs.Dialogue.{Calls as NextCalls, Entry, Follows, replies}
use Rattle.session_values.specs.Values.{IsValue}
use Rattle.symbolic_ops.specs.declared.symbol.Symbol.{Symbol}
use Rattle.symbolic_ops.specs.Matching.{HasNoVar, Matches}
use Rattle.session_journal.specs.Desks.{DeskView, MayNarrow, with_present}
use Rattle.session_journal.specs.Script.{HasSite, Meaning}
use Rattle.check_meaning.specs.Ahead.{Ahead}
use Rattle.check_meaning.specs.Code.{points}
use Rattle.handler_check.specs.Resolved.{code_at, variables_at}
use Rattle.check_meaning.specs.Dialogue.{Env, Place, Calls, after, ended, env_of, last_place, last_replied, passed_by}
use Rattle.declaration_insertion.specs.Program.{ProgramView, declared_at}
use Rattle.declaration_insertion.specs.Promises.{Declarations, IsCoveredChain, list_at, symbol_at}

-- how many of these places a reply led to
abbrev pub replied_count : List Place → ℕ
replied_count [] = 0
replied_count (p ∷ ps) = (if p.replied then 1 else 0) + replied_count ps

-- The ticket's dialogue is this run, and its foresights are the declarations that the run passes.
pub record Gives (m : Meaning) (t : ℕ) (declared : Declarations) (first : Place)
    (whole : Ahead) : Type 0 where
  pub next : (rs : List Value) → m.next t rs ≡ ended (whole rs)
  pub told : (rs : List Value)
      → m.told t rs ≡ list_at declared (last_replied first (passed_by (whole rs)))
  pub due : (rs : List Value)
      → m.due t rs ≡ list_at declared (last_place first (passed_by (whole rs)))

-- The script has so many points of this part, each with so many variables, and these lists are what
-- it declares at them.
pub record Declares (m : Meaning) (part variables points : ℕ)
    (declared : Declarations) : Type 0 where
  pub sites : (point : ℕ) → point < points
      → HasSite m (record { part = part; point = point }) variables
  pub lists : (point : ℕ) → point < points → m.declared part point ≡ declared point

-- the script declares at the points of this handler what the program does
abbrev pub DeclaresHandler : Meaning → ProgramView → ℕ → Type 0
DeclaresHandler m p h = Declares m h (length (variables_at p.file h)) (1 + points (code_at p.file h))
    (declared_at p h)

-- What makes the declarations of a run lawful at each desk.
pub record Promises (points : ℕ) (declared : Declarations) (first : Place)
    (whole : Ahead) : Type 0 where
  pub within : (rs : List Value)
      → AllByRecursion (λ (p : Place). p.point < points) (passed_by (whole rs))
  pub few : (at : Place) → length (list_at declared at) ≤ max_symbols
  pub known : (at : Place) → AllByRecursion HasNoVar (list_at declared at)
  pub covered : (rs : List Value) → IsCoveredChain declared first (passed_by (whole rs))
  pub matched : (rs : List Value) (ps : List Place) (op : Op) → AllByRecursion IsValue rs
      → whole rs ≡ Calls ps op → Matches (list_at declared (last_place first ps)) op
  pub covers : (rs : List Value) (front past : List Place) → AllByRecursion IsValue rs
      → passed_by (whole rs) ≡ front ++ past
      → (more : List Value) (op : Op) → AllByRecursion IsValue more
      → ended (whole (rs ++ more)) ≡ NextCalls op
      → Matches (list_at declared (last_place first front)) op
  pub counted : (rs : List Value) → replied_count (passed_by (whole rs)) ≤ length rs

-- what a walk is about: the script's meaning, the desk at the ticket's beginning, the handler's
-- number, how many variables and points it has, their declarations, and the whole run
pub record Course : Type 0 where
  pub meaning : Meaning
  pub start : DeskView
  pub part : ℕ
  pub variables : ℕ
  pub points : ℕ
  pub declared : Declarations
  pub whole : Ahead

-- that of a program's handler
abbrev pub course_of : Meaning → DeskView → ProgramView → ℕ → Ahead → Course
course_of m start p h whole = record {
  meaning = m;
  start = start;
  part = h;
  variables = length (variables_at p.file h);
  points = 1 + points (code_at p.file h);
  declared = declared_at p h;
  whole = whole;
}

-- a desk that has come so far, after these entries, and what is ahead of it
pub record Serving (c : Course) (now : DeskView) (entries : List Entry)
    (waiting : Option Entry) (ahead : Ahead) : Type 0 where
  pub first : Place
  pub gives : Gives c.meaning c.start.ticket c.declared first c.whole
  pub declares : Declares c.meaning c.part c.variables c.points c.declared
  pub promises : Promises c.points c.declared first c.whole
  pub passed : List Place
  pub is_ahead : (more : List Value) → c.whole (replies entries ++ more) ≡ after passed (ahead more)
  pub follows : Follows (λ rs. ended (c.whole rs)) entries
  pub values : AllByRecursion IsValue (replies entries)
  pub counts : replied_count passed ≡ length now.entries
  pub present : now.present ≡ list_at c.declared (last_place first passed)
  pub waits : now.waiting ≡ waiting
  pub going : now.ended ≡ false
  pub ticket : now.ticket ≡ c.start.ticket
  pub home : now.home ≡ c.start.home
  pub sure : now.sure ≡ c.start.sure

-- no operation waits
abbrev pub IsServing : Course → DeskView → Ahead → Type 0
IsServing c now ahead = Serving c now now.entries None ahead

-- an operation waits with its reply
abbrev pub IsAwaiting : Course → DeskView → Ahead → Type 0
IsAwaiting c now ahead = (e : Entry) × Serving c now (now.entries ++ e ∷ []) (Some e) ahead

-- where nothing is declared any more, nothing more may come of the ticket
abbrev pub IsSettled : Bool → DeskView → Type 0
IsSettled settled now = settled ≡ true → now.present ≡ []

-- what is declared at a point, where the variables have these values
abbrev pub list_with : Declarations → ℕ → List Value → List Symbol
list_with declared point values = map (symbol_at (env_of values)) (declared point)

-- the desk as it is once it is told of this list, where it hasn't been
abbrev pub once_told : Bool → List Symbol → DeskView → DeskView
once_told late f now = with_present now (if late then f else now.present)

-- the desk has this list with some values of the variables
abbrev pub HasListOf : List Symbol → DeskView → Type 0
HasListOf list now = (env : Env) × (now.present ≡ map (symbol_at env) list)

-- where the desk hasn't been told of this list, its ticket may narrow to it
abbrev pub MayTell : Meaning → Bool → List Symbol → DeskView → Type 0
MayTell m late f now = late ≡ true → MayNarrow m now.ticket now.entries now.present f
