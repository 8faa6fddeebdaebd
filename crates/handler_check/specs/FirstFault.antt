-- The first fault: the least place, and at one place the least number of a rule.
use Rattle.std.specs.Prelude.{◌≡◌, ℕ, ◌<◌, ◌≤◌, ◌⊎◌}
use Rattle.syntax_trees.specs.declared.file.File.{File}
use Rattle.handler_check.specs.declared.refusal.CheckRefusal.{CheckRefusal}
use Rattle.handler_check.specs.declared.refusal.CheckRefusal.TheVariants.{Twice, Unknown, Arity, WrongTable, RepeatBound, TooManyTables, TooManyHandlers, TooManyVariables, TooManyCalls, TooMuchWork, NoMemory}
use Rattle.handler_check.specs.Rules.{IsBroken}

abbrev pub place : CheckRefusal → ℕ
place (Twice at) = at
place (Unknown at) = at
place (Arity at) = at
place (WrongTable at) = at
place (RepeatBound at) = at
place (TooManyTables at) = at
place (TooManyHandlers at) = at
place (TooManyVariables at) = at
place (TooManyCalls at) = at
place (TooMuchWork at) = at
place NoMemory = 0

-- the number of the rule
abbrev pub number : CheckRefusal → ℕ
number (Twice at) = 1
number (Unknown at) = 2
number (Arity at) = 3
number (WrongTable at) = 4
number (RepeatBound at) = 5
number (TooManyTables at) = 6
number (TooManyHandlers at) = 7
number (TooManyVariables at) = 8
number (TooManyCalls at) = 9
number (TooMuchWork at) = 10
number NoMemory = 11

abbrev pub IsNoLater : CheckRefusal → CheckRefusal → Type 0
IsNoLater e g = (place e < place g) ⊎ ((place e ≡ place g) × (number e ≤ number g))

-- the first of the broken rules
pub record IsFirst (broken : CheckRefusal → Type 0) (e : CheckRefusal) : Type 0 where
  pub is_broken : broken e
  pub least : (g : CheckRefusal) → broken g → IsNoLater e g

-- the file breaks this rule at the least place, and there it is the rule of the least number
abbrev pub IsFirstFault : File → CheckRefusal → Type 0
IsFirstFault f = IsFirst (IsBroken f)

-- no rule is broken
abbrev pub KeepsRules : File → Type 0
KeepsRules f = (g : CheckRefusal) → IsBroken f g → ⊥
