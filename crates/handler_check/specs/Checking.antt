-- What the checker accepts, and what it refuses.
use Rattle.std.specs.Prelude.{◌≡◌, ◌<◌, ◌⊎◌}
use Rattle.std.specs.List.{Contains}
use Rattle.session_values.specs.Limits.{max_calls, max_work}
use Rattle.syntax_trees.specs.declared.file.File.{File}
use Rattle.syntax_trees.specs.declared.file.Handler.{Handler}
use Rattle.check_meaning.specs.Bounds.{calls_bound, work_bound}
use Rattle.handler_check.specs.declared.refusal.CheckRefusal.{CheckRefusal}
use Rattle.handler_check.specs.declared.refusal.CheckRefusal.TheVariants.{Twice, Unknown, Arity, WrongTable, RepeatBound, TooManyTables, TooManyHandlers, TooManyVariables, TooManyCalls, TooMuchWork, NoMemory}
use Rattle.handler_check.specs.FirstFault.{IsFirst, IsFirstFault, KeepsRules}
use Rattle.handler_check.specs.Resolved.{handler_code}

-- a handler that may do too much, at the place of its name
abbrev pub IsBeyond : File → CheckRefusal → Type 0
IsBeyond f (TooManyCalls at) = (h : Handler) × Contains f.handlers h × (h.at ≡ at)
    × (max_calls < calls_bound (handler_code f h))
IsBeyond f (TooMuchWork at) = (h : Handler) × Contains f.handlers h × (h.at ≡ at)
    × (max_work < work_bound (handler_code f h))
IsBeyond f (Twice at) = ⊥
IsBeyond f (Unknown at) = ⊥
IsBeyond f (Arity at) = ⊥
IsBeyond f (WrongTable at) = ⊥
IsBeyond f (RepeatBound at) = ⊥
IsBeyond f (TooManyTables at) = ⊥
IsBeyond f (TooManyHandlers at) = ⊥
IsBeyond f (TooManyVariables at) = ⊥
IsBeyond f NoMemory = ⊥

-- no rule is broken
pub record IsAccepted (f : File) : Type 0 where
  pub keeps : KeepsRules f
  pub within : (g : CheckRefusal) → IsBeyond f g → ⊥

-- the first fault. What handlers may do is looked at only where no other rule is broken
abbrev pub IsRefusal : File → CheckRefusal → Type 0
IsRefusal f e = IsFirstFault f e ⊎ (KeepsRules f × IsFirst (IsBeyond f) e)
