-- What contracts see of a session whose hall is open.
use Rattle.std.specs.Prelude.{◌≡◌, ℕ, ◌<◌, ◌≤◌, List, [], Some, length, slice_get}
use Rattle.std.specs.List.{AllByRecursion}
use Rattle.session_journal.specs.Script.{Meaning}
use Rattle.session_hall.specs.declared.hall.Hall.{Hall}
use Rattle.session_hall.specs.declared.caller.Caller.{Caller}
use Rattle.session_hall.specs.Closings.{Opens}
use Rattle.hall_serving.specs.declared.job.Job.{Job}
use Rattle.hall_serving.specs.Jobs.{IsUnkept, callers_of}

-- the script with which its hall was opened, how many callers it has, and how many shards each of
-- its tables has
pub record SessionView (S : Type 0) : Type 0 where
  pub script : S
  pub callers : ℕ
  pub shards : ℕ

-- the jobs have all callers of the hall, in order and as they were opened, and none has the book
-- in hand; beside them is an empty list with room for all callers
pub record IsOpened {S : Type 0} (meaning : S → Meaning) (h : Hall S) (jobs : List (Job S))
    (left : List (Caller S)) (room : ℕ) : Type 0 where
  pub opens : (i : ℕ) (c : Caller S) → slice_get (callers_of jobs) i ≡ Some c → Opens meaning h i c
  pub unkept : AllByRecursion IsUnkept jobs
  pub all : length jobs ≡ h.sizes.callers
  pub some : 0 < length jobs
  pub none : left ≡ []
  pub roomy : length jobs ≤ room
