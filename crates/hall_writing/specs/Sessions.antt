-- What contracts see of a session whose hall is open and whose replies can be written.
use Rattle.std.specs.Prelude.{◌≡◌, ℕ, ◌<◌, ◌≤◌, List, [], Some, None, true, false}
use Rattle.std.specs.Prelude.{length, replicate, slice_get}
use Rattle.std.specs.List.{AllByRecursion}
use Rattle.session_journal.specs.Script.{Meaning}
use Rattle.session_hall.specs.declared.hall.Hall.{Hall}
use Rattle.session_hall.specs.declared.caller.Caller.{Caller}
use Rattle.session_hall.specs.Closings.{Opens}
use Rattle.session_hall.specs.Names.{script_of}
use Rattle.hall_writing.specs.declared.lane.Lane.{Lane}
use Rattle.hall_writing.specs.Ends.{IsEndOf}
use Rattle.hall_writing.specs.declared.job.Job.{Job}
use Rattle.hall_writing.specs.declared.sheet.Sheet.{Sheet}
use Rattle.hall_writing.specs.Jobs.{IsUnkept, callers_of, ends_of, replies_of}

-- the script with which its hall was opened, how many callers it has, and how many shards each of
-- its tables has
pub record SessionView (S : Type 0) : Type 0 where
  pub script : S
  pub callers : ℕ
  pub shards : ℕ

-- the jobs have all callers of the hall, in order and as they were opened, none with the book in
-- hand, and each an end of the lane for the serial replies; beside them is an empty list with
-- room for all callers, and a sheet that keeps nothing yet, and whose writer is alone only where
-- there is one caller
pub record IsOpened {S : Type 0} (meaning : S → Meaning) (h : Hall S) (lane : Lane)
    (jobs : List (Job S)) (left : List (Caller S)) (room : ℕ) (sheet : Sheet) : Type 0 where
  pub opens : (i : ℕ) (c : Caller S) → slice_get (callers_of jobs) i ≡ Some c → Opens meaning h i c
  pub unkept : AllByRecursion IsUnkept jobs
  pub ends : AllByRecursion (IsEndOf lane (replies_of (meaning (script_of h)))) (ends_of jobs)
  pub all : length jobs ≡ h.sizes.callers
  pub some : 0 < length jobs
  pub none : left ≡ []
  pub roomy : length jobs ≤ room
  pub pending : sheet.pending ≡ record {
    next = 0;
    waiting = replicate (meaning (script_of h)).requests None;
  }
  pub sound : sheet.failed ≡ false
  pub alone : sheet.alone ≡ true → h.sizes.callers ≡ 1
