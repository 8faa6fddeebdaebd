use Rattle.std.proofs.Common.{◌≡◌, ◌+◌, ◌++◌, ◌∷◌, vec_len, vec_capacity}
use Rattle.std.specs.List.{AllByRecursion}
use Rattle.hall_writing.specs.Jobs.{IsUnkept, callers_of}
use Rattle.hall_writing.proofs.room.end_jobs.Given as goal

abbrev pub invariant-loop-moved : goal.invariant-loop-moved
invariant-loop-moved g l = (l.callers.items ++ callers_of l.jobs.items ≡ callers_of (l.fn.first ∷ l.fn.jobs.items)) × (vec_len l.callers ≡ l.moved + 1) × (vec_capacity l.callers ≡ vec_capacity l.fn.callers) × (vec_len l.jobs + l.moved ≡ vec_len l.fn.jobs) × AllByRecursion IsUnkept l.jobs.items
