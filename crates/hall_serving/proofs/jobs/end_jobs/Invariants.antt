use Rattle.std.proofs.Common.{◌≡◌, ◌+◌, ◌++◌, vec_len, vec_capacity}
use Rattle.std.specs.List.{AllByRecursion}
use Rattle.hall_serving.specs.Jobs.{IsUnkept, callers_of}
use Rattle.hall_serving.proofs.jobs.end_jobs.Given as goal

abbrev pub invariant-loop-moved : goal.invariant-loop-moved
invariant-loop-moved g l = (l.callers.items ++ callers_of l.jobs.items ≡ callers_of l.fn.jobs.items) × (vec_len l.callers ≡ l.moved) × (vec_capacity l.callers ≡ vec_capacity l.fn.callers) × (vec_len l.jobs + l.moved ≡ vec_len l.fn.jobs)
    × AllByRecursion IsUnkept l.jobs.items
