use Rattle.std.proofs.Common.{◌≡◌, ◌+◌, ◌++◌, vec_len, vec_capacity}
use Rattle.std.specs.List.{AllByRecursion}
use Rattle.hall_serving.specs.Jobs.{IsUnkept, callers_of}
use Rattle.hall_serving.proofs.jobs.begin_jobs.Given as goal

abbrev pub invariant-loop-moved : goal.invariant-loop-moved
invariant-loop-moved g l = (callers_of l.jobs.items ++ l.callers.items ≡ l.fn.callers.items) × (vec_len l.jobs ≡ l.moved) × (vec_len l.scratches ≡ vec_len l.callers)
    × (vec_capacity l.jobs ≡ vec_capacity l.fn.jobs) × (vec_capacity l.callers ≡ vec_capacity l.fn.callers) × (vec_len l.callers + l.moved ≡ vec_len l.fn.callers) × AllByRecursion IsUnkept l.jobs.items
