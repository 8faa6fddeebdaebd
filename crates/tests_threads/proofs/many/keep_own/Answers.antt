use Rattle.std.proofs.Common.{◌≢◌, ◌∙◌, ℕ, arith}
use Rattle.tests_threads.proofs.many.keep_own.Goals as goal

pub take_free-requires-clause-free : goal.take_free-requires-clause-free
take_free-requires-clause-free g c =
    let t : ℕ = c.args.own in
    let other : t ≢ 33 = λ e. (let h = c.requires.own in omega arith) in
    c.give.ensures.gave.others t other ∙ c.take_free-value.ensures.gained.others t other ∙ c.requires.free t
