use Rattle.std.proofs.Common.{◌≡◌, ℕ, suc, ◌+◌, List, sym, take, subst, arith}
use Rattle.std.proofs.lemmas.Bool.{both_ways}
use Rattle.std.specs.List.{AllByRecursion}
use Rattle.symbolic_ops.specs.declared.symbol.Symbol.{Symbol}
use Rattle.symbolic_ops.specs.Commuting.{CommutesWith}
use Rattle.driven_tickets.specs.Tickets.{IsSought}
use Rattle.driven_tickets.proofs.Blocking.{takes, passes}
use Rattle.driven_tickets.proofs.blocker.blocker.Goals as goal
use Rattle.driven_tickets.proofs.blocker.blocker.Goals.{then-o-limit+then-not-is_free, else-o-limit, else-o-limit-via-then-o-limit+else-not-is_free, else-o-limit-via-else-o-limit}

pub loop-o-preserved : goal.loop-o-preserved
loop-o-preserved c =
    let e : suc c.loop-o.o-index ≡ c.loop-o.o-index + 1 = omega arith in
    let P : ℕ → Type 0 = λ j. IsSought c.args.op.now c.args.ticket c.args.tickets.now (take j c.args.tickets.now) c.if-o-limit.found c.if-o-limit.limit in
    let A : List Symbol → Type 0 = λ ys. AllByRecursion (λ y. CommutesWith c.args.op.now y) ys in
    subst P e (elim c.if-o-limit.branch [
      | then-o-limit+then-not-is_free w ↦ takes c.args.op.now c.args.ticket c.args.tickets.now c.loop-o.o-index c.o-item.result c.loop-o.found c.if-o-limit.found c.loop-o.limit c.if-o-limit.limit c.loop-o-test.true c.o-item.is c.loop-o.invariant
          w.if-o-limit.true (λ h. both_ways w.is_free.result w.if-not-is_free.true (w.is_free.ensures.1 (subst A (sym w.symbols.ensures.symbols) h))) w.found-is w.limit-is
      | else-o-limit w ↦ passes c.args.op.now c.args.ticket c.args.tickets.now c.loop-o.o-index c.o-item.result c.loop-o.found c.if-o-limit.found c.loop-o.limit c.if-o-limit.limit c.loop-o-test.true c.o-item.is c.loop-o.invariant
          (elim w.else-o-limit.branch [
            | else-o-limit-via-then-o-limit+else-not-is_free v ↦ λ _. subst A v.symbols.ensures.symbols (v.is_free.ensures.0 v.if-not-is_free.false)
            | else-o-limit-via-else-o-limit v ↦ λ b. let no : ⊥ = omega (arith, b, v.if-o-limit.false) in absurd no
          ]) w.found-is w.limit-is
    ])
