use Rattle.std.proofs.Common.{◌≡◌, ◌+◌, [], ◌∷◌}
use Rattle.session_values.specs.declared.kind.TableKind.TheVariants.{Map}
use Rattle.tests_threads.proofs.bumps.tickets.Given as goal

abbrev pub invariant-loop-ticket : goal.invariant-loop-ticket
invariant-loop-ticket l = (l.list.list.shape ≡ Map ∷ []) × (l.list.list.tickets_left + l.ticket ≡ 20000)
