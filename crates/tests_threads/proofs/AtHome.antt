-- A desk at which a ticket was served, or given up, is where it was.
use Rattle.std.proofs.Common.{◌≡◌, Result, Ok, Err, IfOk, OnErr}
use Rattle.session_journal.specs.Desks.{DeskView}
use Rattle.session_journal.specs.Script.{Meaning}
use Rattle.session_journal.specs.Served.{IsServed, IsStopped}

pub at_home : {A E : Type 0} (m : Meaning) (old new : DeskView) (r : Result A E) → IfOk r (λ _. IsServed m old new) → OnErr r (IsStopped m old new) → new.home ≡ old.home
at_home m old new (Ok x) served stopped = served.home_is
at_home m old new (Err e) served stopped = stopped.home_is
