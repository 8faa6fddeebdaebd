-- What stands at an audit's desk while the tickets are run on it. Only this crate's own functions
-- cite it.
use Rattle.std.specs.Prelude.{◌≡◌, ℕ, ◌<◌, ◌≤◌, IsSome, length}
use Rattle.session_journal.specs.Journal.{entries}
use Rattle.session_journal.specs.Script.{Meaning}
use Rattle.trace_audit.specs.Desk.{AuditView, fresh, replay_at}

-- of a script with this meaning the tickets below n have answered, and those from n on were not run
pub record AreRun {S : Type 0} (m : Meaning) (n : ℕ) (d : AuditView S) : Type 0 where
  pub count : length d.tickets ≡ m.requests
  pub answered : (t : ℕ) → t < n → IsSome (replay_at d.tickets t).answer
  pub untouched : (t : ℕ) → n ≤ t → t < m.requests
      → replay_at d.tickets t ≡ fresh (entries d.events t)
