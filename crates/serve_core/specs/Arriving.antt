-- How serving several clients ends. Only this crate's own functions cite it.
use Rattle.std.specs.Prelude.{◌≡◌, ℕ, ◌+◌, ◌≤◌, List, length, Option, None}
use Rattle.session_values.specs.Limits.{max_session_calls}
use Rattle.session_values.specs.OpeningLimits.{max_opening}
use Rattle.session_journal.specs.Opening.{count_all}
use Rattle.session_hall.specs.Closings.{ClosedView}
use Rattle.reply_sheet.specs.ClientText.{clients_text}
use Rattle.client_feed.specs.Rounds.{AreServed, ServedView}
use Rattle.request_files.specs.Clients.{AreShared}
use Rattle.serve_faults.specs.declared.status.Status.{Status}
use Rattle.serve_faults.specs.declared.status.Status.TheVariants as status
use Rattle.byte_ends.specs.Changes.{Change, Failed, IsUntouched, WroteAll, WrotePrefix}
use Rattle.serve_reading.specs.Clients.{joined}
use Rattle.serve_reading.specs.declared.clients.LoadedClients.{LoadedClients}
use Rattle.serve_single.specs.Serving.{CanServe}

-- the session of all clients' requests can be served, and its tables have room for what calls add
pub record CanServeClients (l : LoadedClients) : Type 0 where
  pub can : CanServe (joined l)
  pub room : count_all l.opening + max_session_calls ≤ max_opening
  pub shared : AreShared l.clients

-- All requests were served as they arrived, and their replies were written, or a front of them.
pub record ClientsEnd {O : Type 0} (callers shards : ℕ) (l : LoadedClients) (out : Change O)
    (closed : Option ClosedView) (IsOut : List ℕ → Type 0) : Type 0 where
  pub served : ServedView
  pub are : AreServed l.program l.opening l.clients callers shards served
  pub closed_is : closed ≡ served.closed
  pub written : IsOut (clients_text l.names served.arrivals served.replies
      (length l.clients.counts))

-- how it ends; or memory ran out, and nothing was written
abbrev pub EndsClients : {O : Type 0} → ℕ → ℕ → LoadedClients → Change O → Status
    → Option ClosedView → Type 0
EndsClients callers shards l out status.Fine closed =
    ClientsEnd callers shards l out closed (WroteAll out)
EndsClients callers shards l out status.WriteFault closed =
    Failed out × ClientsEnd callers shards l out closed (WrotePrefix out)
EndsClients callers shards l out status.NoMemory closed = IsUntouched out × (closed ≡ None)
EndsClients callers shards l out (status.Refused e) closed = ⊥
EndsClients callers shards l out status.Usage closed = ⊥
EndsClients callers shards l out status.ReadFault closed = ⊥
