-- Requests over tables that a closed hall left are shared among threads, as scripts are: what the hall
-- left has no bytes there.
use denote.Ref.{NamedLft}
use denote.Param.Send.{IsSend, IsSync, sendable}
use Rattle.std.proofs.Crossing.{crosses}
use Rattle.handler_machine.proofs.Crossing.{scripts_send, scripts_sync}
use Rattle.client_feed.specs.contracts.continued.Continued as continued

pub continued_send : (κ : NamedLft) → IsSend (continued.the_row κ)
continued_send κ = search (sendable, crosses, scripts_send) depth 20

pub continued_sync : (κ : NamedLft) → IsSync (continued.the_row κ)
continued_sync κ = search (sendable, crosses, scripts_sync) depth 20
