-- The session of the tests: two tickets, each of which swaps one value into the same key. Only this
-- crate's own functions cite it.
use Rattle.std.specs.Prelude.{◌≡◌, ◌≢◌, ℕ, [], ◌∷◌, pos, IsSome}
use Rattle.session_values.specs.declared.kind.Kind.TheVariants.{Swap}
use Rattle.session_values.specs.declared.kind.TableKind.TheVariants.{Map}
use Rattle.session_values.specs.declared.op.Op.{Op}
use Rattle.session_values.specs.declared.reply.Reply.{Reply}
use Rattle.session_values.specs.declared.value.Value.TheVariants.{Nil, Num}
use Rattle.symbolic_ops.specs.Matching.{exact_symbol}
use Rattle.session_journal.specs.Lists.{ListView, Ticket, list_meaning}
use Rattle.session_journal.specs.Script.{Meaning}
use Rattle.trace_audit.specs.Desk.{AuditView, replay_at}

abbrev pub swap_of : ℕ → Op
swap_of v = record { kind = Swap; table = 0; key = Num (pos 1); value = Num (pos v) }

abbrev pub nil_reply : Reply
nil_reply = record { count = 1; a = Nil; b = Nil; c = Nil; d = Nil }

abbrev pub swaps : ℕ → Ticket
swaps v = record {
  ops = swap_of v ∷ [];
  reply = nil_reply;
  entry = exact_symbol (swap_of v) ∷ [];
}

abbrev pub two_swaps : ListView
two_swaps = record {
  shape = Map ∷ [];
  tickets = swaps 7 ∷ swaps 8 ∷ [];
  tickets_left = 0;
  calls_left = 0;
  symbols_left = 0;
}

abbrev pub meaning_of : ListView → Meaning
meaning_of s = list_meaning s.shape s.tickets

-- the ticket has answered, and no other replay changed
pub record HasRun (t : ℕ) (old new : AuditView ListView) : Type 0 where
  pub script : new.script ≡ old.script
  pub events : new.events ≡ old.events
  pub answered : IsSome (replay_at new.tickets t).answer
  pub others : (u : ℕ) → u ≢ t → replay_at new.tickets u ≡ replay_at old.tickets u
