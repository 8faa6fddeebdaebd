-- Entries of a trace as an audit's desk keeps them.
use Rattle.std.specs.Prelude.{List, map, Option}
use Rattle.std.specs.Option.{option_map}
use Rattle.session_values.specs.Dialogue.{Entry}
use Rattle.trace_audit.specs.declared.ticket_replay.Noted.{Noted}
use Rattle.trace_audit.specs.declared.ticket_replay.Gap.{Gap}
use Rattle.trace_audit.specs.Desk.{Break}

abbrev pub entry_of : Noted → Entry
entry_of n = record { op = n.op; reply = n.reply }

abbrev pub entries_of : List Noted → List Entry
entries_of ns = map entry_of ns

abbrev pub gap_of : Option Gap → Option Break
gap_of o = option_map (λ (g : Gap). record { place = g.place; op = g.op }) o
