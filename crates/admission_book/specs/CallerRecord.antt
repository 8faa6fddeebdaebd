-- The record of a caller as fields, and as a book shows it.
use Rattle.std.specs.Prelude.{◌≡◌, ℕ, List, Option, Some, None, Bool, true, false, map, slice_index_or}
use Rattle.session_values.specs.declared.op.Op.{Op}
use Rattle.session_values.specs.declared.value.Value.{Value}
use Rattle.symbolic_ops.specs.declared.symbol.Symbol.{Symbol}
use Rattle.session_journal.specs.declared.site.Site.{Site}
use Rattle.session_journal.specs.Script.{Meaning}
use Rattle.admission_book.specs.declared.caller_record.CallerRecord.{CallerRecord}
use Rattle.admission_book.specs.Book.{Serving}
use Rattle.admission_book.specs.Foresights.{IsKnown, at_site, no_foresight, symbols_of}

abbrev pub serving_at : Option ℕ → List Symbol → Option Op → Option Serving
serving_at None foresight flight = None
serving_at (Some t) foresight flight = Some (record {
  ticket = t;
  foresight = foresight;
  flight = flight;
})

-- what a book shows of the record: none where it has no ticket
abbrev pub serving_of : Meaning → CallerRecord → Option Serving
serving_of m r = serving_at r.ticket (symbols_of m r.foresight) r.flight

abbrev pub servings : Meaning → List CallerRecord → List (Option Serving)
servings m rs = map (λ r. serving_of m r) rs

-- that of a caller that serves no ticket
abbrev pub idle_record : CallerRecord
idle_record = record { ticket = None; foresight = no_foresight; flight = None; delayed = false }

-- the record of the caller of this number, or an idle one where there is none
abbrev pub record_at : List CallerRecord → ℕ → CallerRecord
record_at rs c = slice_index_or rs c idle_record

-- ---- what its calls leave
-- the record has this ticket, these symbols as its foresight, this operation in flight, and knows
-- whether the last event of the ticket is a Delay
pub record IsRecord (m : Meaning) (r : CallerRecord) (t : Option ℕ) (f : List Symbol)
    (op : Option Op) (d : Bool) : Type 0 where
  pub ticket : r.ticket ≡ t
  pub foresight : IsKnown m r.foresight f
  pub flight : r.flight ≡ op
  pub delayed : r.delayed ≡ d

abbrev pub with_site : CallerRecord → Site → List Value → CallerRecord
with_site r s values = record {
  ticket = r.ticket;
  foresight = at_site r.foresight s values;
  flight = r.flight;
  delayed = r.delayed;
}

abbrev pub with_flight : CallerRecord → Op → CallerRecord
with_flight r op = record {
  ticket = r.ticket;
  foresight = r.foresight;
  flight = Some op;
  delayed = r.delayed;
}

abbrev pub with_delay : CallerRecord → CallerRecord
with_delay r = record {
  ticket = r.ticket;
  foresight = r.foresight;
  flight = r.flight;
  delayed = true;
}

abbrev pub after_flight_at : CallerRecord → Site → List Value → CallerRecord
after_flight_at r s values = record {
  ticket = r.ticket;
  foresight = at_site r.foresight s values;
  flight = None;
  delayed = false;
}

abbrev pub after_ticket : CallerRecord → CallerRecord
after_ticket r = record { ticket = None; foresight = r.foresight; flight = None; delayed = false }
