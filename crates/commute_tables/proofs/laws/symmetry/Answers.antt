use Rattle.std.proofs.Common.{sym}
use Rattle.session_values.specs.declared.op.Op.{Op}
use Rattle.session_values.specs.Commuting.{Swaps}
use Rattle.session_values.specs.Tables.{Tables}
use Rattle.commute_tables.proofs.laws.symmetry.Goals as goal

other_order : (ts : Tables) (a b : Op) → Swaps ts a b → Swaps ts b a
other_order ts a b s = record { tables = sym s.tables; first = sym s.second; second = sym s.first }

pub returns : goal.returns
returns c = λ a b h. record { at = λ ts. other_order ts a b (h.at ts) }
