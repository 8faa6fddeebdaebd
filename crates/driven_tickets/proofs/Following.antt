-- What every desk keeps after each call, and what refuses an operation.
use Rattle.std.proofs.Common.{ℕ, Bool, List, Some, Result, Ok, Err, refl, sym, subst}
use Rattle.std.specs.Bool.{Decides}
use Rattle.std.proofs.lemmas.Bool.{both_ways}
use Rattle.session_values.specs.declared.op.Op.{Op}
use Rattle.symbolic_ops.specs.declared.symbol.Symbol.{Symbol}
use Rattle.driven_tickets.specs.declared.answers.BeginError.{BeginError}
use Rattle.driven_tickets.specs.declared.answers.BeginError.TheVariants as unbegun
use Rattle.driven_tickets.specs.declared.answers.Called.{Called}
use Rattle.driven_tickets.specs.declared.answers.Called.TheVariants as called
use Rattle.driven_tickets.specs.declared.answers.NarrowError.{NarrowError}
use Rattle.driven_tickets.specs.declared.answers.NarrowError.TheVariants as wide
use Rattle.driven_tickets.specs.declared.answers.NoTicket.{NoTicket}
use Rattle.driven_tickets.specs.Acts.{Begins, Ends, Narrows}
use Rattle.driven_tickets.specs.Desk.{BegunAs, CalledBy, CheckedAs, DeskView, EndedAs, IsDesk, NarrowedAs}
use Rattle.driven_tickets.specs.Tickets.{AreAscending}
use Rattle.driven_tickets.proofs.Keeping.{desk_on}

pub after_begun : (d e : DeskView) (f : List Symbol) (r : Result ℕ BeginError) → IsDesk d → BegunAs d e f r → AreAscending 0 e.tickets e.next → IsDesk e
after_begun d e f (Ok t) k h w = desk_on d e (Begins f) k h.2 w
after_begun d e f (Err unbegun.NoNumber) k h w = subst IsDesk (sym h.0) k
after_begun d e f (Err unbegun.NoMemory) k h w = subst IsDesk (sym h.0) k

pub after_narrowed : (d e : DeskView) (t : ℕ) (g : List Symbol) (r : Result (Unit {0}) NarrowError) → IsDesk d → NarrowedAs d e t g r → AreAscending 0 e.tickets e.next → IsDesk e
after_narrowed d e t g (Ok done) k h w = desk_on d e (Narrows t g) k h w
after_narrowed d e t g (Err wide.Undeclared) k h w = subst IsDesk (sym h.0) k
after_narrowed d e t g (Err wide.NoTicket) k h w = subst IsDesk (sym h.0) k

pub after_ended : (d e : DeskView) (t : ℕ) (r : Result (Unit {0}) NoTicket) → IsDesk d → EndedAs d e t r → AreAscending 0 e.tickets e.next → IsDesk e
after_ended d e t (Ok done) k h w = desk_on d e (Ends t) k h w
after_ended d e t (Err why) k h w = subst IsDesk (sym h.0) k

-- what refuses an operation is what its call answers
pub refused_by : (Fit : Op → Type 0) (d : DeskView) (t : ℕ) (fits : Bool) (op : Op) (why : Called) → Decides fits (Fit op) → CheckedAs d t fits op (Some why) → CalledBy Fit d d t op why
refused_by Fit d t fits op (called.Done v) k h = absurd h
refused_by Fit d t fits op (called.Delayed u) k h = (refl, k.0 h.0, h.1, h.2)
refused_by Fit d t fits op called.Undeclared k h = (refl, k.0 h.0, h.1)
refused_by Fit d t fits op called.Misfit k h = (refl, (λ f. both_ways fits h.0 (k.1 f)), h.1)
refused_by Fit d t fits op called.NoTicket k h = (refl, h)
refused_by Fit d t fits op called.NoMemory k h = absurd h
