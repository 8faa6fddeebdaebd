-- A session with one act more of a ticket that the program drives.
use Rattle.std.proofs.Common.{◌≡◌, ℕ, zero, suc, ◌+◌, ◌<◌, ◌≤◌, List, [], ◌∷◌, ◌++◌, length, length-append, map, Some, Result, Err, Ok, Bool, false, get_or, set, slice_get, refl, sym, ◌∙◌, ap, subst, arith}
use Rattle.std.specs.Prelude.{IfOk, MatchResult, OnErr, OnOk}
use Rattle.std.proofs.lemmas.List.{length-map}
use Rattle.std.proofs.lemmas.Option.{same_Some, slice_get_within}
use Rattle.session_values.specs.Kinds.{home, is_adding}
use Rattle.session_values.specs.Op.{IsHeld}
use Rattle.session_values.specs.Values.{IsValue}
use Rattle.session_values.specs.declared.NoMemory.{NoMemory}
use Rattle.session_values.specs.declared.value.Value.{Value}
use Rattle.shard_tables.specs.Either.{shard_view}
use Rattle.std.specs.List.{AllByRecursion}
use Rattle.session_values.specs.Tables.{Fits, Tables, kind_of, reply, size_of, step, table}
use Rattle.std.specs.Bool.{Decides}
use Rattle.session_values.specs.Names.{Begins}
use Rattle.session_values.proofs.Named.{begins_then}
use Rattle.session_values.specs.declared.op.Op.{Op}
use Rattle.session_values.specs.declared.kind.TableKind.{TableKind}
use Rattle.symbolic_ops.specs.declared.symbol.Symbol.{Symbol}
use Rattle.session_values.specs.Opening.{tables_of}
use Rattle.handler_check.specs.Resolved.{shape_of}
use Rattle.serve_faults.specs.Printable.{IsPrintableTable}
use Rattle.shard_tables.specs.declared.part.Part.{Part}
use Rattle.text_lines.specs.Text.{Text}
use Rattle.driven_tickets.specs.declared.answers.BeginError.{BeginError}
use Rattle.driven_tickets.specs.declared.answers.BeginError.TheVariants as unbegun
use Rattle.driven_tickets.specs.declared.answers.Called.{Called}
use Rattle.driven_tickets.specs.declared.answers.Called.TheVariants as called
use Rattle.driven_tickets.specs.declared.answers.NarrowError.{NarrowError}
use Rattle.driven_tickets.specs.declared.answers.NarrowError.TheVariants as wide
use Rattle.driven_tickets.specs.Desk.{BegunAs, CheckedAs, DeskView, IsDesk, NarrowedAs, TicketsView, desk_over}
use Rattle.live_session.specs.declared.history.History.{History}
use Rattle.driven_tickets.proofs.Following.{refused_by}
use Rattle.live_session.specs.Driven.{Beside, CallAnswered, FitsSession, is_done}
use Rattle.live_session.specs.Held.{HasRoom, IsDone, container_in, factors_in, held, room_at, rooms}
use Rattle.live_session.specs.Live.{IsLive, LiveView, desk_in}
use Rattle.live_session.proofs.Room.{room_here, table_here}
use Rattle.live_session.proofs.Said.{tables_kept}

-- the session with another history
abbrev pub with_history : LiveView → List Text → Tables → TicketsView → History → LiveView
with_history v names ts k x = record {
  file = v.file;
  lists = v.lists;
  opened = x.opened;
  first_names = x.first_names;
  handler_names = v.handler_names;
  most_names = v.most_names;
  names = names;
  tables = ts;
  seed = v.seed;
  factors = v.factors;
  generation = v.generation;
  tickets = k;
  driven = x.driven;
  lines = x.lines;
  replies = x.replies;
}

-- one act more was done by a ticket
abbrev pub acted : LiveView → Tables → TicketsView → LiveView
acted v ts k = record v { tables = ts; tickets = k; driven = suc v.driven }

no_zero : {A : Type 0} (n : ℕ) → suc n ≡ 0 → A
no_zero n e = absurd (omega (arith, e))

pub acted_live : (v : LiveView) (ts : Tables) (k : TicketsView) → IsLive v → AllByRecursion (IsPrintableTable v.names) ts → IsDesk (desk_over (tables_of (shape_of v.file) v.opened) ts k) → IsLive (acted v ts k)
acted_live v ts k live prints desk = record {
  program = live.program;
  accepted = live.accepted;
  opens = live.opens;
  named = live.named;
  known = live.known;
  handlers_below = live.handlers_below;
  handlers_first = live.handlers_first;
  printable = live.printable;
  fine = live.fine;
  begins = live.begins;
  few = live.few;
  prints = prints;
  seeded = live.seeded;
  desk = desk;
  names_are = λ alone. no_zero v.driven alone;
  served = λ alone. no_zero v.driven alone;
}

-- ---- one name more, placed by the program
abbrev pub named : LiveView → Text → LiveView
named v text = record v { names = v.names ++ text ∷ []; driven = suc v.driven }

pub named_live : (v : LiveView) (text : Text) → IsLive v → length v.names < v.most_names → IsLive (named v text)
named_live v text live few =
    let more : Begins v.names (v.names ++ text ∷ []) = (text ∷ [], refl) in
    let long = length-append v.names (text ∷ []) in
    record {
      program = live.program;
      accepted = live.accepted;
      opens = live.opens;
      named = live.named;
      known = live.known;
      handlers_below = live.handlers_below;
      handlers_first = live.handlers_first;
      printable = live.printable;
      fine = live.fine;
      begins = begins_then v.first_names v.names (v.names ++ text ∷ []) live.begins more;
      few = omega (arith, long, few);
      prints = tables_kept v.names (v.names ++ text ∷ []) v.tables more live.prints;
      seeded = live.seeded;
      desk = live.desk;
      names_are = λ alone. no_zero v.driven alone;
      served = λ alone. no_zero v.driven alone;
    }

-- tickets that make the same desk are the same
pub same_tickets : (opening ts : Tables) (k l : TicketsView) → desk_over opening ts k ≡ desk_over opening ts l → k ≡ l
same_tickets opening ts k l e = ap (λ (d : DeskView). record { next = d.next; tickets = d.tickets; acts = d.acts }) e

pub unbegun_still : (d e : DeskView) (f : List Symbol) (why : BeginError) → BegunAs d e f (Err why) → e ≡ d
unbegun_still d e f unbegun.NoNumber h = h.0
unbegun_still d e f unbegun.NoMemory h = h.0

pub unnarrowed_still : (d e : DeskView) (t : ℕ) (f : List Symbol) (why : NarrowError) → NarrowedAs d e t f (Err why) → e ≡ d
unnarrowed_still d e t f wide.Undeclared h = h.0
unnarrowed_still d e t f wide.NoTicket h = h.0

-- what refuses an operation is what its call answers
pub call_refused : (v : LiveView) (t : ℕ) (fits : Bool) (op : Op) (why : Called) → Decides fits (FitsSession v op) → CheckedAs (desk_in v) t fits op (Some why) → CallAnswered v v t op why
call_refused v t fits op why k h = (refused_by (FitsSession v) (desk_in v) t fits op why k h, still why h)
  where
    still : (x : Called) → CheckedAs (desk_in v) t fits op (Some x) → Beside (is_done x) v v
    still (called.Done r) h = absurd h
    still (called.Delayed u) h = refl
    still called.Undeclared h = refl
    still called.Misfit h = refl
    still called.NoTicket h = refl
    still called.NoMemory h = refl

-- ---- the kinds of tables
kind_there : (ps : List Part) (i : ℕ) (p : Part) → i < length ps → p ≡ get_or ps i p → slice_get (map kind_of (held ps)) i ≡ Some (kind_of (container_in p))
kind_there [] i p l is = absurd (omega (arith, l))
kind_there (x ∷ ps) zero p l is = ap (λ (q : Part). Some (kind_of (container_in q))) (sym is)
kind_there (x ∷ ps) (suc i) p l is = kind_there ps i p (omega (arith, l)) is

module _ (ps : List Part) (i : ℕ) (op : Op) (at : i ≡ op.table) where
  there : (k : TableKind) → slice_get (map kind_of (held ps)) op.table ≡ Some k → slice_get (map kind_of (held ps)) i ≡ Some k
  there k e = ap (slice_get (map kind_of (held ps))) at ∙ e

  pub fits_by : (p : Part) → IsHeld op → i < length ps → p ≡ get_or ps i p → kind_of (container_in p) ≡ home op.kind → Fits (map kind_of (held ps)) op
  fits_by p h l is e = record {
    table = ap (slice_get (map kind_of (held ps))) (sym at) ∙ kind_there ps i p l is ∙ ap (λ (k : TableKind). Some k) e;
    key = h.unused.0;
    value = h.unused.1;
  }

  pub kind_by : (p : Part) → i < length ps → p ≡ get_or ps i p → Fits (map kind_of (held ps)) op → kind_of (container_in p) ≡ home op.kind
  kind_by p l is f = same_Some (kind_of (container_in p)) (home op.kind) (sym (kind_there ps i p l is) ∙ there (home op.kind) f.table)

  pub none_past : length ps ≤ i → Fits (map kind_of (held ps)) op → ⊥
  none_past l f =
      let within : i < length (map kind_of (held ps)) = slice_get_within _ _ _ (there (home op.kind) f.table) in
      let low : i < length ps = rw (length-map, length-map) at within in
      omega (arith, l, low)

-- ---- an operation that is done by what answers it
abbrev Answered : Type 0 → Result Value NoMemory → List Part → Op → List Part → Type 0
Answered X r ps op qs = MatchResult r (λ v. (HasRoom ps op → IsDone ps op v qs) × (rooms qs ≡ rooms ps) × (factors_in qs ≡ factors_in ps) × IsValue v) (λ _. X)

pub reply_by : (X : Type 0) (r : Result Value NoMemory) (ps qs : List Part) (op : Op) → HasRoom ps op → Answered X r ps op qs → IfOk r (λ v. v ≡ reply (held ps) op)
reply_by X (Ok v) ps qs op room h = (h.0 room).0
reply_by X (Err e) ps qs op room h = tt

pub tables_by : (X : Type 0) (r : Result Value NoMemory) (ps qs : List Part) (op : Op) → HasRoom ps op → Answered X r ps op qs → OnOk r (held qs ≡ step (held ps) op)
tables_by X (Ok v) ps qs op room h = (h.0 room).1
tables_by X (Err e) ps qs op room h = tt

pub factors_by : (X : Type 0) (r : Result Value NoMemory) (ps qs : List Part) (op : Op) → Answered X r ps op qs → (X → factors_in qs ≡ factors_in ps) → factors_in qs ≡ factors_in ps
factors_by X (Ok v) ps qs op h still = h.2
factors_by X (Err e) ps qs op h still = still h

-- what adds no key has room
pub no_room_needed : (ps : List Part) (op : Op) → is_adding op.kind ≡ false → HasRoom ps op
no_room_needed ps op e adds low = cc

-- the table of an operation with room for one key more
pub room_made : (ps : List Part) (i : ℕ) (op : Op) (p new : Part) → i ≡ op.table → i < length ps → container_in new ≡ container_in p → size_of (container_in new) + 1 ≤ (shard_view new).room → HasRoom (set ps i new) op
room_made ps i op p new at l same room adds low =
    subst (λ (t : ℕ). size_of (table (held (set ps i new)) t) < room_at (set ps i new) t) at
    (let size : size_of (table (held (set ps i new)) i) ≡ size_of (container_in new) = ap size_of (table_here ps i new l) in let here = room_here ps i new l in omega (arith, size, here, room))

pub reply_at : (r : Result Value NoMemory) (ts us : Tables) (op : Op) → ts ≡ us → IfOk r (λ v. v ≡ reply ts op) → IfOk r (λ v. v ≡ reply us op)
reply_at r ts us op e h = subst (λ (xs : Tables). IfOk r (λ v. v ≡ reply xs op)) e h

pub step_at : (r : Result Value NoMemory) (ts us new : Tables) (op : Op) → ts ≡ us → OnOk r (new ≡ step ts op) → OnOk r (new ≡ step us op)
step_at r ts us new op e h = subst (λ (xs : Tables). OnOk r (new ≡ step xs op)) e h

pub still_at : {A : Type 0} (r : Result A NoMemory) (ts us : Tables) → ts ≡ us → OnErr r (ts ≡ us)
still_at (Ok a) ts us e = tt
still_at (Err x) ts us e = e
