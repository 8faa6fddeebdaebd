-- What contracts see of a book, what its calls ask, and what they leave.
use Rattle.std.specs.Prelude.{◌≡◌, ℕ, ◌<◌, ◌≤◌, List, [], ◌∷◌, ◌++◌, Option, Some, None, length}
use Rattle.session_values.specs.declared.value.Value.{Value}
use Rattle.session_values.specs.declared.op.Op.{Op}
use Rattle.session_values.specs.declared.reply.Reply.{Reply}
use Rattle.session_values.specs.Tables.{reply}
use Rattle.session_values.specs.Dialogue.{Calls, Answers, rest, replies}
use Rattle.symbolic_ops.specs.declared.symbol.Symbol.{Symbol}
use Rattle.symbolic_ops.specs.Matching.{Matches, Covered}
use Rattle.session_journal.specs.declared.event.Event.{Event}
use Rattle.session_journal.specs.Foreknown.{Foreknown}
use Rattle.session_journal.specs.Journal.{begun, entries, after}
use Rattle.session_journal.specs.Script.{Meaning, IsForesight}
use Rattle.admission_book.specs.Book.{Book, Serving, record_of, IsFree, IsBlocker, after_begin, after_narrow, after_admit, after_delay, after_done, after_end}
use Rattle.session_journal.specs.EventsInTurn.{now, IsOpen}
use Rattle.admission_book.specs.Lawful.{Lawful}
use Rattle.admission_book.specs.declared.admission.Admission.{Admission}
use Rattle.admission_book.specs.declared.admission.Admission.TheVariants.{Admitted, Delayed}

-- a script, and what was done of it
pub record BookView (S : Type 0) : Type 0 where
  pub script : S
  pub book : Book

-- the journal K begins with J
pub record Grows (J K : List Event) : Type 0 where
  pub more : List Event
  pub is : K ≡ J ++ more

-- what each method of a book keeps, whatever else it changes: the script, that the book is lawful,
-- that what every begun ticket has done so far is what it does in the serial run, and the journal
-- before as the front of the journal after
pub record StaysLawful (S : Type 0) (meaning : S → Meaning) (v w : BookView S) : Type 0 where
  pub script : w.script ≡ v.script
  pub lawful : Lawful (meaning w.script) w.book
  pub foreknown : (t : ℕ) → t < begun w.book.journal → Foreknown (meaning w.script) w.book.journal t
  pub grows : Grows v.book.journal w.book.journal

-- the next of n tickets, where one is left to begin
abbrev pub IfNext : Option ℕ → ℕ → List Event → Type 0
IfNext None n J = n ≤ begun J
IfNext (Some t) n J = (t ≡ begun J) × (t < n)

-- the least open ticket, where there is one
abbrev pub IsOldestOpen : Option ℕ → List Event → Type 0
IsOldestOpen None J = (u : ℕ) → IsOpen J u → ⊥
IsOldestOpen (Some t) J = IsOpen J t × ((u : ℕ) → IsOpen J u → t ≤ u)

-- ---- what the calls ask and leave. The ticket stands in the record of some caller
-- caller c serves no ticket, and where one is left to begin, f may be its foresight and is covered
-- by what it declares at its beginning
pub record MayBeginNext (m : Meaning) (b : Book) (c : ℕ) (f : List Symbol) : Type 0 where
  pub caller : c < length b.records
  pub idle : record_of b c ≡ None
  pub entry : begun b.journal < m.requests → IsForesight (m.next (begun b.journal)) f
  pub declared : begun b.journal < m.requests → Covered f (m.entry (begun b.journal))

-- the next ticket begins, or all are begun and nothing changes
abbrev pub Begins : Meaning → Book → ℕ → List Symbol → Option ℕ → Book → Type 0
Begins m b c f None d = (m.requests ≤ begun b.journal) × (d ≡ b)
Begins m b c f (Some t) d = (t < m.requests) × (t ≡ begun b.journal) × (d ≡ after_begin b c f)

-- ticket t has no operation in flight, its foresight covers f, and f may be the foresight of what
-- is left of it
pub record MayNarrow (m : Meaning) (b : Book) (t : ℕ) (f : List Symbol) : Type 0 where
  pub caller : ℕ
  pub serving : Serving
  pub is : record_of b caller ≡ Some serving
  pub ticket : serving.ticket ≡ t
  pub idle : serving.flight ≡ None
  pub covered : Covered f serving.foresight
  pub covers : IsForesight (rest (m.next t) (replies (entries b.journal t))) f

-- book d is book b after ticket t narrows to f
abbrev pub Narrowed : Book → ℕ → List Symbol → Book → Type 0
Narrowed b t f d = (c : ℕ) (s : Serving) → record_of b c ≡ Some s → s.ticket ≡ t
    → d ≡ after_narrow b c s f

-- ticket t has no operation in flight, op is the one that it calls, and its foresight matches op
pub record MayAdmit (m : Meaning) (b : Book) (t : ℕ) (op : Op) : Type 0 where
  pub caller : ℕ
  pub serving : Serving
  pub is : record_of b caller ≡ Some serving
  pub ticket : serving.ticket ≡ t
  pub idle : serving.flight ≡ None
  pub calls : now m b.journal t ≡ Calls op
  pub matches : Matches serving.foresight op

-- admitted where no older open ticket is against the operation, else delayed by the least one that
-- is
abbrev pub Admits : Book → ℕ → Op → Admission → Book → Type 0
Admits b t op Admitted d = IsFree b t op × ((c : ℕ) (s : Serving) → record_of b c ≡ Some s
    → s.ticket ≡ t → d ≡ after_admit b c s op)
Admits b t op (Delayed older y) d = IsBlocker b t op older y × (d ≡ after_delay b t op older y)

-- ticket t has an operation in flight, r is its reply at the tables after the journal, and f may be
-- the foresight after it: covered by the present one, and by what t declares right after it
pub record MayDo (m : Meaning) (b : Book) (t : ℕ) (r : Value) (f : List Symbol) : Type 0 where
  pub caller : ℕ
  pub serving : Serving
  pub op : Op
  pub is : record_of b caller ≡ Some serving
  pub ticket : serving.ticket ≡ t
  pub flight : serving.flight ≡ Some op
  pub reply_is : r ≡ reply (after m.opening b.journal) op
  pub covered : Covered f serving.foresight
  pub covers : IsForesight (rest (m.next t) (replies (entries b.journal t ++ record {
    op = op;
    reply = r;
  } ∷ []))) f
  pub declared : Covered f (m.told t (replies (entries b.journal t ++ record {
    op = op;
    reply = r;
  } ∷ [])))

-- book d is book b after the operation in flight of ticket t is done with the reply r, and t
-- narrows to f
abbrev pub DidIt : Book → ℕ → Value → List Symbol → Book → Type 0
DidIt b t r f d = (c : ℕ) (s : Serving) (op : Op) → record_of b c ≡ Some s → s.ticket ≡ t
    → s.flight ≡ Some op → d ≡ after_done b c s op r f

-- ticket t has no operation in flight, op is the one that it calls, no older open ticket is against
-- it, r is its reply at the tables after the journal, and f may be the foresight after it
pub record MayEnter (m : Meaning) (b : Book) (t : ℕ) (op : Op) (r : Value) (f : List Symbol) : Type 0 where
  pub caller : ℕ
  pub serving : Serving
  pub is : record_of b caller ≡ Some serving
  pub ticket : serving.ticket ≡ t
  pub idle : serving.flight ≡ None
  pub calls : now m b.journal t ≡ Calls op
  pub matches : Matches serving.foresight op
  pub free : IsFree b t op
  pub reply_is : r ≡ reply (after m.opening b.journal) op
  pub covered : Covered f serving.foresight
  pub covers : IsForesight (rest (m.next t) (replies (entries b.journal t ++ record {
    op = op;
    reply = r;
  } ∷ []))) f
  pub declared : Covered f (m.told t (replies (entries b.journal t ++ record {
    op = op;
    reply = r;
  } ∷ [])))

-- book d is book b after ticket t does the operation with the reply r, admitted and entered in one,
-- and narrows to f
abbrev pub Entered : Book → ℕ → Op → Value → List Symbol → Book → Type 0
Entered b t op r f d = (c : ℕ) (s : Serving) → record_of b c ≡ Some s → s.ticket ≡ t
    → d ≡ after_done b c s op r f

-- who is against the operation of ticket t: no older open ticket, or the least one that is
abbrev pub Judges : Book → ℕ → Op → Admission → Type 0
Judges b t op Admitted = IsFree b t op
Judges b t op (Delayed older y) = IsBlocker b t op older y

-- ticket t has no operation in flight, and r is what it answers
pub record MayEnd (m : Meaning) (b : Book) (t : ℕ) (r : Reply) : Type 0 where
  pub caller : ℕ
  pub serving : Serving
  pub is : record_of b caller ≡ Some serving
  pub ticket : serving.ticket ≡ t
  pub idle : serving.flight ≡ None
  pub answers : now m b.journal t ≡ Answers r

-- book d is book b after ticket t ends with the reply r
abbrev pub HasEnded : Book → ℕ → Reply → Book → Type 0
HasEnded b t r d = (c : ℕ) (s : Serving) → record_of b c ≡ Some s → s.ticket ≡ t
    → d ≡ after_end b c s r
