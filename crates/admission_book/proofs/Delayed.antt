-- A delay that a lawful book has came in its turn.
use Rattle.std.proofs.Common.{◌≡◌, ℕ, List, [], ◌∷◌, ◌++◌, length, subst}
use Rattle.session_values.specs.declared.op.Op.{Op}
use Rattle.symbolic_ops.specs.declared.symbol.Symbol.{Symbol}
use Rattle.session_journal.specs.declared.event.Event.{Event}
use Rattle.session_journal.specs.declared.event.Event.TheVariants.{Delay}
use Rattle.session_journal.specs.Script.{Meaning}
use Rattle.session_journal.specs.EventsInTurn.{MayBeDelayed, ComeInTurn}
use Rattle.session_journal.proofs.Events.{come_then}
use Rattle.admission_book.specs.Book.{Book}
use Rattle.admission_book.specs.Lawful.{Lawful}

pub delayed_then : (m : Meaning) (b : Book) (J K : List Event) (t : ℕ) (op : Op) (older : ℕ) (y : Symbol) → Lawful m b → b.journal ≡ J ++ Delay t op older y ∷ K → MayBeDelayed m J t op older y
delayed_then m b J K t op older y L e =
    let P : List Event → Type 0 = λ I. ComeInTurn m (length b.records) [] I in
    come_then m (length b.records) [] J K (Delay t op older y) (subst P e L.turns)
