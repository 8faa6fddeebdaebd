-- What each method of a book keeps.
use Rattle.std.proofs.Common.{◌≡◌, List, [], ◌∷◌, ◌++◌, Bool, true, false, cond, append-nil, refl, sym, ◌∙◌, ap, subst}
use Rattle.session_journal.specs.declared.event.Event.{Event}
use Rattle.session_journal.specs.Script.{Meaning, IsScript}
use Rattle.admission_book.specs.Book.{Book}
use Rattle.admission_book.specs.Lawful.{Lawful}
use Rattle.admission_book.specs.Methods.{BookView, Grows, StaysLawful}
use Rattle.admission_book.proofs.Foreknown.{foreknown}

-- ---- how the journal goes on
pub grows_none : (J : List Event) → Grows J J
grows_none J = record { more = []; is = sym (append-nil J) }

pub grows_by : (J K more : List Event) → K ≡ J ++ more → Grows J K
grows_by J K more is = record { more = more; is = is }

pub grows_unless : (J K : List Event) (noted : Bool) (e : Event) → K ≡ cond noted J (J ++ e ∷ []) → Grows J K
grows_unless J K true e is = record { more = []; is = is ∙ sym (append-nil J) }
grows_unless J K false e is = record { more = e ∷ []; is = is }

-- ---- what a method keeps that leads from the book b, which the fields showed, to d
pub stays : {S : Type 0} (meaning : S → Meaning) (s : S) (b d : Book) (v : BookView S) → record { script = s; book = b } ≡ v → IsScript (meaning s) → Lawful (meaning s) d → Grows b.journal d.journal → StaysLawful S meaning v (record { script = s; book = d })
stays {S} meaning s b d v is script lawful grows =
    let P : BookView S → Type 0 = λ x. Grows x.book.journal d.journal in
    record {
      script = ap (λ (x : BookView S). x.script) is;
      lawful = lawful;
      foreknown = foreknown (meaning s) d script lawful;
      grows = subst P is grows;
    }

-- nothing changes
pub stays_same : {S : Type 0} (meaning : S → Meaning) (s : S) (b : Book) (v : BookView S) → record { script = s; book = b } ≡ v → IsScript (meaning s) → Lawful (meaning v.script) v.book → StaysLawful S meaning v v
stays_same {S} meaning s b v is script lawful =
    let P : BookView S → Type 0 = λ x. IsScript (meaning x.script) in
    record {
      script = refl;
      lawful = lawful;
      foreknown = foreknown (meaning v.script) v.book (subst P is script) lawful;
      grows = grows_none v.book.journal;
    }
