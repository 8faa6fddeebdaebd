use Rattle.std.proofs.Common.{◌≡◌, ℕ, List, [], Option, None, replicate, ap, subst, sym, ◌∙◌}
use Rattle.session_values.specs.declared.reply.Reply.{Reply}
use Rattle.session_journal.specs.declared.event.Event.{Event}
use Rattle.session_journal.specs.Script.{Meaning}
use Rattle.admission_book.specs.Book.{Book, opened}
use Rattle.admission_book.specs.Lawful.{Lawful}
use Rattle.admission_book.specs.CallerRecord.{servings, idle_record}
use Rattle.admission_book.specs.declared.caller_record.CallerRecord.{CallerRecord}
use Rattle.admission_book.specs.Kept.{book_of}
use Rattle.admission_book.proofs.Foreknown.{opened_lawful}
use Rattle.admission_book.specs.declared.book.Inner.{Inner}
use Rattle.admission_book.proofs.Inside.{view_in}
use Rattle.admission_book.proofs.Shown.{events_are, lawful_same}
use Rattle.admission_book.proofs.Replies.{none_served}
use Rattle.admission_book.proofs.book.Book.open.Goals as goal

-- the fields of a book in which no ticket is begun
shows : (m : Meaning) (J : List Event) (k : List (Option Reply)) (rs : List CallerRecord) (n requests callers : ℕ) → J ≡ [] → k ≡ replicate n None → n ≡ requests → rs ≡ replicate callers idle_record → book_of m J k rs ≡ opened requests callers
shows m J k rs n requests callers j is e r =
    (λ i. record { journal = j i; kept = is i; records = servings m (r i) })
    ∙ (λ i. record { journal = []; kept = replicate (e i) None; records = none_served m callers i })

-- what is in the box is what was put there
shows_in : {S : Type 0} (meaning : S → Meaning) (x y : Inner S) (b : Book) → x ≡ y → (view_in meaning y).book ≡ b → (view_in meaning x).book ≡ b
shows_in {S} meaning x y b e is = ap (λ (z : Inner S). (view_in meaning z).book) e ∙ is

lawful_in : {S : Type 0} (meaning : S → Meaning) (x y : Inner S) → x ≡ y → Lawful (meaning y.script) (view_in meaning y).book → Lawful (meaning x.script) (view_in meaning x).book
lawful_in {S} meaning x y e is = let P : Inner S → Type 0 = λ z. Lawful (meaning z.script) (view_in meaning z).book in subst P (sym e) is

pub returns-clause-opened : goal.returns-clause-opened
returns-clause-opened g c = shows_in g.S.Tickets.meaning _ _ _ c.in_ok-new.ensures.ok (shows (g.S.Tickets.meaning c.args.script) _ _ _ _ _ _ (events_are _ _ _ c.in_ok-journal.ensures) c.in_ok-kept.ensures c.requests-requests.ensures.requests c.in_ok-records.ensures)

pub returns-clause-lawful : goal.returns-clause-lawful
returns-clause-lawful g c = lawful_in g.S.Tickets.meaning _ _ c.in_ok-new.ensures.ok (lawful_same _ _ _ (shows (g.S.Tickets.meaning c.args.script) _ _ _ _ _ _ (events_are _ _ _ c.in_ok-journal.ensures) c.in_ok-kept.ensures c.requests-requests.ensures.requests c.in_ok-records.ensures) (opened_lawful _ _))
