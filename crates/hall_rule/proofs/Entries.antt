-- The entries of a caller's ticket stay while others serve theirs.
use Rattle.std.proofs.Common.{◌≡◌, ◌≢◌, ℕ, List, [], ◌∷◌, ◌++◌, Some, Bool, cond, refl, sym, ◌∙◌, ap, append-nil}
use Rattle.std.specs.List.{AllByRecursion}
use Rattle.std.proofs.lemmas.Bool.{ne_eqb}
use Rattle.std.proofs.lemmas.Option.{same_Some}
use Rattle.session_values.specs.Dialogue.{Entry}
use Rattle.session_journal.specs.declared.event.Event.{Event}
use Rattle.session_journal.specs.declared.event.Event.TheVariants.{Begin, Done, Delay, End}
use Rattle.session_journal.specs.Journal.{done_operations, of_ticket, entries, owner}
use Rattle.admission_book.specs.Book.{Book}
use Rattle.session_journal.proofs.Events.{done_operations-append, of_ticket-append}
use Rattle.hall_rule.specs.Contents.{IsOfOther, IsSince}

none_of : (J : List Event) (t c : ℕ) (since : List Event) → owner J t ≡ Some c → AllByRecursion (λ e. IsOfOther J c e) since → of_ticket t (done_operations since) ≡ []
none_of J t c [] o a = refl
none_of J t c (Done u op r ∷ K) o a =
    let n : u ≢ t = λ e. a.0.2 (same_Some a.0.0 c (sym a.0.1 ∙ ap (owner J) e ∙ o)) in
    ap (λ (b : Bool). cond b (record { op = op; reply = r } ∷ of_ticket t (done_operations K)) (of_ticket t (done_operations K))) (ne_eqb u t n) ∙ none_of J t c K o a.1
none_of J t c (Begin u d ∷ K) o a = none_of J t c K o a.1
none_of J t c (Delay u op older y ∷ K) o a = none_of J t c K o a.1
none_of J t c (End u r ∷ K) o a = none_of J t c K o a.1

pub entries_since : (noted b : Book) (c t : ℕ) → IsSince noted b c → owner b.journal t ≡ Some c → entries b.journal t ≡ entries noted.journal t
entries_since noted b c t n o =
    ap (λ (J : List Event). entries J t) (sym n.grows)
    ∙ ap (of_ticket t) (done_operations-append noted.journal n.since)
    ∙ of_ticket-append t (done_operations noted.journal) (done_operations n.since)
    ∙ ap (λ (es : List Entry). entries noted.journal t ++ es) (none_of b.journal t c n.since o n.of_others)
    ∙ append-nil (entries noted.journal t)
