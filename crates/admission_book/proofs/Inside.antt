-- What is in a book's box, and what is lent from there.
use Rattle.std.proofs.Common.{◌≡◌, sym, ◌∙◌, ap, subst}
use Rattle.session_journal.specs.Script.{Meaning}
use Rattle.admission_book.specs.Methods.{BookView, StaysLawful}
use Rattle.admission_book.specs.Kept.{book_of, Keeps}
use Rattle.admission_book.specs.declared.book.Inner.{Inner}

abbrev pub view_in : {S : Type 0} → (S → Meaning) → Inner S → BookView S
view_in meaning x = record { script = x.script; book = book_of (meaning x.script) x.journal.events x.kept x.records.items }

abbrev pub KeepsIn : {S : Type 0} → (S → Meaning) → Inner S → Type 0
KeepsIn meaning x = Keeps (meaning x.script) x.begun x.oldest x.journal x.kept x.records.items

pub view_lent : {S : Type 0} (meaning : S → Meaning) (x y : Inner S) (v : BookView S) → y ≡ x → view_in meaning x ≡ v → view_in meaning y ≡ v
view_lent meaning x y v e is = ap (view_in meaning) e ∙ is

pub keeps_lent : {S : Type 0} (meaning : S → Meaning) (x y : Inner S) → y ≡ x → KeepsIn meaning x → KeepsIn meaning y
keeps_lent meaning x y e k = subst (KeepsIn meaning) (sym e) k

pub stays_lent : {S : Type 0} (meaning : S → Meaning) (x y : Inner S) → y ≡ x → (v : BookView S) → view_in meaning x ≡ v → StaysLawful S meaning v v → StaysLawful S meaning v (view_in meaning y)
stays_lent {S} meaning x y e v is p = let P : BookView S → Type 0 = λ w. StaysLawful S meaning v w in subst P (sym (view_lent meaning x y v e is)) p
