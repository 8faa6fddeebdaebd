-- What the script of a book declares at a site is what the hall's script declares there.
use Rattle.std.proofs.Common.{◌≡◌, ℕ, List, sym, subst}
use Rattle.session_values.specs.declared.op.Op.{Op}
use Rattle.session_values.specs.declared.value.Value.{Value}
use Rattle.symbolic_ops.specs.declared.symbol.Symbol.{Symbol}
use Rattle.session_journal.specs.declared.site.Site.{Site}
use Rattle.session_journal.specs.Script.{Meaning, HasSite, declared_with}
use Rattle.admission_book.specs.Book.{Book}
use Rattle.admission_book.specs.Methods as books
use Rattle.admission_book.specs.Methods.{BookView}

module _ {S : Type 0} (meaning : S → Meaning) (hall : S) (b : BookView S) (same : b.script ≡ hall) (s : Site) where
  pub site_here : (n : ℕ) → HasSite (meaning hall) s n → HasSite (meaning b.script) s n
  site_here n has = let P : S → Type 0 = λ x. HasSite (meaning x) s n in subst P (sym same) has

  module _ (values : List Value) where
    list_here : (P : List Symbol → Type 0) → P (declared_with (meaning hall) s values) → P (declared_with (meaning b.script) s values)
    list_here P p = let Q : S → Type 0 = λ x. P (declared_with (meaning x) s values) in subst Q (sym same) p

    list_there : (P : List Symbol → Type 0) → P (declared_with (meaning b.script) s values) → P (declared_with (meaning hall) s values)
    list_there P p = let Q : S → Type 0 = λ x. P (declared_with (meaning x) s values) in subst Q same p

    -- ---- what is asked of the book
    pub may_do_here : (t : ℕ) (r : Value) → books.MayDo (meaning b.script) b.book t r (declared_with (meaning hall) s values) → books.MayDo (meaning b.script) b.book t r (declared_with (meaning b.script) s values)
    may_do_here t r may = list_here (λ l. books.MayDo (meaning b.script) b.book t r l) may

    -- ---- what the book leaves
    pub narrowed_there : (t : ℕ) (d : Book) → books.Narrowed b.book t (declared_with (meaning b.script) s values) d → books.Narrowed b.book t (declared_with (meaning hall) s values) d
    narrowed_there t d left = list_there (λ l. books.Narrowed b.book t l d) left

    pub did_there : (t : ℕ) (r : Value) (d : Book) → books.DidIt b.book t r (declared_with (meaning b.script) s values) d → books.DidIt b.book t r (declared_with (meaning hall) s values) d
    did_there t r d left = list_there (λ l. books.DidIt b.book t r l d) left

    pub entered_there : (t : ℕ) (op : Op) (r : Value) (d : Book) → books.Entered b.book t op r (declared_with (meaning b.script) s values) d → books.Entered b.book t op r (declared_with (meaning hall) s values) d
    entered_there t op r d left = list_there (λ l. books.Entered b.book t op r l d) left
