use Rattle.std.proofs.Common.{refl}
use Rattle.session_journal.specs.Script.{Meaning}
use Rattle.admission_book.specs.Book.{Book}
use Rattle.admission_book.specs.Lawful.{Lawful}
use Rattle.admission_book.specs.Methods.{MayNarrow, Narrowed}
use Rattle.admission_book.proofs.Inside.{view_lent, keeps_lent}
use Rattle.admission_book.proofs.Shown.{here, leaves, lawful_same, place, foresight_at, keeps_with, from_same}
use Rattle.admission_book.proofs.Stays.{grows_none, stays}
use Rattle.admission_book.proofs.Narrows.{narrow_lawful, narrow_shown, narrowed, narrow_keeps}
use Rattle.admission_book.proofs.book.Book.narrow.Goals as goal

pub invariant_of-self : goal.invariant_of-self
invariant_of-self g c =
    let seen = view_lent g.S.Tickets.meaning _ _ _ c.deref_mut-inner.ensures.value c.self.view_is in
    let keeps = keeps_lent g.S.Tickets.meaning _ _ c.deref_mut-inner.ensures.value c.self.invariant in
    let p = place _ _ _ _ _ c.as_slice.ensures.value c.place_of-caller.ensures.within c.place_of-caller.ensures.serves c.index_mut.ensures.value in
    let L = here Lawful g.S.Tickets.meaning _ _ _ seen c.requires.lawful in
    let may = here (λ (m : Meaning) (b : Book). MayNarrow m b c.args.t c.args.f.now.symbols) g.S.Tickets.meaning _ _ _ seen c.requires.may in
    keeps_with _ _ _ _ _ c.deref_mut-inner.result.now.journal c.deref_mut-inner.result.now.journal _ _ _ _ _ keeps refl keeps.counted refl (narrow_keeps _ _ _ _ _ _ _ _ L may p c.narrow.new.self (c.narrow.ensures _) keeps.each)
    (from_same _ _ _ c.narrow.new.self p.within keeps.from _ p.is (c.narrow.ensures (g.S.Tickets.meaning c.deref_mut-inner.result.now.script)).ticket) keeps.is_begun

pub narrow-requires-clause-room : goal.narrow-requires-clause-room
narrow-requires-clause-room g c =
    let seen = view_lent g.S.Tickets.meaning _ _ _ c.deref_mut-inner.ensures.value c.self.view_is in
    let keeps = keeps_lent g.S.Tickets.meaning _ _ c.deref_mut-inner.ensures.value c.self.invariant in
    let p = place _ _ _ _ _ c.as_slice.ensures.value c.place_of-caller.ensures.within c.place_of-caller.ensures.serves c.index_mut.ensures.value in
    (foresight_at _ _ _ _ _ _ p keeps.each).room

pub narrow-requires-clause-few : goal.narrow-requires-clause-few
narrow-requires-clause-few g c =
    let seen = view_lent g.S.Tickets.meaning _ _ _ c.deref_mut-inner.ensures.value c.self.view_is in
    let may = here (λ (m : Meaning) (b : Book). MayNarrow m b c.args.t c.args.f.now.symbols) g.S.Tickets.meaning _ _ _ seen c.requires.may in
    may.covers.few

pub returns-clause-narrowed : goal.returns-clause-narrowed
returns-clause-narrowed g c =
    let seen = view_lent g.S.Tickets.meaning _ _ _ c.deref_mut-inner.ensures.value c.self.view_is in
    let p = place _ _ _ _ _ c.as_slice.ensures.value c.place_of-caller.ensures.within c.place_of-caller.ensures.serves c.index_mut.ensures.value in
    let L = here Lawful g.S.Tickets.meaning _ _ _ seen c.requires.lawful in
    let may = here (λ (m : Meaning) (b : Book). MayNarrow m b c.args.t c.args.f.now.symbols) g.S.Tickets.meaning _ _ _ seen c.requires.may in
    leaves (λ (b d : Book). Narrowed b c.args.t c.args.f.now.symbols d) _ _ _ _ _ seen (narrow_shown _ _ _ _ _ _ _ _ L may p c.narrow.new.self (c.narrow.ensures _)) (narrowed _ _ _ _ _ _ _ _ L may p)

pub returns-clause-stays : goal.returns-clause-stays
returns-clause-stays g c =
    let seen = view_lent g.S.Tickets.meaning _ _ _ c.deref_mut-inner.ensures.value c.self.view_is in
    let keeps = keeps_lent g.S.Tickets.meaning _ _ c.deref_mut-inner.ensures.value c.self.invariant in
    let p = place _ _ _ _ _ c.as_slice.ensures.value c.place_of-caller.ensures.within c.place_of-caller.ensures.serves c.index_mut.ensures.value in
    let L = here Lawful g.S.Tickets.meaning _ _ _ seen c.requires.lawful in
    let may = here (λ (m : Meaning) (b : Book). MayNarrow m b c.args.t c.args.f.now.symbols) g.S.Tickets.meaning _ _ _ seen c.requires.may in
    stays g.S.Tickets.meaning _ _ _ _ seen keeps.script
    (lawful_same _ _ _ (narrow_shown _ _ _ _ _ _ _ _ L may p c.narrow.new.self (c.narrow.ensures _)) (narrow_lawful _ _ _ _ _ _ _ _ L may p))
    (grows_none _)
