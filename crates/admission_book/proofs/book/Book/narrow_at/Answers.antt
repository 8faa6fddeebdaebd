use Rattle.std.proofs.Common.{length, refl}
use Rattle.session_journal.specs.Script.{Meaning, HasSite, declared_with}
use Rattle.admission_book.specs.Book.{Book}
use Rattle.admission_book.specs.Lawful.{Lawful}
use Rattle.admission_book.specs.Methods.{MayNarrow, Narrowed}
use Rattle.admission_book.proofs.Inside.{view_lent, keeps_lent}
use Rattle.admission_book.proofs.Shown.{here, leaves_of, lawful_same, place, foresight_at, keeps_with, from_same}
use Rattle.admission_book.proofs.Stays.{grows_none, stays}
use Rattle.admission_book.proofs.Known.{with_site_record}
use Rattle.admission_book.proofs.Narrows.{narrow_covered, narrow_lawful, narrow_shown, narrowed, narrow_keeps}
use Rattle.admission_book.proofs.book.Book.narrow_at.Goals as goal

pub invariant_of-self : goal.invariant_of-self
invariant_of-self g c =
    let seen = view_lent g.S.Tickets.meaning _ _ _ c.deref_mut-inner.ensures.value c.self.view_is in
    let keeps = keeps_lent g.S.Tickets.meaning _ _ c.deref_mut-inner.ensures.value c.self.invariant in
    let p = place _ _ _ _ _ c.as_slice.ensures.value c.place_of-caller.ensures.within c.place_of-caller.ensures.serves c.index_mut.ensures.value in
    let L = here Lawful g.S.Tickets.meaning _ _ _ seen c.requires.lawful in
    let may = here (λ (m : Meaning) (b : Book). MayNarrow m b c.args.t (declared_with m c.args.site c.args.values.now)) g.S.Tickets.meaning _ _ _ seen c.requires.may in
    let has = here (λ (m : Meaning) (b : Book). HasSite m c.args.site (length c.args.values.now)) g.S.Tickets.meaning _ _ _ seen c.requires.site in
    let told = with_site_record _ c.index_mut.result.now c.narrow_at.new.self c.args.site c.args.values.now has (foresight_at _ _ _ _ _ _ p keeps.each) (narrow_covered _ _ _ _ _ _ _ _ L may p) c.narrow_at.ensures in
    keeps_with _ _ _ _ _ c.deref_mut-inner.result.now.journal c.deref_mut-inner.result.now.journal _ _ _ _ _ keeps refl keeps.counted refl (narrow_keeps _ _ _ _ _ _ _ _ L may p c.narrow_at.new.self told keeps.each)
    (from_same _ _ _ c.narrow_at.new.self p.within keeps.from _ p.is told.ticket) keeps.is_begun

pub narrow_at-requires : goal.narrow_at-requires
narrow_at-requires g c = c.requires.site.few

pub returns-clause-narrowed : goal.returns-clause-narrowed
returns-clause-narrowed g c =
    let seen = view_lent g.S.Tickets.meaning _ _ _ c.deref_mut-inner.ensures.value c.self.view_is in
    let keeps = keeps_lent g.S.Tickets.meaning _ _ c.deref_mut-inner.ensures.value c.self.invariant in
    let p = place _ _ _ _ _ c.as_slice.ensures.value c.place_of-caller.ensures.within c.place_of-caller.ensures.serves c.index_mut.ensures.value in
    let L = here Lawful g.S.Tickets.meaning _ _ _ seen c.requires.lawful in
    let may = here (λ (m : Meaning) (b : Book). MayNarrow m b c.args.t (declared_with m c.args.site c.args.values.now)) g.S.Tickets.meaning _ _ _ seen c.requires.may in
    let has = here (λ (m : Meaning) (b : Book). HasSite m c.args.site (length c.args.values.now)) g.S.Tickets.meaning _ _ _ seen c.requires.site in
    let told = with_site_record _ c.index_mut.result.now c.narrow_at.new.self c.args.site c.args.values.now has (foresight_at _ _ _ _ _ _ p keeps.each) (narrow_covered _ _ _ _ _ _ _ _ L may p) c.narrow_at.ensures in
    leaves_of (λ (m : Meaning) (b d : Book). Narrowed b c.args.t (declared_with m c.args.site c.args.values.now) d) g.S.Tickets.meaning _ _ _ _ _ seen (narrow_shown _ _ _ _ _ _ _ _ L may p c.narrow_at.new.self told) (narrowed _ _ _ _ _ _ _ _ L may p)

pub returns-clause-stays : goal.returns-clause-stays
returns-clause-stays g c =
    let seen = view_lent g.S.Tickets.meaning _ _ _ c.deref_mut-inner.ensures.value c.self.view_is in
    let keeps = keeps_lent g.S.Tickets.meaning _ _ c.deref_mut-inner.ensures.value c.self.invariant in
    let p = place _ _ _ _ _ c.as_slice.ensures.value c.place_of-caller.ensures.within c.place_of-caller.ensures.serves c.index_mut.ensures.value in
    let L = here Lawful g.S.Tickets.meaning _ _ _ seen c.requires.lawful in
    let may = here (λ (m : Meaning) (b : Book). MayNarrow m b c.args.t (declared_with m c.args.site c.args.values.now)) g.S.Tickets.meaning _ _ _ seen c.requires.may in
    let has = here (λ (m : Meaning) (b : Book). HasSite m c.args.site (length c.args.values.now)) g.S.Tickets.meaning _ _ _ seen c.requires.site in
    let told = with_site_record _ c.index_mut.result.now c.narrow_at.new.self c.args.site c.args.values.now has (foresight_at _ _ _ _ _ _ p keeps.each) (narrow_covered _ _ _ _ _ _ _ _ L may p) c.narrow_at.ensures in
    stays g.S.Tickets.meaning _ _ _ _ seen keeps.script
    (lawful_same _ _ _ (narrow_shown _ _ _ _ _ _ _ _ L may p c.narrow_at.new.self told) (narrow_lawful _ _ _ _ _ _ _ _ L may p))
    (grows_none _)
