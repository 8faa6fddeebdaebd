use Rattle.std.proofs.Common.{refl}
use Rattle.session_journal.specs.Script.{Meaning}
use Rattle.admission_book.specs.Book.{Book}
use Rattle.admission_book.specs.Lawful.{Lawful}
use Rattle.admission_book.specs.Methods.{Entered, MayEnter}
use Rattle.admission_book.proofs.Inside.{view_lent, keeps_lent}
use Rattle.admission_book.proofs.Shown.{events_are, here, leaves, lawful_same, place, foresight_at, keeps_with, room_for, from_same}
use Rattle.admission_book.proofs.Stays.{grows_by, stays}
use Rattle.admission_book.proofs.Entries.{enter_lawful, enter_shown, entered, enter_keeps, enter_count}
use Rattle.admission_book.proofs.book.Book.enter.Goals as goal

pub enter-requires-clause-room : goal.enter-requires-clause-room
enter-requires-clause-room g c =
    let seen = view_lent g.S.Tickets.meaning _ _ _ c.deref_mut-inner.ensures.value c.self.view_is in
    let keeps = keeps_lent g.S.Tickets.meaning _ _ c.deref_mut-inner.ensures.value c.self.invariant in
    let p = place _ _ _ _ _ c.as_slice.ensures.value c.place_of-caller.ensures.within c.place_of-caller.ensures.serves c.index_mut.ensures.value in
    (foresight_at _ _ _ _ _ _ p keeps.each).room

pub enter-requires-clause-few : goal.enter-requires-clause-few
enter-requires-clause-few g c =
    let seen = view_lent g.S.Tickets.meaning _ _ _ c.deref_mut-inner.ensures.value c.self.view_is in
    let may = here (λ (m : Meaning) (b : Book). MayEnter m b c.args.t c.args.op c.args.reply c.args.next.now.symbols) g.S.Tickets.meaning _ _ _ seen c.requires.may in
    may.covers.few

pub push_reserved-requires : goal.push_reserved-requires
push_reserved-requires g c =
    let seen = view_lent g.S.Tickets.meaning _ _ _ c.deref_mut-inner.ensures.value c.self.view_is in
    let keeps = keeps_lent g.S.Tickets.meaning _ _ c.deref_mut-inner.ensures.value c.self.invariant in
    let p = place _ _ _ _ _ c.as_slice.ensures.value c.place_of-caller.ensures.within c.place_of-caller.ensures.serves c.index_mut.ensures.value in
    let L = here Lawful g.S.Tickets.meaning _ _ _ seen c.requires.lawful in
    let may = here (λ (m : Meaning) (b : Book). MayEnter m b c.args.t c.args.op c.args.reply c.args.next.now.symbols) g.S.Tickets.meaning _ _ _ seen c.requires.may in
    room_for _ _ _ _ _ _ keeps.script keeps.events (enter_lawful _ _ _ _ _ _ _ _ _ _ L may p)

pub invariant_of-self : goal.invariant_of-self
invariant_of-self g c =
    let seen = view_lent g.S.Tickets.meaning _ _ _ c.deref_mut-inner.ensures.value c.self.view_is in
    let keeps = keeps_lent g.S.Tickets.meaning _ _ c.deref_mut-inner.ensures.value c.self.invariant in
    let p = place _ _ _ _ _ c.as_slice.ensures.value c.place_of-caller.ensures.within c.place_of-caller.ensures.serves c.index_mut.ensures.value in
    let L = here Lawful g.S.Tickets.meaning _ _ _ seen c.requires.lawful in
    let may = here (λ (m : Meaning) (b : Book). MayEnter m b c.args.t c.args.op c.args.reply c.args.next.now.symbols) g.S.Tickets.meaning _ _ _ seen c.requires.may in
    keeps_with _ _ _ _ _ c.deref_mut-inner.result.now.journal c.push_reserved.new.self _ _ _ _ _ keeps c.push_reserved.ensures
    (enter_count _ _ _ _ _ _ _ _ _ _ L may p _ keeps.counted) refl
    (enter_keeps _ _ _ _ _ _ _ _ _ _ L may p c.enter.new.self (c.enter.ensures _) keeps.each)
    (from_same _ _ _ c.enter.new.self p.within keeps.from _ p.is (c.enter.ensures (g.S.Tickets.meaning c.deref_mut-inner.result.now.script)).ticket) keeps.is_begun

pub returns-clause-entered : goal.returns-clause-entered
returns-clause-entered g c =
    let seen = view_lent g.S.Tickets.meaning _ _ _ c.deref_mut-inner.ensures.value c.self.view_is in
    let p = place _ _ _ _ _ c.as_slice.ensures.value c.place_of-caller.ensures.within c.place_of-caller.ensures.serves c.index_mut.ensures.value in
    let L = here Lawful g.S.Tickets.meaning _ _ _ seen c.requires.lawful in
    let may = here (λ (m : Meaning) (b : Book). MayEnter m b c.args.t c.args.op c.args.reply c.args.next.now.symbols) g.S.Tickets.meaning _ _ _ seen c.requires.may in
    let grown = events_are _ _ _ c.push_reserved.ensures in
    leaves (λ (b d : Book). Entered b c.args.t c.args.op c.args.reply c.args.next.now.symbols d) _ _ _ _ _ seen
    (enter_shown _ _ _ _ _ _ _ _ _ _ L may p c.push_reserved.new.self.events c.enter.new.self grown (c.enter.ensures _))
    (entered _ _ _ _ _ _ _ _ _ _ L may p)

pub returns-clause-stays : goal.returns-clause-stays
returns-clause-stays g c =
    let seen = view_lent g.S.Tickets.meaning _ _ _ c.deref_mut-inner.ensures.value c.self.view_is in
    let keeps = keeps_lent g.S.Tickets.meaning _ _ c.deref_mut-inner.ensures.value c.self.invariant in
    let p = place _ _ _ _ _ c.as_slice.ensures.value c.place_of-caller.ensures.within c.place_of-caller.ensures.serves c.index_mut.ensures.value in
    let L = here Lawful g.S.Tickets.meaning _ _ _ seen c.requires.lawful in
    let may = here (λ (m : Meaning) (b : Book). MayEnter m b c.args.t c.args.op c.args.reply c.args.next.now.symbols) g.S.Tickets.meaning _ _ _ seen c.requires.may in
    let grown = events_are _ _ _ c.push_reserved.ensures in
    stays g.S.Tickets.meaning _ _ _ _ seen keeps.script
    (lawful_same _ _ _ (enter_shown _ _ _ _ _ _ _ _ _ _ L may p c.push_reserved.new.self.events c.enter.new.self grown (c.enter.ensures _))
    (enter_lawful _ _ _ _ _ _ _ _ _ _ L may p))
    (grows_by _ _ _ grown)
