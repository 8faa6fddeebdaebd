use Rattle.std.proofs.Common.{refl}
use Rattle.session_journal.specs.Script.{Meaning}
use Rattle.admission_book.specs.Book.{Book}
use Rattle.admission_book.specs.Lawful.{Lawful}
use Rattle.admission_book.specs.Methods.{MayDo, DidIt}
use Rattle.admission_book.proofs.Inside.{view_lent, keeps_lent}
use Rattle.admission_book.proofs.Shown.{events_are, here, leaves, lawful_same, place, foresight_at, keeps_with, room_for, from_same}
use Rattle.admission_book.proofs.Stays.{grows_by, stays}
use Rattle.admission_book.proofs.Dones.{flies, done_lawful, done_shown, did, done_keeps, done_count}
use Rattle.admission_book.proofs.book.Book.done.Goals as goal

pub finish-op-requires-clause-flight : goal.finish-op-requires-clause-flight
finish-op-requires-clause-flight g c =
    let seen = view_lent g.S.Tickets.meaning _ _ _ c.deref_mut-inner.ensures.value c.self.view_is in
    let p = place _ _ _ _ _ c.as_slice.ensures.value c.place_of-caller.ensures.within c.place_of-caller.ensures.serves c.index_mut.ensures.value in
    let L = here Lawful g.S.Tickets.meaning _ _ _ seen c.requires.lawful in
    let may = here (λ (m : Meaning) (b : Book). MayDo m b c.args.t c.args.reply c.args.next.now.symbols) g.S.Tickets.meaning _ _ _ seen c.requires.may in
    flies _ _ _ _ _ _ _ _ _ L may p

pub finish-op-requires-clause-room : goal.finish-op-requires-clause-room
finish-op-requires-clause-room g c =
    let seen = view_lent g.S.Tickets.meaning _ _ _ c.deref_mut-inner.ensures.value c.self.view_is in
    let keeps = keeps_lent g.S.Tickets.meaning _ _ c.deref_mut-inner.ensures.value c.self.invariant in
    let p = place _ _ _ _ _ c.as_slice.ensures.value c.place_of-caller.ensures.within c.place_of-caller.ensures.serves c.index_mut.ensures.value in
    (foresight_at _ _ _ _ _ _ p keeps.each).room

pub finish-op-requires-clause-few : goal.finish-op-requires-clause-few
finish-op-requires-clause-few g c =
    let seen = view_lent g.S.Tickets.meaning _ _ _ c.deref_mut-inner.ensures.value c.self.view_is in
    let may = here (λ (m : Meaning) (b : Book). MayDo m b c.args.t c.args.reply c.args.next.now.symbols) g.S.Tickets.meaning _ _ _ seen c.requires.may in
    may.covers.few

pub push_reserved-requires : goal.push_reserved-requires
push_reserved-requires g c =
    let seen = view_lent g.S.Tickets.meaning _ _ _ c.deref_mut-inner.ensures.value c.self.view_is in
    let keeps = keeps_lent g.S.Tickets.meaning _ _ c.deref_mut-inner.ensures.value c.self.invariant in
    let p = place _ _ _ _ _ c.as_slice.ensures.value c.place_of-caller.ensures.within c.place_of-caller.ensures.serves c.index_mut.ensures.value in
    let L = here Lawful g.S.Tickets.meaning _ _ _ seen c.requires.lawful in
    let may = here (λ (m : Meaning) (b : Book). MayDo m b c.args.t c.args.reply c.args.next.now.symbols) g.S.Tickets.meaning _ _ _ seen c.requires.may in
    room_for _ _ _ _ _ _ keeps.script keeps.events (done_lawful _ _ _ _ _ _ _ _ _ L may p c.finish-op.result c.finish-op.ensures.op)

pub invariant_of-self : goal.invariant_of-self
invariant_of-self g c =
    let seen = view_lent g.S.Tickets.meaning _ _ _ c.deref_mut-inner.ensures.value c.self.view_is in
    let keeps = keeps_lent g.S.Tickets.meaning _ _ c.deref_mut-inner.ensures.value c.self.invariant in
    let p = place _ _ _ _ _ c.as_slice.ensures.value c.place_of-caller.ensures.within c.place_of-caller.ensures.serves c.index_mut.ensures.value in
    let L = here Lawful g.S.Tickets.meaning _ _ _ seen c.requires.lawful in
    let may = here (λ (m : Meaning) (b : Book). MayDo m b c.args.t c.args.reply c.args.next.now.symbols) g.S.Tickets.meaning _ _ _ seen c.requires.may in
    keeps_with _ _ _ _ _ c.deref_mut-inner.result.now.journal c.push_reserved.new.self _ _ _ _ _ keeps c.push_reserved.ensures
    (done_count _ _ _ _ _ _ _ _ _ L may p c.finish-op.result c.finish-op.ensures.op _ keeps.counted) refl
    (done_keeps _ _ _ _ _ _ _ _ _ L may p c.finish-op.result c.finish-op.ensures.op c.finish-op.new.self (c.finish-op.ensures.finished _) keeps.each)
    (from_same _ _ _ c.finish-op.new.self p.within keeps.from _ p.is (c.finish-op.ensures.finished (g.S.Tickets.meaning c.deref_mut-inner.result.now.script)).ticket) keeps.is_begun

pub returns-clause-did : goal.returns-clause-did
returns-clause-did g c =
    let seen = view_lent g.S.Tickets.meaning _ _ _ c.deref_mut-inner.ensures.value c.self.view_is in
    let p = place _ _ _ _ _ c.as_slice.ensures.value c.place_of-caller.ensures.within c.place_of-caller.ensures.serves c.index_mut.ensures.value in
    let L = here Lawful g.S.Tickets.meaning _ _ _ seen c.requires.lawful in
    let may = here (λ (m : Meaning) (b : Book). MayDo m b c.args.t c.args.reply c.args.next.now.symbols) g.S.Tickets.meaning _ _ _ seen c.requires.may in
    let grown = events_are _ _ _ c.push_reserved.ensures in
    leaves (λ (b d : Book). DidIt b c.args.t c.args.reply c.args.next.now.symbols d) _ _ _ _ _ seen
    (done_shown _ _ _ _ _ _ _ _ _ L may p c.finish-op.result c.finish-op.ensures.op c.push_reserved.new.self.events c.finish-op.new.self grown (c.finish-op.ensures.finished _))
    (did _ _ _ _ _ _ _ _ _ L may p c.finish-op.result c.finish-op.ensures.op)

pub returns-clause-stays : goal.returns-clause-stays
returns-clause-stays g c =
    let seen = view_lent g.S.Tickets.meaning _ _ _ c.deref_mut-inner.ensures.value c.self.view_is in
    let keeps = keeps_lent g.S.Tickets.meaning _ _ c.deref_mut-inner.ensures.value c.self.invariant in
    let p = place _ _ _ _ _ c.as_slice.ensures.value c.place_of-caller.ensures.within c.place_of-caller.ensures.serves c.index_mut.ensures.value in
    let L = here Lawful g.S.Tickets.meaning _ _ _ seen c.requires.lawful in
    let may = here (λ (m : Meaning) (b : Book). MayDo m b c.args.t c.args.reply c.args.next.now.symbols) g.S.Tickets.meaning _ _ _ seen c.requires.may in
    let grown = events_are _ _ _ c.push_reserved.ensures in
    stays g.S.Tickets.meaning _ _ _ _ seen keeps.script
    (lawful_same _ _ _ (done_shown _ _ _ _ _ _ _ _ _ L may p c.finish-op.result c.finish-op.ensures.op c.push_reserved.new.self.events c.finish-op.new.self grown (c.finish-op.ensures.finished _))
    (done_lawful _ _ _ _ _ _ _ _ _ L may p c.finish-op.result c.finish-op.ensures.op))
    (grows_by _ _ _ grown)
