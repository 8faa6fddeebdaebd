use Rattle.std.proofs.Common.{length, refl}
use Rattle.session_journal.specs.Script.{Meaning, HasSite, declared_with}
use Rattle.admission_book.specs.Book.{Book}
use Rattle.admission_book.specs.Lawful.{Lawful}
use Rattle.admission_book.specs.Methods.{MayDo, DidIt}
use Rattle.admission_book.proofs.Inside.{view_lent, keeps_lent}
use Rattle.admission_book.proofs.Shown.{events_are, here, leaves_of, lawful_same, place, foresight_at, keeps_with, room_for, from_same}
use Rattle.admission_book.proofs.Stays.{grows_by, stays}
use Rattle.admission_book.proofs.Known.{after_flight_record}
use Rattle.admission_book.proofs.Dones.{flies, done_covered, done_lawful, done_shown, did, done_keeps, done_count}
use Rattle.admission_book.proofs.book.Book.done_at.Goals as goal

pub finish_at-op-requires-clause-few : goal.finish_at-op-requires-clause-few
finish_at-op-requires-clause-few g c = c.requires.site.few

pub finish_at-op-requires-clause-flight : goal.finish_at-op-requires-clause-flight
finish_at-op-requires-clause-flight g c =
    let seen = view_lent g.S.Tickets.meaning _ _ _ c.deref_mut-inner.ensures.value c.self.view_is in
    let p = place _ _ _ _ _ c.as_slice.ensures.value c.place_of-caller.ensures.within c.place_of-caller.ensures.serves c.index_mut.ensures.value in
    let L = here Lawful g.S.Tickets.meaning _ _ _ seen c.requires.lawful in
    let may = here (λ (m : Meaning) (b : Book). MayDo m b c.args.t c.args.reply (declared_with m c.args.site c.args.values.now)) g.S.Tickets.meaning _ _ _ seen c.requires.may in
    flies _ _ _ _ _ _ _ _ _ L may p

pub push_reserved-requires : goal.push_reserved-requires
push_reserved-requires g c =
    let seen = view_lent g.S.Tickets.meaning _ _ _ c.deref_mut-inner.ensures.value c.self.view_is in
    let keeps = keeps_lent g.S.Tickets.meaning _ _ c.deref_mut-inner.ensures.value c.self.invariant in
    let p = place _ _ _ _ _ c.as_slice.ensures.value c.place_of-caller.ensures.within c.place_of-caller.ensures.serves c.index_mut.ensures.value in
    let L = here Lawful g.S.Tickets.meaning _ _ _ seen c.requires.lawful in
    let may = here (λ (m : Meaning) (b : Book). MayDo m b c.args.t c.args.reply (declared_with m c.args.site c.args.values.now)) g.S.Tickets.meaning _ _ _ seen c.requires.may in
    room_for _ _ _ _ _ _ keeps.script keeps.events (done_lawful _ _ _ _ _ _ _ _ _ L may p c.finish_at-op.result c.finish_at-op.ensures.op)

pub invariant_of-self : goal.invariant_of-self
invariant_of-self g c =
    let seen = view_lent g.S.Tickets.meaning _ _ _ c.deref_mut-inner.ensures.value c.self.view_is in
    let keeps = keeps_lent g.S.Tickets.meaning _ _ c.deref_mut-inner.ensures.value c.self.invariant in
    let p = place _ _ _ _ _ c.as_slice.ensures.value c.place_of-caller.ensures.within c.place_of-caller.ensures.serves c.index_mut.ensures.value in
    let L = here Lawful g.S.Tickets.meaning _ _ _ seen c.requires.lawful in
    let may = here (λ (m : Meaning) (b : Book). MayDo m b c.args.t c.args.reply (declared_with m c.args.site c.args.values.now)) g.S.Tickets.meaning _ _ _ seen c.requires.may in
    let has = here (λ (m : Meaning) (b : Book). HasSite m c.args.site (length c.args.values.now)) g.S.Tickets.meaning _ _ _ seen c.requires.site in
    let told = after_flight_record _ c.index_mut.result.now c.finish_at-op.new.self c.args.site c.args.values.now has (foresight_at _ _ _ _ _ _ p keeps.each) (done_covered _ _ _ _ _ _ _ _ _ L may p) c.finish_at-op.ensures.finished in
    keeps_with _ _ _ _ _ c.deref_mut-inner.result.now.journal c.push_reserved.new.self _ _ _ _ _ keeps c.push_reserved.ensures
    (done_count _ _ _ _ _ _ _ _ _ L may p c.finish_at-op.result c.finish_at-op.ensures.op _ keeps.counted) refl
    (done_keeps _ _ _ _ _ _ _ _ _ L may p c.finish_at-op.result c.finish_at-op.ensures.op c.finish_at-op.new.self told keeps.each)
    (from_same _ _ _ c.finish_at-op.new.self p.within keeps.from _ p.is told.ticket) keeps.is_begun

pub returns-clause-did : goal.returns-clause-did
returns-clause-did g c =
    let seen = view_lent g.S.Tickets.meaning _ _ _ c.deref_mut-inner.ensures.value c.self.view_is in
    let keeps = keeps_lent g.S.Tickets.meaning _ _ c.deref_mut-inner.ensures.value c.self.invariant in
    let p = place _ _ _ _ _ c.as_slice.ensures.value c.place_of-caller.ensures.within c.place_of-caller.ensures.serves c.index_mut.ensures.value in
    let L = here Lawful g.S.Tickets.meaning _ _ _ seen c.requires.lawful in
    let may = here (λ (m : Meaning) (b : Book). MayDo m b c.args.t c.args.reply (declared_with m c.args.site c.args.values.now)) g.S.Tickets.meaning _ _ _ seen c.requires.may in
    let has = here (λ (m : Meaning) (b : Book). HasSite m c.args.site (length c.args.values.now)) g.S.Tickets.meaning _ _ _ seen c.requires.site in
    let told = after_flight_record _ c.index_mut.result.now c.finish_at-op.new.self c.args.site c.args.values.now has (foresight_at _ _ _ _ _ _ p keeps.each) (done_covered _ _ _ _ _ _ _ _ _ L may p) c.finish_at-op.ensures.finished in
    let grown = events_are _ _ _ c.push_reserved.ensures in
    leaves_of (λ (m : Meaning) (b d : Book). DidIt b c.args.t c.args.reply (declared_with m c.args.site c.args.values.now) d) g.S.Tickets.meaning _ _ _ _ _ seen
    (done_shown _ _ _ _ _ _ _ _ _ L may p c.finish_at-op.result c.finish_at-op.ensures.op c.push_reserved.new.self.events c.finish_at-op.new.self grown told)
    (did _ _ _ _ _ _ _ _ _ L may p c.finish_at-op.result c.finish_at-op.ensures.op)

pub returns-clause-stays : goal.returns-clause-stays
returns-clause-stays g c =
    let seen = view_lent g.S.Tickets.meaning _ _ _ c.deref_mut-inner.ensures.value c.self.view_is in
    let keeps = keeps_lent g.S.Tickets.meaning _ _ c.deref_mut-inner.ensures.value c.self.invariant in
    let p = place _ _ _ _ _ c.as_slice.ensures.value c.place_of-caller.ensures.within c.place_of-caller.ensures.serves c.index_mut.ensures.value in
    let L = here Lawful g.S.Tickets.meaning _ _ _ seen c.requires.lawful in
    let may = here (λ (m : Meaning) (b : Book). MayDo m b c.args.t c.args.reply (declared_with m c.args.site c.args.values.now)) g.S.Tickets.meaning _ _ _ seen c.requires.may in
    let has = here (λ (m : Meaning) (b : Book). HasSite m c.args.site (length c.args.values.now)) g.S.Tickets.meaning _ _ _ seen c.requires.site in
    let told = after_flight_record _ c.index_mut.result.now c.finish_at-op.new.self c.args.site c.args.values.now has (foresight_at _ _ _ _ _ _ p keeps.each) (done_covered _ _ _ _ _ _ _ _ _ L may p) c.finish_at-op.ensures.finished in
    let grown = events_are _ _ _ c.push_reserved.ensures in
    stays g.S.Tickets.meaning _ _ _ _ seen keeps.script
    (lawful_same _ _ _ (done_shown _ _ _ _ _ _ _ _ _ L may p c.finish_at-op.result c.finish_at-op.ensures.op c.push_reserved.new.self.events c.finish_at-op.new.self grown told)
    (done_lawful _ _ _ _ _ _ _ _ _ L may p c.finish_at-op.result c.finish_at-op.ensures.op))
    (grows_by _ _ _ grown)
