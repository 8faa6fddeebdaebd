use Rattle.std.proofs.Common.{length, ◌∙◌, ap, subst, sym}
use Rattle.std.proofs.lemmas.List.{length-set}
use Rattle.session_journal.specs.Script.{Meaning}
use Rattle.admission_book.specs.Book.{Book}
use Rattle.admission_book.specs.Lawful.{Lawful}
use Rattle.admission_book.specs.declared.caller_record.CallerRecord.{CallerRecord}
use Rattle.admission_book.specs.Kept.{AreFrom}
use Rattle.admission_book.specs.Methods.{MayEnd, HasEnded}
use Rattle.admission_book.proofs.Inside.{view_lent, keeps_lent}
use Rattle.admission_book.proofs.Shown.{events_are, here, leaves, lawful_same, place, keeps_with, room_for, from_none}
use Rattle.admission_book.proofs.Stays.{grows_by, stays}
use Rattle.admission_book.proofs.Ends.{end_within, end_lawful, end_shown, ended_so, end_keeps, end_count}
use Rattle.admission_book.proofs.book.Book.end.Goals as goal

pub next_oldest-inner-requires-clause-from : goal.next_oldest-inner-requires-clause-from
next_oldest-inner-requires-clause-from g c =
    let keeps = keeps_lent g.S.Tickets.meaning _ _ c.deref_mut-inner.ensures.value c.self.invariant in
    let p = place _ _ _ _ _ c.as_slice.ensures.value c.place_of-caller.ensures.within c.place_of-caller.ensures.serves c.index_mut.ensures.value in
    subst (AreFrom _) (sym c.as_slice-2.ensures.value) (from_none _ _ _ c.end.new.self p.within keeps.from (ap (λ (r : CallerRecord). r.ticket) c.end.ensures))

pub next_oldest-inner-requires-clause-begun : goal.next_oldest-inner-requires-clause-begun
next_oldest-inner-requires-clause-begun g c =
    (keeps_lent g.S.Tickets.meaning _ _ c.deref_mut-inner.ensures.value c.self.invariant).is_begun

pub push_reserved-requires : goal.push_reserved-requires
push_reserved-requires g c =
    let seen = view_lent g.S.Tickets.meaning _ _ _ c.deref_mut-inner.ensures.value c.self.view_is in
    let keeps = keeps_lent g.S.Tickets.meaning _ _ c.deref_mut-inner.ensures.value c.self.invariant in
    let p = place _ _ _ _ _ c.as_slice.ensures.value c.place_of-caller.ensures.within c.place_of-caller.ensures.serves c.index_mut.ensures.value in
    let L = here Lawful g.S.Tickets.meaning _ _ _ seen c.requires.lawful in
    let may = here (λ (m : Meaning) (b : Book). MayEnd m b c.args.t c.args.reply) g.S.Tickets.meaning _ _ _ seen c.requires.may in
    room_for _ _ _ _ _ _ keeps.script keeps.events (end_lawful _ _ _ _ _ _ _ _ L may p keeps.one_each)

pub keep-requires : goal.keep-requires
keep-requires g c =
    let seen = view_lent g.S.Tickets.meaning _ _ _ c.deref_mut-inner.ensures.value c.self.view_is in
    let keeps = keeps_lent g.S.Tickets.meaning _ _ c.deref_mut-inner.ensures.value c.self.invariant in
    let p = place _ _ _ _ _ c.as_slice.ensures.value c.place_of-caller.ensures.within c.place_of-caller.ensures.serves c.index_mut.ensures.value in
    let L = here Lawful g.S.Tickets.meaning _ _ _ seen c.requires.lawful in
    let may = here (λ (m : Meaning) (b : Book). MayEnd m b c.args.t c.args.reply) g.S.Tickets.meaning _ _ _ seen c.requires.may in
    end_within _ _ _ _ _ _ _ _ L may p keeps.one_each

pub invariant_of-self : goal.invariant_of-self
invariant_of-self g c =
    let seen = view_lent g.S.Tickets.meaning _ _ _ c.deref_mut-inner.ensures.value c.self.view_is in
    let keeps = keeps_lent g.S.Tickets.meaning _ _ c.deref_mut-inner.ensures.value c.self.invariant in
    let p = place _ _ _ _ _ c.as_slice.ensures.value c.place_of-caller.ensures.within c.place_of-caller.ensures.serves c.index_mut.ensures.value in
    let L = here Lawful g.S.Tickets.meaning _ _ _ seen c.requires.lawful in
    let may = here (λ (m : Meaning) (b : Book). MayEnd m b c.args.t c.args.reply) g.S.Tickets.meaning _ _ _ seen c.requires.may in
    keeps_with _ _ _ _ _ c.deref_mut-inner.result.now.journal c.push_reserved.new.self _ _ _ _ _ keeps c.push_reserved.ensures
    (end_count _ _ _ _ _ _ _ _ L may p keeps.one_each _ keeps.counted) (ap length c.keep.ensures ∙ length-set c.deref_mut-inner.result.now.kept c.args.t _)
    (end_keeps _ _ _ _ _ _ _ _ L may p keeps.one_each c.end.new.self c.end.ensures keeps.each)
    (subst (AreFrom c.next_oldest-inner.result) c.as_slice-2.ensures.value c.next_oldest-inner.ensures.from) c.next_oldest-inner.ensures.begun

pub returns-clause-ended : goal.returns-clause-ended
returns-clause-ended g c =
    let seen = view_lent g.S.Tickets.meaning _ _ _ c.deref_mut-inner.ensures.value c.self.view_is in
    let keeps = keeps_lent g.S.Tickets.meaning _ _ c.deref_mut-inner.ensures.value c.self.invariant in
    let p = place _ _ _ _ _ c.as_slice.ensures.value c.place_of-caller.ensures.within c.place_of-caller.ensures.serves c.index_mut.ensures.value in
    let L = here Lawful g.S.Tickets.meaning _ _ _ seen c.requires.lawful in
    let may = here (λ (m : Meaning) (b : Book). MayEnd m b c.args.t c.args.reply) g.S.Tickets.meaning _ _ _ seen c.requires.may in
    let grown = events_are _ _ _ c.push_reserved.ensures in
    leaves (λ (b d : Book). HasEnded b c.args.t c.args.reply d) _ _ _ _ _ seen
    (end_shown _ _ _ _ _ _ _ _ L may p keeps.one_each c.push_reserved.new.self.events c.keep.new.self c.end.new.self grown c.keep.ensures c.end.ensures)
    (ended_so _ _ _ _ _ _ _ _ L may p keeps.one_each)

pub returns-clause-stays : goal.returns-clause-stays
returns-clause-stays g c =
    let seen = view_lent g.S.Tickets.meaning _ _ _ c.deref_mut-inner.ensures.value c.self.view_is in
    let keeps = keeps_lent g.S.Tickets.meaning _ _ c.deref_mut-inner.ensures.value c.self.invariant in
    let p = place _ _ _ _ _ c.as_slice.ensures.value c.place_of-caller.ensures.within c.place_of-caller.ensures.serves c.index_mut.ensures.value in
    let L = here Lawful g.S.Tickets.meaning _ _ _ seen c.requires.lawful in
    let may = here (λ (m : Meaning) (b : Book). MayEnd m b c.args.t c.args.reply) g.S.Tickets.meaning _ _ _ seen c.requires.may in
    let grown = events_are _ _ _ c.push_reserved.ensures in
    stays g.S.Tickets.meaning _ _ _ _ seen keeps.script
    (lawful_same _ _ _ (end_shown _ _ _ _ _ _ _ _ L may p keeps.one_each c.push_reserved.new.self.events c.keep.new.self c.end.new.self grown c.keep.ensures c.end.ensures)
    (end_lawful _ _ _ _ _ _ _ _ L may p keeps.one_each))
    (grows_by _ _ _ grown)
