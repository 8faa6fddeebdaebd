use Rattle.std.proofs.Common.{◌≡◌, Some, refl, ap}
use Rattle.session_journal.specs.Script.{Meaning}
use Rattle.admission_book.specs.declared.admission.Admission.{Admission}
use Rattle.admission_book.specs.declared.admission.Admission.TheVariants.{Admitted, Delayed}
use Rattle.admission_book.specs.declared.caller_record.CallerRecord.{CallerRecord}
use Rattle.admission_book.specs.Book.{Book}
use Rattle.admission_book.specs.Lawful.{Lawful}
use Rattle.admission_book.specs.Methods.{MayAdmit, Admits, IsOldestOpen}
use Rattle.admission_book.proofs.Inside.{view_lent, keeps_lent}
use Rattle.admission_book.proofs.Shown.{events_are, here, there, leaves, lawful_same, place, keeps_with, from_same}
use Rattle.admission_book.proofs.Stays.{grows_none, grows_unless, stays}
use Rattle.admission_book.proofs.Admits.{free_here, blocker_here, never_oldest, admit_lawful, admitted, admit_shown, admit_keeps, blocker, delay_lawful, delay_room, delay_shown, delayed, delay_keeps, delay_count}
use Rattle.admission_book.proofs.book.Book.admit.Goals as goal

pub invariant_of-self : goal.invariant_of-self
invariant_of-self g c =
    let seen = view_lent g.S.Tickets.meaning _ _ _ c.deref_mut-inner.ensures.value c.self.view_is in
    let keeps = keeps_lent g.S.Tickets.meaning _ _ c.deref_mut-inner.ensures.value c.self.invariant in
    let p = place _ _ _ _ _ c.as_slice.ensures.value c.place_of-caller.ensures.within c.place_of-caller.ensures.serves c.index_mut.ensures.value in
    let L = here Lawful g.S.Tickets.meaning _ _ _ seen c.requires.lawful in
    let may = here (λ (m : Meaning) (b : Book). MayAdmit m b c.args.t c.args.op) g.S.Tickets.meaning _ _ _ seen c.requires.may in
    keeps_with _ _ _ _ _ c.deref_mut-inner.result.now.journal c.deref_mut-inner.result.now.journal _ _ _ _ _ keeps refl keeps.counted refl (admit_keeps _ _ _ _ _ _ _ _ L may p c.launch.new.self c.launch.ensures keeps.each)
    (from_same _ _ _ c.launch.new.self p.within keeps.from _ p.is (ap (λ (r : CallerRecord). r.ticket) c.launch.ensures)) keeps.is_begun

pub returns-in_default-clause-admits : goal.returns-in_default-clause-admits
returns-in_default-clause-admits g c =
    let seen = view_lent g.S.Tickets.meaning _ _ _ c.deref_mut-inner.ensures.value c.self.view_is in
    let p = place _ _ _ _ _ c.as_slice.ensures.value c.place_of-caller.ensures.within c.place_of-caller.ensures.serves c.index_mut.ensures.value in
    let L = here Lawful g.S.Tickets.meaning _ _ _ seen c.requires.lawful in
    let may = here (λ (m : Meaning) (b : Book). MayAdmit m b c.args.t c.args.op) g.S.Tickets.meaning _ _ _ seen c.requires.may in
    let free = free_here (g.S.Tickets.meaning c.deref_mut-inner.result.now.script) c.deref_mut-inner.result.now.journal.events c.deref_mut-inner.result.now.kept _ _ _ _ _ c.as_slice-records.ensures.value c.in_default.is c.least_against.ensures in
    leaves (λ (b d : Book). Admits b c.args.t c.args.op Admitted d) _ _ _ _ _ seen (admit_shown _ _ _ _ _ _ _ _ L may p c.launch.new.self c.launch.ensures) (admitted _ _ _ _ _ _ _ _ L may p free)

pub returns-in_default-clause-stays : goal.returns-in_default-clause-stays
returns-in_default-clause-stays g c =
    let seen = view_lent g.S.Tickets.meaning _ _ _ c.deref_mut-inner.ensures.value c.self.view_is in
    let keeps = keeps_lent g.S.Tickets.meaning _ _ c.deref_mut-inner.ensures.value c.self.invariant in
    let p = place _ _ _ _ _ c.as_slice.ensures.value c.place_of-caller.ensures.within c.place_of-caller.ensures.serves c.index_mut.ensures.value in
    let L = here Lawful g.S.Tickets.meaning _ _ _ seen c.requires.lawful in
    let may = here (λ (m : Meaning) (b : Book). MayAdmit m b c.args.t c.args.op) g.S.Tickets.meaning _ _ _ seen c.requires.may in
    let free = free_here (g.S.Tickets.meaning c.deref_mut-inner.result.now.script) c.deref_mut-inner.result.now.journal.events c.deref_mut-inner.result.now.kept _ _ _ _ _ c.as_slice-records.ensures.value c.in_default.is c.least_against.ensures in
    stays g.S.Tickets.meaning _ _ _ _ seen keeps.script
    (lawful_same _ _ _ (admit_shown _ _ _ _ _ _ _ _ L may p c.launch.new.self c.launch.ensures) (admit_lawful _ _ _ _ _ _ _ _ L may p free))
    (grows_none _)

pub note_delay-requires : goal.note_delay-requires
note_delay-requires g c =
    let seen = view_lent g.S.Tickets.meaning _ _ _ c.deref_mut-inner.ensures.value c.self.view_is in
    let keeps = keeps_lent g.S.Tickets.meaning _ _ c.deref_mut-inner.ensures.value c.self.invariant in
    let p = place _ _ _ _ _ c.as_slice.ensures.value c.place_of-caller.ensures.within c.place_of-caller.ensures.serves c.index_mut-2.ensures.value in
    let L = here Lawful g.S.Tickets.meaning _ _ _ seen c.requires.lawful in
    let may = here (λ (m : Meaning) (b : Book). MayAdmit m b c.args.t c.args.op) g.S.Tickets.meaning _ _ _ seen c.requires.may in
    let found = blocker_here (g.S.Tickets.meaning c.deref_mut-inner.result.now.script) _ _ _ _ _ c.in-Some.b c.as_slice-records.ensures.value c.in-Some.is c.least_against.ensures in
    delay_room _ _ _ _ _ _ _ _ L may p c.in-Some.b.older c.in-Some.b.symbol found keeps.each _ keeps.script keeps.events

pub invariant_of-self-2 : goal.invariant_of-self-2
invariant_of-self-2 g c =
    let seen = view_lent g.S.Tickets.meaning _ _ _ c.deref_mut-inner.ensures.value c.self.view_is in
    let keeps = keeps_lent g.S.Tickets.meaning _ _ c.deref_mut-inner.ensures.value c.self.invariant in
    let p = place _ _ _ _ _ c.as_slice.ensures.value c.place_of-caller.ensures.within c.place_of-caller.ensures.serves c.index_mut-2.ensures.value in
    let L = here Lawful g.S.Tickets.meaning _ _ _ seen c.requires.lawful in
    let may = here (λ (m : Meaning) (b : Book). MayAdmit m b c.args.t c.args.op) g.S.Tickets.meaning _ _ _ seen c.requires.may in
    let found = blocker_here (g.S.Tickets.meaning c.deref_mut-inner.result.now.script) _ _ _ _ _ c.in-Some.b c.as_slice-records.ensures.value c.in-Some.is c.least_against.ensures in
    keeps_with _ _ _ _ _ c.deref_mut-inner.result.now.journal c.note_delay.new.journal _ _ _ _ _ keeps c.note_delay.ensures.journal (delay_count _ _ _ _ _ _ _ _ L may p c.in-Some.b.older c.in-Some.b.symbol found keeps.each _ keeps.counted) refl
    (delay_keeps _ _ _ _ _ _ _ _ L may p c.in-Some.b.older c.in-Some.b.symbol found keeps.each c.note_delay.new.r c.note_delay.ensures.noted)
    (from_same _ _ _ c.note_delay.new.r p.within keeps.from _ p.is (ap (λ (r : CallerRecord). r.ticket) c.note_delay.ensures.noted)) keeps.is_begun

pub returns-clause-admits : goal.returns-clause-admits
returns-clause-admits g c =
    let seen = view_lent g.S.Tickets.meaning _ _ _ c.deref_mut-inner.ensures.value c.self.view_is in
    let keeps = keeps_lent g.S.Tickets.meaning _ _ c.deref_mut-inner.ensures.value c.self.invariant in
    let p = place _ _ _ _ _ c.as_slice.ensures.value c.place_of-caller.ensures.within c.place_of-caller.ensures.serves c.index_mut-2.ensures.value in
    let L = here Lawful g.S.Tickets.meaning _ _ _ seen c.requires.lawful in
    let may = here (λ (m : Meaning) (b : Book). MayAdmit m b c.args.t c.args.op) g.S.Tickets.meaning _ _ _ seen c.requires.may in
    let found = blocker_here (g.S.Tickets.meaning c.deref_mut-inner.result.now.script) _ _ _ _ _ c.in-Some.b c.as_slice-records.ensures.value c.in-Some.is c.least_against.ensures in
    let grown = events_are _ _ _ c.note_delay.ensures.journal in
    leaves (λ (b d : Book). Admits b c.args.t c.args.op (Delayed c.in-Some.b.older c.in-Some.b.symbol) d) _ _ _ _ _ seen
    (delay_shown _ _ _ _ _ _ _ _ L may p c.in-Some.b.older c.in-Some.b.symbol found keeps.each c.note_delay.new.journal.events c.note_delay.new.r grown c.note_delay.ensures.noted) (delayed _ _ _ _ _ _ _ _ L may p c.in-Some.b.older c.in-Some.b.symbol found keeps.each)

pub returns-clause-oldest : goal.returns-clause-oldest
returns-clause-oldest g c =
    let seen = view_lent g.S.Tickets.meaning _ _ _ c.deref_mut-inner.ensures.value c.self.view_is in
    let keeps = keeps_lent g.S.Tickets.meaning _ _ c.deref_mut-inner.ensures.value c.self.invariant in
    let p = place _ _ _ _ _ c.as_slice.ensures.value c.place_of-caller.ensures.within c.place_of-caller.ensures.serves c.index_mut-2.ensures.value in
    let L = here Lawful g.S.Tickets.meaning _ _ _ seen c.requires.lawful in
    let may = here (λ (m : Meaning) (b : Book). MayAdmit m b c.args.t c.args.op) g.S.Tickets.meaning _ _ _ seen c.requires.may in
    let found = blocker_here (g.S.Tickets.meaning c.deref_mut-inner.result.now.script) _ _ _ _ _ c.in-Some.b c.as_slice-records.ensures.value c.in-Some.is c.least_against.ensures in
    there (λ (m : Meaning) (b : Book). IsOldestOpen (Some c.args.t) b.journal → ◌≡◌ {A = Admission} (Delayed c.in-Some.b.older c.in-Some.b.symbol) Admitted) g.S.Tickets.meaning _ _ _ seen
    (never_oldest _ _ c.args.t c.args.op _ _ L (blocker _ _ _ _ _ _ _ _ L may p c.in-Some.b.older c.in-Some.b.symbol found keeps.each))

pub returns-clause-stays : goal.returns-clause-stays
returns-clause-stays g c =
    let seen = view_lent g.S.Tickets.meaning _ _ _ c.deref_mut-inner.ensures.value c.self.view_is in
    let keeps = keeps_lent g.S.Tickets.meaning _ _ c.deref_mut-inner.ensures.value c.self.invariant in
    let p = place _ _ _ _ _ c.as_slice.ensures.value c.place_of-caller.ensures.within c.place_of-caller.ensures.serves c.index_mut-2.ensures.value in
    let L = here Lawful g.S.Tickets.meaning _ _ _ seen c.requires.lawful in
    let may = here (λ (m : Meaning) (b : Book). MayAdmit m b c.args.t c.args.op) g.S.Tickets.meaning _ _ _ seen c.requires.may in
    let found = blocker_here (g.S.Tickets.meaning c.deref_mut-inner.result.now.script) _ _ _ _ _ c.in-Some.b c.as_slice-records.ensures.value c.in-Some.is c.least_against.ensures in
    let grown = events_are _ _ _ c.note_delay.ensures.journal in
    stays g.S.Tickets.meaning _ _ _ _ seen keeps.script
    (lawful_same _ _ _ (delay_shown _ _ _ _ _ _ _ _ L may p c.in-Some.b.older c.in-Some.b.symbol found keeps.each c.note_delay.new.journal.events c.note_delay.new.r grown c.note_delay.ensures.noted) (delay_lawful _ _ _ _ _ _ _ _ L may p c.in-Some.b.older c.in-Some.b.symbol found keeps.each))
    (grows_unless _ _ _ _ grown)
