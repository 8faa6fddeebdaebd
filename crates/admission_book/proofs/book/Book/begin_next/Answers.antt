use Rattle.std.proofs.Common.{◌≡◌, ◌<◌, ℕ, None, Some, false, length, refl, ap, subst, arith}
use Rattle.session_journal.specs.Journal.{begun}
use Rattle.session_journal.specs.Script.{Meaning}
use Rattle.admission_book.specs.Book.{Book, record_of}
use Rattle.admission_book.specs.CallerRecord.{IsRecord}
use Rattle.admission_book.specs.Lawful.{Lawful}
use Rattle.admission_book.specs.declared.caller_record.CallerRecord.{CallerRecord}
use Rattle.admission_book.specs.Methods.{Begins}
use Rattle.admission_book.proofs.Inside.{view_lent, keeps_lent, stays_lent}
use Rattle.admission_book.proofs.Shown.{events_are, here, leaves_of, lawful_same, record_here, keeps_with, room_for, from_younger}
use Rattle.admission_book.proofs.Stays.{grows_by, stays, stays_same}
use Rattle.admission_book.proofs.Begins.{begin_lawful, begin_shown, begin_keeps, begin_count, begins, within, may_begin_next}
use Rattle.admission_book.proofs.book.Book.begin_next.Goals as goal

pub invariant_of-self : goal.invariant_of-self
invariant_of-self g c = keeps_lent g.S.Tickets.meaning _ _ c.deref_mut-inner.ensures.value c.self.invariant

pub returns-then-inner-requests-clause-stays : goal.returns-then-inner-requests-clause-stays
returns-then-inner-requests-clause-stays g c =
    stays_lent g.S.Tickets.meaning _ _ c.deref_mut-inner.ensures.value c.args.self.now c.self.view_is (stays_same g.S.Tickets.meaning _ _ _ c.self.view_is c.self.invariant.script c.requires.lawful)

pub push_reserved-requires : goal.push_reserved-requires
push_reserved-requires g c =
    let seen = view_lent g.S.Tickets.meaning _ _ _ c.deref_mut-inner.ensures.value c.self.view_is in
    let keeps = keeps_lent g.S.Tickets.meaning _ _ c.deref_mut-inner.ensures.value c.self.invariant in
    let L = here Lawful g.S.Tickets.meaning _ _ _ seen c.requires.lawful in
    let may = may_begin_next _ _ c.args.caller keeps.script (here (λ (m : Meaning) (b : Book). (c.args.caller < length b.records) × (record_of b c.args.caller ≡ None)) g.S.Tickets.meaning _ _ _ seen (c.requires.caller, c.requires.idle)) in
    let left : c.deref_mut-inner.result.now.begun < (g.S.Tickets.meaning c.deref_mut-inner.result.now.script).requests = omega (arith, c.requests.ensures.requests, c.if-inner-requests.false) in
    room_for _ _ _ _ _ _ keeps.script keeps.events (begin_lawful _ _ _ _ _ _ _ L may left keeps.counted)

pub begin_entry-requires-clause-ticket : goal.begin_entry-requires-clause-ticket
begin_entry-requires-clause-ticket g c = omega (arith, c.requests.ensures.requests, c.if-inner-requests.false)

pub begin_entry-requires-clause-room : goal.begin_entry-requires-clause-room
begin_entry-requires-clause-room g c =
    let seen = view_lent g.S.Tickets.meaning _ _ _ c.deref_mut-inner.ensures.value c.self.view_is in
    let keeps = keeps_lent g.S.Tickets.meaning _ _ c.deref_mut-inner.ensures.value c.self.invariant in
    let L = here Lawful g.S.Tickets.meaning _ _ _ seen c.requires.lawful in
    let may = may_begin_next _ _ c.args.caller keeps.script (here (λ (m : Meaning) (b : Book). (c.args.caller < length b.records) × (record_of b c.args.caller ≡ None)) g.S.Tickets.meaning _ _ _ seen (c.requires.caller, c.requires.idle)) in
    let left : c.deref_mut-inner.result.now.begun < (g.S.Tickets.meaning c.deref_mut-inner.result.now.script).requests = omega (arith, c.requests.ensures.requests, c.if-inner-requests.false) in
    let is = record_here _ _ _ (within _ _ _ _ _ _ _ L may left keeps.counted) c.index_mut.ensures.value in
    omega (arith, (keeps.each c.args.caller).foresight.room, ap (λ (r : CallerRecord). r.foresight.list.room) is)

pub invariant_of-self-2 : goal.invariant_of-self-2
invariant_of-self-2 g c =
    let seen = view_lent g.S.Tickets.meaning _ _ _ c.deref_mut-inner.ensures.value c.self.view_is in
    let keeps = keeps_lent g.S.Tickets.meaning _ _ c.deref_mut-inner.ensures.value c.self.invariant in
    let L = here Lawful g.S.Tickets.meaning _ _ _ seen c.requires.lawful in
    let may = may_begin_next _ _ c.args.caller keeps.script (here (λ (m : Meaning) (b : Book). (c.args.caller < length b.records) × (record_of b c.args.caller ≡ None)) g.S.Tickets.meaning _ _ _ seen (c.requires.caller, c.requires.idle)) in
    let left : c.deref_mut-inner.result.now.begun < (g.S.Tickets.meaning c.deref_mut-inner.result.now.script).requests = omega (arith, c.requests.ensures.requests, c.if-inner-requests.false) in
    keeps_with _ _ _ _ _ c.deref_mut-inner.result.now.journal c.push_reserved.new.self _ _ _ _ _ keeps c.push_reserved.ensures (begin_count _ _ _ _ _ _ _ L may left keeps.counted) refl
    (begin_keeps _ _ _ _ _ _ _ L may left keeps.counted c.begin_entry.new.self (subst (λ (n : ℕ). IsRecord (g.S.Tickets.meaning c.deref_mut-inner.result.now.script) c.begin_entry.new.self (Some c.deref_mut-inner.result.now.begun) ((g.S.Tickets.meaning c.deref_mut-inner.result.now.script).entry n) None false) keeps.counted c.begin_entry.ensures) keeps.each)
    (from_younger _ _ _ c.begin_entry.new.self (within _ _ _ _ _ _ _ L may left keeps.counted) keeps.from _ keeps.is_begun c.begin_entry.ensures.ticket) (omega (arith, keeps.is_begun))

pub returns-clause-begins : goal.returns-clause-begins
returns-clause-begins g c =
    let seen = view_lent g.S.Tickets.meaning _ _ _ c.deref_mut-inner.ensures.value c.self.view_is in
    let keeps = keeps_lent g.S.Tickets.meaning _ _ c.deref_mut-inner.ensures.value c.self.invariant in
    let L = here Lawful g.S.Tickets.meaning _ _ _ seen c.requires.lawful in
    let may = may_begin_next _ _ c.args.caller keeps.script (here (λ (m : Meaning) (b : Book). (c.args.caller < length b.records) × (record_of b c.args.caller ≡ None)) g.S.Tickets.meaning _ _ _ seen (c.requires.caller, c.requires.idle)) in
    let left : c.deref_mut-inner.result.now.begun < (g.S.Tickets.meaning c.deref_mut-inner.result.now.script).requests = omega (arith, c.requests.ensures.requests, c.if-inner-requests.false) in
    let grown = events_are _ _ _ c.push_reserved.ensures in
    leaves_of (λ (m : Meaning) (b d : Book). Begins m b c.args.caller (m.entry (begun b.journal)) (Some c.deref_mut-inner.result.now.begun) d) g.S.Tickets.meaning _ _ _ _ _ seen
    (begin_shown _ _ _ _ _ _ _ L may left keeps.counted c.push_reserved.new.self.events c.begin_entry.new.self grown (subst (λ (n : ℕ). IsRecord (g.S.Tickets.meaning c.deref_mut-inner.result.now.script) c.begin_entry.new.self (Some c.deref_mut-inner.result.now.begun) ((g.S.Tickets.meaning c.deref_mut-inner.result.now.script).entry n) None false) keeps.counted c.begin_entry.ensures)) (begins _ _ _ _ _ _ _ L may left keeps.counted)

pub returns-clause-stays : goal.returns-clause-stays
returns-clause-stays g c =
    let seen = view_lent g.S.Tickets.meaning _ _ _ c.deref_mut-inner.ensures.value c.self.view_is in
    let keeps = keeps_lent g.S.Tickets.meaning _ _ c.deref_mut-inner.ensures.value c.self.invariant in
    let L = here Lawful g.S.Tickets.meaning _ _ _ seen c.requires.lawful in
    let may = may_begin_next _ _ c.args.caller keeps.script (here (λ (m : Meaning) (b : Book). (c.args.caller < length b.records) × (record_of b c.args.caller ≡ None)) g.S.Tickets.meaning _ _ _ seen (c.requires.caller, c.requires.idle)) in
    let left : c.deref_mut-inner.result.now.begun < (g.S.Tickets.meaning c.deref_mut-inner.result.now.script).requests = omega (arith, c.requests.ensures.requests, c.if-inner-requests.false) in
    let grown = events_are _ _ _ c.push_reserved.ensures in
    stays g.S.Tickets.meaning _ _ _ _ seen keeps.script
    (lawful_same _ _ _ (begin_shown _ _ _ _ _ _ _ L may left keeps.counted c.push_reserved.new.self.events c.begin_entry.new.self grown (subst (λ (n : ℕ). IsRecord (g.S.Tickets.meaning c.deref_mut-inner.result.now.script) c.begin_entry.new.self (Some c.deref_mut-inner.result.now.begun) ((g.S.Tickets.meaning c.deref_mut-inner.result.now.script).entry n) None false) keeps.counted c.begin_entry.ensures)) (begin_lawful _ _ _ _ _ _ _ L may left keeps.counted))
    (grows_by _ _ _ grown)
