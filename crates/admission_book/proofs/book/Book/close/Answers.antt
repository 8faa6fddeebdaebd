use Rattle.std.proofs.Common.{◌≡◌, refl, ℕ, ◌<◌}
use Rattle.std.specs.Option.{IsSome}
use Rattle.session_values.specs.Serial.{serial_replies, tables_before}
use Rattle.session_journal.specs.Journal.{after, ended}
use Rattle.session_journal.specs.Script.{Meaning, session_of}
use Rattle.admission_book.specs.Book.{Book}
use Rattle.admission_book.specs.Lawful.{Lawful}
use Rattle.admission_book.proofs.Inside.{view_lent, keeps_lent}
use Rattle.admission_book.proofs.Shown.{here, there}
use Rattle.admission_book.proofs.Replies.{kept_some, tables_serial, replies_serial}
use Rattle.admission_book.proofs.book.Book.close.Goals as goal

pub all-requires : goal.all-requires
all-requires g c =
    let seen = view_lent g.S.Tickets.meaning _ _ _ c.into_inner-journal.ensures c.self.view_is in
    let keeps = keeps_lent g.S.Tickets.meaning _ _ c.into_inner-journal.ensures c.self.invariant in
    let L = here Lawful g.S.Tickets.meaning _ _ _ seen c.requires.lawful in
    let done = here (λ (m : Meaning) (b : Book). (t : ℕ) → t < m.requests → IsSome (ended b.journal t)) g.S.Tickets.meaning _ _ _ seen c.requires.ended in
    kept_some _ _ keeps.script L done c.into_inner-journal.result.kept refl keeps.one_each

pub returns-clause-tables : goal.returns-clause-tables
returns-clause-tables g c =
    let seen = view_lent g.S.Tickets.meaning _ _ _ c.into_inner-journal.ensures c.self.view_is in
    let keeps = keeps_lent g.S.Tickets.meaning _ _ c.into_inner-journal.ensures c.self.invariant in
    let L = here Lawful g.S.Tickets.meaning _ _ _ seen c.requires.lawful in
    let done = here (λ (m : Meaning) (b : Book). (t : ℕ) → t < m.requests → IsSome (ended b.journal t)) g.S.Tickets.meaning _ _ _ seen c.requires.ended in
    there (λ (m : Meaning) (b : Book). after m.opening c.into_inner-journal.result.journal.events ≡ tables_before (session_of m) m.requests) g.S.Tickets.meaning _ _ _ seen (tables_serial _ _ keeps.script L done)

pub returns-clause-serial : goal.returns-clause-serial
returns-clause-serial g c =
    let seen = view_lent g.S.Tickets.meaning _ _ _ c.into_inner-journal.ensures c.self.view_is in
    let keeps = keeps_lent g.S.Tickets.meaning _ _ c.into_inner-journal.ensures c.self.invariant in
    let L = here Lawful g.S.Tickets.meaning _ _ _ seen c.requires.lawful in
    let done = here (λ (m : Meaning) (b : Book). (t : ℕ) → t < m.requests → IsSome (ended b.journal t)) g.S.Tickets.meaning _ _ _ seen c.requires.ended in
    there (λ (m : Meaning) (b : Book). c.all.result ≡ serial_replies (session_of m) m.requests) g.S.Tickets.meaning _ _ _ seen
    (replies_serial _ _ keeps.script L done c.all.result c.all.ensures keeps.one_each)
