-- The events of a closed hall are accepted, and can be told with the names of its session.
use Rattle.std.proofs.Common.{◌≡◌, ℕ, ◌≤◌, true, List, [], length, sym, ap, ◌∙◌, subst, arith}
use Rattle.std.specs.List.{AllByRecursion}
use Rattle.session_values.specs.Limits.{max_callers}
use Rattle.session_values.specs.Serial.{Session}
use Rattle.session_values.specs.Tables.{Fits}
use Rattle.session_journal.specs.Opening.{Pair}
use Rattle.session_journal.specs.Script.{Meaning, session_of}
use Rattle.session_hall.specs.Closings.{ClosedView, IsDone}
use Rattle.serve_faults.specs.Language.{File, IsNamedFile}
use Rattle.request_files.specs.declared.request.Request.{Request}
use Rattle.request_files.specs.Requests.{ArePrintable}
use Rattle.request_files.specs.Session.{session}
use Rattle.serve_faults.specs.TableRows.{ArePrintable as ArePrintableEntries}
use Rattle.request_files.specs.Values.{is_symbol}
use Rattle.session_journal.specs.Accepted.{Accepted, HaveEnded}
use Rattle.session_journal.specs.Bare.{bare_script}
use Rattle.session_journal.specs.Traces.{HasKnownSymbol}
use Rattle.session_journal.proofs.Bare.{accepted as bare_accepted}
use Rattle.trace_audit.proofs.FromBook.{accepted as from_book}
use Rattle.trace_lines.specs.Bounds.{IsHeldEvent}
use Rattle.trace_lines.proofs.Told.{known_symbols}
use Rattle.serve_faults.specs.Traced.{CanBeTold}
use Rattle.serve_faults.proofs.ToldEvents.{can_be_told}

-- ---- what a closed hall served is accepted

pub accepted_done : (m : Meaning) (d : ClosedView) → IsDone m d → d.callers ≤ max_callers → Accepted (bare_script (session_of m)) d.journal
accepted_done m d done few =
    let ends : HaveEnded m.requests done.book.journal = subst (HaveEnded m.requests) done.journal_is done.all_ended in
    let all : Accepted m done.book.journal = from_book m done.book done.lawful (omega (arith, done.callers_are, few)) ends in
    bare_accepted m d.journal (subst (Accepted m) (sym done.journal_is) all)

pub told_events : (names : List (List ℕ)) (file : File) (opened : List (List Pair)) (rs : List Request) → AllByRecursion (λ (t : List ℕ). is_symbol t ≡ true) names → IsNamedFile names file → ArePrintableEntries names opened → ArePrintable names rs
    → (m : Meaning) → session_of m ≡ session file opened rs → (d : ClosedView) → IsDone m d → d.callers ≤ max_callers → AllByRecursion IsHeldEvent d.journal → CanBeTold names file d.journal
told_events names file opened rs symbols named opens prints m is d done few held =
    can_be_told names file named symbols opened rs opens prints
    (λ t vs op e. subst (λ (z : Session). Fits z.shape op) is (done.script_kept.fits t vs op (ap (λ (z : Session). z.next t vs) is ∙ e)))
    d.journal
    (subst (λ (z : Session). Accepted (bare_script z) d.journal) is (accepted_done m d done few)).allowed
    held
    (subst (AllByRecursion HasKnownSymbol) (sym done.journal_is) (known_symbols m (length done.book.records) [] done.book.journal done.lawful.turns))
