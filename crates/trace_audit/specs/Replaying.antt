-- Replaying the entries of tickets. Only this crate's own functions cite it.
use Rattle.std.specs.Prelude.{◌≡◌, ℕ, ◌+◌, ◌<◌, List, [], ◌∷◌, ◌++◌, Option, Some, None, Bool, MatchOption, length, slice_get, take}
use Rattle.std.specs.Bool.{MatchBool}
use Rattle.std.specs.List.{AllByRecursion}
use Rattle.session_values.specs.declared.kind.TableKind.{TableKind}
use Rattle.session_values.specs.Dialogue.{Entry}
use Rattle.session_values.specs.Kinds.{home}
use Rattle.session_values.specs.Tables.{Tables}
use Rattle.session_journal.specs.Journal.{Replays, run}
use Rattle.session_journal.specs.declared.verdict.Verdict.{Verdict}
use Rattle.session_journal.specs.declared.verdict.Verdict.TheVariants.{Accepted as IsFine, Event as AtEvent, Ticket as AtTicket}
use Rattle.trace_audit.specs.Desk.{ReplayView}

-- each operation fits tables of these kinds
abbrev pub EntriesFit : List TableKind → List Entry → Type 0
EntriesFit shape es = AllByRecursion (λ e. slice_get shape e.op.table ≡ Some (home e.op.kind)) es

abbrev pub AllFit : List TableKind → List ReplayView → Type 0
AllFit shape rs = AllByRecursion (λ x. EntriesFit shape x.entries) rs

-- the entries replay, and the tables are those after them; or they don't replay
abbrev pub Replayed : Tables → List Entry → Bool → Tables → Type 0
Replayed old es took new = MatchBool took (Replays old es × (new ≡ run old es)) (Replays old es → ⊥)

-- the entries of these tickets, one ticket after another
abbrev pub joined : List ReplayView → List Entry
joined [] = []
joined (x ∷ rs) = x.entries ++ joined rs

-- all tickets' entries replay, or those before this one do, and with its own they don't
abbrev pub FindsUnreplayed : Tables → List ReplayView → Option ℕ → Type 0
FindsUnreplayed ts rs found = MatchOption found (Replays ts (joined rs))
    (λ t. (t < length rs) × Replays ts (joined (take t rs))
    × (Replays ts (joined (take (t + 1) rs)) → ⊥))

-- ---- the verdict on the tickets
-- each entry fits tables of these kinds, and the tickets are counted in 32 bits
pub record TicketsFit (shape : List TableKind) (rs : List ReplayView) : Type 0 where
  pub fit : AllFit shape rs
  pub few : length rs < 4294967296

-- accepted where all tickets' entries replay from these tables, else the first ticket whose don't
abbrev pub TicketsJudged : Tables → List ReplayView → Verdict → Type 0
TicketsJudged ts rs IsFine = FindsUnreplayed ts rs None
TicketsJudged ts rs (AtTicket rule t) = (rule ≡ 6) × FindsUnreplayed ts rs (Some t)
TicketsJudged ts rs (AtEvent rule at) = ⊥
