-- Events that are accepted for a session can be written and read back, where each text of its names is a symbol's.
use Rattle.std.proofs.Common.{◌≡◌, ℕ, zero, suc, ◌<◌, true, List, [], ◌∷◌, length, map, Some, slice_get, subst, arith}
use Rattle.std.specs.Prelude.{slice_index}
use Rattle.std.specs.List.{AllByRecursion, flat_map}
use Rattle.std.proofs.lemmas.List.{length-map}
use Rattle.std.proofs.lemmas.Option.{slice_get_within}
use Rattle.session_values.specs.declared.kind.Kind.{Kind}
use Rattle.session_values.specs.declared.op.Op.{Op}
use Rattle.session_values.specs.declared.reply.Reply.{Reply}
use Rattle.session_values.specs.declared.value.Value.{Value}
use Rattle.session_values.specs.Dialogue.{Calls, Answers}
use Rattle.session_values.specs.Kinds.{home}
use Rattle.session_values.specs.Names.{IsNamed}
use Rattle.session_values.specs.Reply.{values_of}
use Rattle.session_values.specs.ReplyText.{IsPrintable}
use Rattle.session_values.specs.Tables.{Fits, Tables}
use Rattle.session_journal.specs.Opening.{Pair}
use Rattle.session_journal.specs.declared.event.Event.{Event}
use Rattle.handler_check.specs.TableDecl.{TableDecl}
use Rattle.handler_check.specs.Mentions.{handler_mentions, table_mentions}
use Rattle.handler_syntax.specs.Language.{File, HasText, HaveTexts, IsNamedFile}
use Rattle.handler_syntax.proofs.Facts.{all_first, name_named}
use Rattle.handler_check.specs.Resolved.{shape_of}
use Rattle.request_files.specs.declared.request.Request.{Request}
use Rattle.request_files.specs.Requests.{ArePrintable}
use Rattle.request_files.specs.Session.{session}
use Rattle.table_lines.specs.TableRows.{ArePrintable as ArePrintableEntries}
use Rattle.request_files.specs.Values.{is_symbol}
use Rattle.session_journal.specs.Accepted.{AreAllowed}
use Rattle.session_journal.specs.Bare.{bare_script}
use Rattle.session_journal.specs.Traces.{HasKnownSymbol}
use Rattle.trace_lines.specs.Bounds.{IsHeldEvent}
use Rattle.trace_lines.specs.EventText.{CanWrite, HasTable}
use Rattle.trace_lines.specs.EventWords.{IsReadableEvent}
use Rattle.trace_lines.proofs.Told.{can_be_told as events_told}
use Rattle.serve_faults.specs.Traced.{CanBeTold, table_places}
use Rattle.serve_faults.proofs.PrintableTables.{Holds, opening_holds, reply_printable, step_holds}
use Rattle.serve_faults.proofs.PrintableRuns.{NextSaid, ticket_prints}

-- the tables of a file have names
pub tables_named : (names : List (List ℕ)) (ts : List TableDecl) → HaveTexts names (flat_map table_mentions ts) → AllByRecursion (λ (t : TableDecl). IsNamed names t.name) ts
tables_named names [] h = tt
tables_named names (t ∷ ts) h = (name_named names t.name h.0, tables_named names ts h.1)

named_at : (names : List (List ℕ)) (ts : List TableDecl) (i : ℕ) → i < length ts → AllByRecursion (λ (t : TableDecl). IsNamed names t.name) ts → IsNamed names (slice_index (map (λ (t : TableDecl). t.name) ts) i)
named_at names [] i l h = absurd (omega (arith, l))
named_at names (t ∷ ts) zero l h = h.0
named_at names (t ∷ ts) (suc i) l h = named_at names ts i (omega (arith, l)) h.1

module _ (names : List (List ℕ)) (file : File) (named : IsNamedFile names file) where
  all_named : AllByRecursion (λ (t : TableDecl). IsNamed names t.name) file.tables
  all_named = tables_named names file.tables (all_first (HasText names) (flat_map table_mentions file.tables) (flat_map handler_mentions file.handlers) named).0

  inside : (kind : Kind) (table : ℕ) → slice_get (shape_of file) table ≡ Some (home kind) → table < length file.tables
  inside kind table e = let l = slice_get_within (shape_of file) table (home kind) e in let long = length-map file.tables (λ (t : TableDecl). t.kind) in omega (arith, l, long)

  has_table : (kind : Kind) (table : ℕ) → slice_get (shape_of file) table ≡ Some (home kind) → HasTable names (table_places file) table
  has_table kind table e = record {
    exists = (let l = inside kind table e in let long = length-map file.tables (λ (t : TableDecl). t.name) in omega (arith, l, long));
    named = named_at names file.tables table (inside kind table e) all_named;
  }

  abbrev IsTold : Event → Type 0
  IsTold e = IsReadableEvent names (table_places file) (shape_of file) e × CanWrite names (table_places file) e

  both : (J : List Event) → AllByRecursion IsTold J → CanBeTold names file J
  both [] h = record { readable = tt; writable = tt }
  both (e ∷ J) h = let more = both J h.1 in record { readable = (h.0.0, more.readable); writable = (h.0.1, more.writable) }

  module _ (symbols : AllByRecursion (λ (t : List ℕ). is_symbol t ≡ true) names) (opened : List (List Pair)) (rs : List Request) (opens : ArePrintableEntries names opened) (requests : ArePrintable names rs)
      (fits : (t : ℕ) (vs : List Value) (op : Op) → (session file opened rs).next t vs ≡ Calls op → Fits (shape_of file) op) where
    calls : (t : ℕ) (vs : List Value) (op : Op) → AllByRecursion (IsPrintable names) vs → (session file opened rs).next t vs ≡ Calls op → IsPrintable names op.key × IsPrintable names op.value
    calls t vs op h e = subst (NextSaid names) e (ticket_prints names file opened rs named opens requests t vs h)

    answers : (t : ℕ) (vs : List Value) (r : Reply) → AllByRecursion (IsPrintable names) vs → (session file opened rs).next t vs ≡ Answers r → AllByRecursion (IsPrintable names) (values_of r)
    answers t vs r h e = subst (NextSaid names) e (ticket_prints names file opened rs named opens requests t vs h)

    pub can_be_told : (J : List Event) → AreAllowed (bare_script (session file opened rs)) [] J → AllByRecursion IsHeldEvent J → AllByRecursion HasKnownSymbol J → CanBeTold names file J
    can_be_told J a h k =
        both J (events_told names symbols (table_places file) (shape_of file) has_table (bare_script (session file opened rs)) (λ (ts : Tables). AllByRecursion (Holds names) ts)
        (opening_holds names (shape_of file) opened opens) (reply_printable names) (step_holds names) fits calls answers J a h k)
