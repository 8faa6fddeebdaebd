-- The final tables of what was served can be written, and their text is the one that is asked.
use Rattle.std.proofs.Common.{◌≡◌, ℕ, zero, suc, ◌+◌, ◌<◌, ◌≤◌, true, List, [], ◌∷◌, length, map, take, get_or, refl, sym, ◌∙◌, ap, subst, arith}
use Rattle.std.specs.List.{AllByRecursion, flat_map}
use Rattle.session_values.specs.Tables.{Tables, kind_of}
use Rattle.session_values.specs.declared.kind.TableKind.{TableKind}
use Rattle.session_values.proofs.Lists.{same_head, same_tail}
use Rattle.session_journal.specs.Opening.{AreApart, Pair, tables_of}
use Rattle.request_files.specs.Mentions.{handler_mentions, table_mentions}
use Rattle.request_files.specs.TableDecl.{TableDecl}
use Rattle.serve_faults.specs.Language.{HasText}
use Rattle.serve_faults.proofs.Facts.{all_first}
use Rattle.request_files.proofs.Fine.{few_tables}
use Rattle.handler_machine.specs.Scripts.{meaning}
use Rattle.shard_tables.specs.declared.part.Part.{Part}
use Rattle.shard_tables.specs.Either.{entries_in}
use Rattle.shard_tables.proofs.Either.{held_is}
use Rattle.session_journal.specs.Script.{session_of}
use Rattle.table_lines.specs.Dumped.{CanDumpAll, CanDumpEach, dump_text}
use Rattle.serve_faults.specs.Printable.{IsPrintableTable}
use Rattle.serve_faults.proofs.PrintableRuns.{tables_hold}
use Rattle.serve_faults.proofs.ToldEvents.{tables_named}
use Rattle.serve_reading.specs.declared.session.Loaded.{Loaded}
use Rattle.serve_single.proofs.EntryLemmas.{entries_printable}
use Rattle.serve_faults.specs.ReadBack.{texts_of}
use Rattle.table_lines.specs.TableText.{table_text, written_table}
use Rattle.serve_single.specs.Serving.{AreServed, CanServe, asked_text, script_of_loaded}
use Rattle.shard_tables.specs.Whole.{container_in, held}
use Rattle.serve_single.specs.Tables.{lists_in}

-- the entries of tables of these kinds make them
tables_whole : (shape : List TableKind) (ps : List Part) → map kind_of (held ps) ≡ shape → tables_of shape (lists_in ps) ≡ held ps
tables_whole [] [] e = refl
tables_whole [] (p ∷ ps) e = cc
tables_whole (k ∷ shape) [] e = cc
tables_whole (k ∷ shape) (p ∷ ps) e =
    let one = held_is p k (same_head (kind_of (container_in p)) k (map kind_of (held ps)) shape e) in
    let more = tables_whole shape ps (same_tail (kind_of (container_in p)) k (map kind_of (held ps)) shape e) in
    λ i. one i ∷ more i

can_each : (names : List (List ℕ)) (ts : List TableDecl) (ps : List Part) → map kind_of (held ps) ≡ map (λ (t : TableDecl). t.kind) ts → AllByRecursion AreApart (lists_in ps) → AllByRecursion (IsPrintableTable names) (held ps) → CanDumpEach names ts (lists_in ps)
can_each names [] [] e apart print = tt
can_each names [] (p ∷ ps) e apart print = cc
can_each names (t ∷ ts) [] e apart print = cc
can_each names (t ∷ ts) (p ∷ ps) e apart print =
    let kinds : List TableKind = map (λ (x : TableDecl). x.kind) ts in
    let kind = same_head (kind_of (container_in p)) t.kind (map kind_of (held ps)) kinds e in (
      record {
        apart = apart.0;
        printable = entries_printable names t.kind (container_in p) (entries_in p) apart.0 (held_is p t.kind kind) print.0;
      },
      can_each names ts ps (same_tail (kind_of (container_in p)) t.kind (map kind_of (held ps)) kinds e) apart.1 print.1,
    )

module _ (l : Loaded) (can : CanServe l) (ps : List Part) (rs : List _) (ts : Tables) (same : held ps ≡ ts) (served : AreServed (meaning (script_of_loaded l)) (meaning (script_of_loaded l)).requests rs ts) where
  done : AreServed (meaning (script_of_loaded l)) (meaning (script_of_loaded l)).requests rs (held ps)
  done = subst (AreServed (meaning (script_of_loaded l)) (meaning (script_of_loaded l)).requests rs) (sym same) served

  -- the final tables can be written
  pub can_write : AllByRecursion AreApart (lists_in ps) → CanDumpAll l.names l.program.file.tables (lists_in ps)
  can_write apart = record {
    few = few_tables l.program.file can.accepted.keeps;
    named = tables_named l.names l.program.file.tables (all_first (HasText l.names) (flat_map table_mentions l.program.file.tables) (flat_map handler_mentions l.program.file.handlers) can.named).0;
    entries = can_each l.names l.program.file.tables ps done.kinds apart
        (subst (AllByRecursion (IsPrintableTable l.names)) (sym done.tables_are) (tables_hold l.names l.program.file l.opening l.requests can.named can.printable_opening can.printable (meaning (script_of_loaded l)).requests));
  }

  -- and their text is the one that is asked
  pub dumped_is : dump_text l.names l.program.file.tables (lists_in ps) ≡ asked_text true l.names l.program.file (session_of (meaning (script_of_loaded l)))
  dumped_is = ap (λ (us : Tables). table_text (texts_of l.names l.program.file.tables) (map (written_table l.names) us)) (tables_whole (map (λ (t : TableDecl). t.kind) l.program.file.tables) ps done.kinds ∙ done.tables_are)

-- ---- table by table
-- what holds of the entries of the first tables, and of the next
pub all_more : (P : List Pair → Type 0) (ps : List Part) (i : ℕ) (p : Part) → i < length ps → p ≡ get_or ps i p → AllByRecursion P (lists_in (take i ps)) → P (entries_in p) → AllByRecursion P (lists_in (take (i + 1) ps))
all_more P ps i p l is h one = subst (λ (n : ℕ). AllByRecursion P (lists_in (take n ps))) (let e : suc i ≡ i + 1 = omega arith in e) (go ps i l is h)
  where
    go : (qs : List Part) (i : ℕ) → i < length qs → p ≡ get_or qs i p → AllByRecursion P (lists_in (take i qs)) → AllByRecursion P (lists_in (take (suc i) qs))
    go [] i l is h = absurd (omega (arith, l))
    go (q ∷ qs) zero l is h = (subst (λ (x : Part). P (entries_in x)) is one, tt)
    go (q ∷ qs) (suc i) l is h = (h.0, go qs i (omega (arith, l)) is h.1)

-- a larger room is enough too
pub more_room : (ess : List (List Pair)) (a b : ℕ) → a ≤ b → AllByRecursion (λ (es : List Pair). length es ≤ a) ess → AllByRecursion (λ (es : List Pair). length es ≤ b) ess
more_room [] a b l h = tt
more_room (es ∷ ess) a b l h = (omega (arith, l, h.0), more_room ess a b l h.1)
