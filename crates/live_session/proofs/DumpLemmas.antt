-- The tables of a session can be written, and their text is the one that is asked.
use Rattle.std.proofs.Common.{◌≡◌, ℕ, zero, suc, ◌+◌, ◌<◌, ◌≤◌, List, [], ◌∷◌, length, map, take, get_or, refl, sym, ◌∙◌, ap, subst, arith}
use Rattle.std.specs.List.{AllByRecursion, flat_map}
use Rattle.session_values.specs.Tables.{Tables, kind_of}
use Rattle.session_values.specs.declared.kind.TableKind.{TableKind}
use Rattle.session_values.proofs.Lists.{same_head, same_tail}
use Rattle.session_values.specs.Opening.{AreApart, Pair, tables_of}
use Rattle.handler_check.specs.Mentions.{file_mentions, handler_mentions, table_mentions}
use Rattle.handler_check.specs.TableDecl.{TableDecl}
use Rattle.serve_faults.specs.Language.{HasText, IsNamedFile}
use Rattle.serve_faults.proofs.Facts.{all_first}
use Rattle.serve_reading.proofs.TextsKept.{texts_kept}
use Rattle.handler_check.proofs.Fine.{few_tables}
use Rattle.handler_check.specs.Resolved.{shape_of}
use Rattle.serve_faults.specs.ReadBack.{texts_of}
use Rattle.table_lines.specs.TableText.{table_text, written_table}
use Rattle.shard_tables.specs.declared.part.Part.{Part}
use Rattle.shard_tables.specs.Either.{entries_in}
use Rattle.shard_tables.proofs.Either.{held_is}
use Rattle.table_lines.specs.Dumped.{CanDumpAll, CanDumpEach, dump_text}
use Rattle.serve_faults.specs.Printable.{IsPrintableTable}
use Rattle.serve_faults.proofs.ToldEvents.{tables_named}
use Rattle.live_session.specs.Held.{container_in, held, lists_in}
use Rattle.live_session.specs.Live.{IsLive, LiveView, dump_of}
use Rattle.live_session.proofs.EntriesPrinted.{entries_printed}

-- the entries of tables of these kinds make them
pub tables_whole : (shape : List TableKind) (ps : List Part) → map kind_of (held ps) ≡ shape → tables_of shape (lists_in ps) ≡ held ps
tables_whole [] [] e = refl
tables_whole [] (p ∷ ps) e = cc
tables_whole (k ∷ shape) [] e = cc
tables_whole (k ∷ shape) (p ∷ ps) e =
    let one = held_is p k (same_head (kind_of (container_in p)) k (map kind_of (held ps)) shape e) in
    let more = tables_whole shape ps (same_tail (kind_of (container_in p)) k (map kind_of (held ps)) shape e) in
    λ i. one i ∷ more i

can_each : (names : List (List ℕ)) (ts : List TableDecl) (ps : List Part) → map kind_of (held ps) ≡ map (λ (t : TableDecl). t.kind) ts → AllByRecursion AreApart (lists_in ps) → AllByRecursion (IsPrintableTable names) (held ps) → CanDumpEach names ts (lists_in ps)
can_each names [] [] e apart print = tt
can_each names [] (p ∷ ps) e apart print = cc
can_each names (t ∷ ts) [] e apart print = cc
can_each names (t ∷ ts) (p ∷ ps) e apart print =
    let kinds : List TableKind = map (λ (x : TableDecl). x.kind) ts in
    let kind = same_head (kind_of (container_in p)) t.kind (map kind_of (held ps)) kinds e in (
      record {
        apart = apart.0;
        printable = entries_printed names t.kind (container_in p) (entries_in p) apart.0 (held_is p t.kind kind) print.0;
      },
      can_each names ts ps (same_tail (kind_of (container_in p)) t.kind (map kind_of (held ps)) kinds e) apart.1 print.1,
    )

module _ (v : LiveView) (live : IsLive v) (ps : List Part) (is : held ps ≡ v.tables) (kinds : map kind_of (held ps) ≡ shape_of v.file) where
  named : IsNamedFile v.names v.file
  named = texts_kept v.first_names v.names live.begins (file_mentions v.file) live.named

  tables_print : AllByRecursion (IsPrintableTable v.names) (held ps)
  tables_print = subst (AllByRecursion (IsPrintableTable v.names)) (sym is) live.prints

  -- the tables can be written
  pub can_write : AllByRecursion AreApart (lists_in ps) → CanDumpAll v.names v.file.tables (lists_in ps)
  can_write apart = record {
    few = few_tables v.file live.accepted.keeps;
    named = tables_named v.names v.file.tables (all_first (HasText v.names) (flat_map table_mentions v.file.tables) (flat_map handler_mentions v.file.handlers) named).0;
    entries = can_each v.names v.file.tables ps kinds apart tables_print;
  }

  -- and their text is the one that is asked
  pub dumped_is : dump_text v.names v.file.tables (lists_in ps) ≡ dump_of v
  dumped_is = ap (λ (ts : Tables). table_text (texts_of v.names v.file.tables) (map (written_table v.names) ts)) (tables_whole (map (λ (t : TableDecl). t.kind) v.file.tables) ps kinds ∙ is)

-- ---- table by table
-- what holds of the entries of the first tables, and of the next
pub all_more : (P : List Pair → Type 0) (ps : List Part) (i : ℕ) (p : Part) → i < length ps → p ≡ get_or ps i p → AllByRecursion P (lists_in (take i ps)) → P (entries_in p) → AllByRecursion P (lists_in (take (i + 1) ps))
all_more P ps i p l is h one = subst (λ (n : ℕ). AllByRecursion P (lists_in (take n ps))) (let e : suc i ≡ i + 1 = omega arith in e) (go ps i l is h)
  where
    go : (qs : List Part) (i : ℕ) → i < length qs → p ≡ get_or qs i p → AllByRecursion P (lists_in (take i qs)) → AllByRecursion P (lists_in (take (suc i) qs))
    go [] i l is h = absurd (omega (arith, l))
    go (q ∷ qs) zero l is h = (subst (λ (x : Part). P (entries_in x)) is one, tt)
    go (q ∷ qs) (suc i) l is h = (h.0, go qs i (omega (arith, l)) is h.1)

-- a larger room is enough too
pub more_room : (ess : List (List Pair)) (a b : ℕ) → a ≤ b → AllByRecursion (λ (es : List Pair). length es ≤ a) ess → AllByRecursion (λ (es : List Pair). length es ≤ b) ess
more_room [] a b l h = tt
more_room (es ∷ ess) a b l h = (omega (arith, l, h.0), more_room ess a b l h.1)
