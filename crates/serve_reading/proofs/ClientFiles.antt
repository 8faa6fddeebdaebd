-- Session files whose requests are several clients'.
use Rattle.std.proofs.Common.{◌≡◌, ℕ, zero, suc, ◌+◌, ◌<◌, ◌≤◌, Bool, true, false, cond, eqb, nat_le, List, [], ◌∷◌, ◌++◌, length, length-append, Option, Some, None, refl, sym, ap, ◌∙◌, subst, arith}
use Rattle.std.specs.Prelude.{IsUtf8}
use Rattle.std.specs.Option.{option_or}
use Rattle.std.proofs.lemmas.Bool.{eqb-true}
use Rattle.std.proofs.lemmas.Bool.Decides.{nat_tests}
use Rattle.session_values.specs.Limits.{max_input}
use Rattle.session_values.specs.Opening.{Pair, count_all}
use Rattle.syntax_trees.specs.declared.file.TableDecl.{TableDecl}
use Rattle.request_files.specs.Clients.{AreShared, row_counts, without_marks}
use Rattle.request_files.proofs.ClientSteps.{unmarked_lines}
use Rattle.handler_syntax.specs.Language.{names_of, IsNamedFile}
use Rattle.declaration_insertion.specs.Program.{ProgramView}
use Rattle.table_lines.specs.Opened.{entries_from, opened_by}
use Rattle.table_lines.specs.TableRows.{entries_for, first_table_fault, pair_in, table_fault, table_of}
use Rattle.table_lines.specs.declared.refusal.TableRefusal.{TableRefusal}
use Rattle.request_files.specs.Rows.{Row, rows}
use Rattle.request_files.specs.Text.{Text, lines}
use Rattle.serve_faults.specs.Command.TheVariants.{Clients}
use Rattle.serve_faults.specs.declared.status.Fault.TheVariants as fault
use Rattle.serve_faults.specs.Input.{IsInput, Parts, client_marks, client_parts, clients_fault, is_divided}
use Rattle.serve_reading.specs.declared.load_error.LoadError.{LoadError}
use Rattle.serve_reading.specs.declared.load_error.LoadError.TheVariants.{Refused, NoMemory}
use Rattle.serve_reading.specs.declared.clients.LoadedClients.{LoadedClients}
use Rattle.serve_reading.specs.Clients.{AreClients, joined, joined_parts}
use Rattle.serve_reading.specs.Programs.{IsProgramOf}
use Rattle.serve_reading.specs.Reasons.{IsLinesReason, IsReason, IsSessionReason}
use Rattle.serve_reading.specs.Sessions.{AreOpened}
use Rattle.serve_reading.proofs.Loading.{lines_reason, loaded}

-- ---- few entries: each row is one of one table at most, and rows without a fault are few
module _ (old new : List Text) (tables : List TableDecl) where
  -- a row of a table before these
  row_before : (r : Row) (rs : List Row) (i n : ℕ) → table_of old tables r.name < i → count_all (entries_from old new tables (r ∷ rs) i n) ≤ count_all (entries_from old new tables rs i n)
  unfolding entries_for
  row_before r rs i zero h = omega arith
  row_before r rs i (suc n) h =
      let rest : count_all (entries_from old new tables (r ∷ rs) (i + 1) n) ≤ count_all (entries_from old new tables rs (i + 1) n) = row_before r rs (i + 1) n (omega (arith, h)) in
      by (eqb (table_of old tables r.name) i) refl rest
    where
      apart : (a b : ℕ) → a < b → eqb a b ≡ true → ⊥
      apart a b h e = grind (arith, nat_tests)

      by : (b : Bool) → eqb (table_of old tables r.name) i ≡ b → count_all (entries_from old new tables (r ∷ rs) (i + 1) n) ≤ count_all (entries_from old new tables rs (i + 1) n)
          → length (cond b (pair_in new r ∷ entries_for old new tables rs i) (entries_for old new tables rs i)) + count_all (entries_from old new tables (r ∷ rs) (i + 1) n) ≤ length (entries_for old new tables rs i) + count_all (entries_from old new tables rs (i + 1) n)
      by true e rest = absurd (apart (table_of old tables r.name) i h e)
      by false e rest = omega (arith, rest)

  -- one row more
  row_more : (r : Row) (rs : List Row) (i n : ℕ) → count_all (entries_from old new tables (r ∷ rs) i n) ≤ suc (count_all (entries_from old new tables rs i n))
  unfolding entries_for
  row_more r rs i zero = omega arith
  row_more r rs i (suc n) =
      by (eqb (table_of old tables r.name) i) refl (row_more r rs (i + 1) n) (λ h. row_before r rs (i + 1) n h)
    where
      by : (b : Bool) → eqb (table_of old tables r.name) i ≡ b → count_all (entries_from old new tables (r ∷ rs) (i + 1) n) ≤ suc (count_all (entries_from old new tables rs (i + 1) n))
          → (table_of old tables r.name < i + 1 → count_all (entries_from old new tables (r ∷ rs) (i + 1) n) ≤ count_all (entries_from old new tables rs (i + 1) n))
          → length (cond b (pair_in new r ∷ entries_for old new tables rs i) (entries_for old new tables rs i)) + count_all (entries_from old new tables (r ∷ rs) (i + 1) n) ≤ suc (length (entries_for old new tables rs i) + count_all (entries_from old new tables rs (i + 1) n))
      by true e rest past =
          let same : table_of old tables r.name ≡ i = eqb-true (table_of old tables r.name) i e in
          let few : count_all (entries_from old new tables (r ∷ rs) (i + 1) n) ≤ count_all (entries_from old new tables rs (i + 1) n) = past (omega (arith, same)) in
          omega (arith, few)
      by false e rest past = omega (arith, rest)

  no_rows : (i n : ℕ) → count_all (entries_from old new tables [] i n) ≤ 0
  unfolding entries_for
  no_rows i zero = omega arith
  no_rows i (suc n) = let rest : count_all (entries_from old new tables [] (i + 1) n) ≤ 0 = no_rows (i + 1) n in omega (arith, rest)

  entries_few : (rs : List Row) (i n : ℕ) → count_all (entries_from old new tables rs i n) ≤ length rs
  entries_few [] i n = no_rows i n
  entries_few (r ∷ rs) i n = let rest : count_all (entries_from old new tables rs i n) ≤ length rs = entries_few rs i n in omega (arith, rest, row_more r rs i n)

  -- rows without a fault are 100,000 at most
  none_first : (a b : Option TableRefusal) → option_or a b ≡ None → (a ≡ None) × (b ≡ None)
  none_first None b e = (refl, e)
  none_first (Some x) b e = cc

  room_left : (before : List Row) (r : Row) → table_fault old tables before r ≡ None → length before < 100000
  unfolding table_fault
  room_left before r e = by _ _ (nat_le 100000 (length before)) refl e
    where
      below : (n : ℕ) → nat_le 100000 n ≡ false → n < 100000
      below n e = grind (arith, nat_tests)

      by : (x : TableRefusal) (o : Option TableRefusal) (b : Bool) → nat_le 100000 (length before) ≡ b → cond b (Some x) o ≡ None → length before < 100000
      by x o true q e = cc
      by x o false q e = below (length before) q

  first_of_rows : (before : List Row) (r : Row) (rs : List Row) → first_table_fault old tables before (r ∷ rs) ≡ option_or (table_fault old tables before r) (first_table_fault old tables (before ++ r ∷ []) rs)
  unfolding first_table_fault
  first_of_rows before r rs = refl

  rows_few : (rs before : List Row) → first_table_fault old tables before rs ≡ None → length before ≤ 100000 → length before + length rs ≤ 100000
  rows_few [] before e h = omega (arith, h)
  rows_few (r ∷ rs) before e h =
      let n = none_first (table_fault old tables before r) (first_table_fault old tables (before ++ r ∷ []) rs) (sym (first_of_rows before r rs) ∙ e) in
      let room : length before < 100000 = room_left before r n.0 in
      let longer : length (before ++ r ∷ []) ≡ length before + 1 = length-append before (r ∷ []) in
      let rest : length (before ++ r ∷ []) + length rs ≤ 100000 = rows_few rs (before ++ r ∷ []) n.1 (omega (arith, room, longer)) in
      omega (arith, rest, longer)

-- what opens has 100,000 entries at most
pub opening_few : (old mid : List (List ℕ)) (tables : List TableDecl) (ts : List Row) (opening : List (List Pair)) → first_table_fault old tables [] ts ≡ None → opening ≡ opened_by old mid tables ts → count_all opening ≤ 100000
opening_few old mid tables ts opening fine is =
    let few : 0 + length ts ≤ 100000 = rows_few old mid tables ts [] fine (omega arith) in
    omega (arith, ap count_all is, entries_few old mid tables ts 0 (length tables), few)

-- ---- sessions
-- the lines without the marks are those of the text without them
pub are_clients : (parts : Parts) (l : LoadedClients) (old : List (List ℕ)) → IsProgramOf parts.handlers l.program → old ≡ names_of [] parts.handlers
    → AreOpened old l.names l.program.file (rows parts.first_table (lines parts.tables)) (rows parts.first (without_marks (lines parts.requests))) l.opening l.clients.requests → IsNamedFile old l.program.file
    → l.clients.counts ≡ row_counts (lines parts.requests) → AreShared l.clients → count_all l.opening ≤ 100000 → AreClients parts l
are_clients parts l old program e read named counts shared few = record {
  is_session = loaded (joined_parts parts) (joined l) old program e
      (subst (λ (ls : List Text). AreOpened old l.names l.program.file (rows parts.first_table (lines parts.tables)) (rows parts.first ls) l.opening l.clients.requests) (sym (unmarked_lines parts.requests)) read) named;
  counts_are = counts;
  shared = shared;
  few = few;
}

pub clients_lines : (parts : Parts) (p : ProgramView) (old : List (List ℕ)) (e : LoadError) → IsProgramOf parts.handlers p → old ≡ names_of [] parts.handlers
    → IsLinesReason old p.file (rows parts.first_table (lines parts.tables)) (rows parts.first (without_marks (lines parts.requests))) e → IsSessionReason (joined_parts parts) e
clients_lines parts p old e program is h =
    lines_reason (joined_parts parts) p old e program is
    (subst (λ (ls : List Text). IsLinesReason old p.file (rows parts.first_table (lines parts.tables)) (rows parts.first ls) e) (sym (unmarked_lines parts.requests)) h)

-- ---- inputs
module _ (callers shards : ℕ) (input : List ℕ) (short : length input ≤ max_input) where
  pub clients_bytes : (IsUtf8 input → ⊥) → IsReason (Clients callers shards) input (Refused fault.NotText)
  clients_bytes none = (short, none)

  module _ (utf8 : IsUtf8 input) where
    pub clients_undivided : is_divided input ≡ false → IsReason (Clients callers shards) input (Refused fault.NoRequests)
    clients_undivided none = (short, utf8, ap (λ (b : Bool). clients_fault b (client_marks input)) none)

    too_many : (n : ℕ) → 15 < n → nat_le 16 n ≡ true
    too_many n h = grind (arith, nat_tests)

    few_enough : (n : ℕ) → n ≤ 15 → nat_le 16 n ≡ false
    few_enough n h = grind (arith, nat_tests)

    module _ (divided : is_divided input ≡ true) where
      pub clients_many : 15 < client_marks input → IsReason (Clients callers shards) input (Refused fault.TooManyClients)
      clients_many h = (short, utf8, ap (λ (b : Bool). clients_fault b (client_marks input)) divided ∙ ap (λ (b : Bool). cond b (Some fault.TooManyClients) None) (too_many (client_marks input) h))

      pub clients_input : client_marks input ≤ 15 → IsInput (Clients callers shards) input
      clients_input h = record {
        short = short;
        utf8 = utf8;
        parts = ap (λ (b : Bool). clients_fault b (client_marks input)) divided ∙ ap (λ (b : Bool). cond b (Some fault.TooManyClients) None) (few_enough (client_marks input) h);
      }

-- why the session of all clients is refused is why the input is
pub clients_reason : (callers shards : ℕ) (input : List ℕ) (e : LoadError) → IsInput (Clients callers shards) input → IsSessionReason (client_parts input) e → IsReason (Clients callers shards) input e
clients_reason callers shards input NoMemory i h = tt
clients_reason callers shards input (Refused (fault.Syntax e)) i h = (i, h, refl)
clients_reason callers shards input (Refused (fault.Check e)) i h = (i, h, refl)
clients_reason callers shards input (Refused (fault.Analysis e)) i h = (i, h, refl)
clients_reason callers shards input (Refused (fault.Tables e)) i h = (i, refl, h)
clients_reason callers shards input (Refused (fault.Request e)) i h = (i, refl, h)
clients_reason callers shards input (Refused (fault.Trace e)) i h = absurd h
clients_reason callers shards input (Refused (fault.Ranges e)) i h = absurd h
clients_reason callers shards input (Refused fault.TooLarge) i h = absurd h
clients_reason callers shards input (Refused fault.NotText) i h = absurd h
clients_reason callers shards input (Refused fault.NoRequests) i h = absurd h
clients_reason callers shards input (Refused fault.HasRequests) i h = absurd h
clients_reason callers shards input (Refused fault.NoTrace) i h = absurd h
clients_reason callers shards input (Refused fault.TooManyClients) i h = absurd h
