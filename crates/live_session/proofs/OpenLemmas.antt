-- What is loaded of a session file without requests, as a session.
use Rattle.std.proofs.Common.{◌≡◌, ◌≢◌, ℕ, ◌<◌, ◌≤◌, List, [], ◌∷◌, length, map, None, Result, Ok, Err, IfOk, IfErr, refl, sym, ◌∙◌, ap, subst, arith}
use Rattle.std.proofs.lemmas.List.{length-map}
use Rattle.std.specs.List.{AllByRecursion}
use Rattle.std.specs.Result.{IsErrAnd}
use Rattle.session_values.specs.Limits.{max_variables}
use Rattle.session_values.specs.Tables.{Tables, kind_of}
use Rattle.session_values.specs.declared.kind.TableKind.{TableKind}
use Rattle.session_values.specs.Opening.{tables_of}
use Rattle.session_values.proofs.Filling.{entries_length}
use Rattle.session_values.proofs.Openings.{opening_kinds}
use Rattle.handler_check.specs.Resolved.{shape_of}
use Rattle.text_lines.specs.Rows.{Row, names_behind, rows}
use Rattle.text_lines.specs.Text.{Text}
use Rattle.text_lines.proofs.RowLemmas.{behind_nil, rows_nil}
use Rattle.request_files.specs.declared.request.Request.{Request}
use Rattle.request_files.specs.Requests.{request_of}
use Rattle.shard_tables.specs.declared.part.Part.{Part}
use Rattle.shard_tables.specs.Slots.{factor_of}
use Rattle.serve_faults.specs.Input.{Parts, parts_of}
use Rattle.serve_faults.specs.Session.{all_names_of, opening_names_of, rows_of}
use Rattle.serve_faults.specs.declared.status.Fault.{Fault}
use Rattle.serve_faults.specs.declared.status.Fault.TheVariants as fault
use Rattle.serve_reading.specs.declared.session.Loaded.{Loaded}
use Rattle.serve_reading.specs.declared.load_error.LoadError.{LoadError}
use Rattle.serve_reading.specs.declared.load_error.LoadError.TheVariants as load_error
use Rattle.serve_reading.specs.Reasons.{IsInputReason}
use Rattle.serve_reading.specs.Sessions.{AreHandlersFirst, IsLoaded, IsSessionInput}
use Rattle.serve_reading.proofs.Loading.{as_program}
use Rattle.session_values.proofs.Named.{begins_same}
use Rattle.serve_faults.proofs.PrintableTables.{opening_holds}
use Rattle.declaration_insertion.specs.Program.{IsProgram}
use Rattle.driven_tickets.specs.Desk.{TicketsView}
use Rattle.live_session.specs.declared.history.History.{History}
use Rattle.live_session.specs.declared.opening.OpenError.{OpenError}
use Rattle.live_session.specs.declared.opening.OpenError.TheVariants as unopened
use Rattle.live_session.specs.Held.{AreAdds, container_in, held}
use Rattle.live_session.specs.Live.{IsKept, IsLive, LiveView}
use Rattle.live_session.specs.Openings.{CanOpen, HasOpened, IsFileOf, IsMade, IsUnmade, IsUnopened, first_view, seeded, unopened_by}
use Rattle.live_session.specs.Served.{AreServed, line_fault}
use Rattle.live_session.proofs.Lines.{handlers_known}

-- the factor of each table is the seed's
all_seeded : (seed : ℕ) (ts : Tables) → AllByRecursion (λ (n : ℕ). n ≡ factor_of seed) (seeded seed ts)
all_seeded seed [] = tt
all_seeded seed (t ∷ ts) = (refl, all_seeded seed ts)

-- ---- no line was served
first_live : (l : Loaded) (seed most : ℕ) → IsProgram l.program → CanOpen l most → IsLive (first_view l seed most)
first_live l seed most program can =
    let v : LiveView = first_view l seed most in
    let none : rows 0 [] ≡ [] = rows_nil 0 in
    record {
      program = program;
      accepted = can.accepted;
      opens = can.opens.entries;
      named = can.named;
      known = can.known;
      handlers_below = can.handlers_below;
      handlers_first = can.handlers_first;
      printable = can.printable;
      fine = subst (λ (rs : List Row). AllByRecursion (λ (r : Row). line_fault l.names l.program.file r ≡ None) rs) (sym none) tt;
      begins = begins_same l.names;
      few = can.few;
      prints = opening_holds l.names (shape_of l.program.file) l.opening can.printable;
      seeded = all_seeded seed v.tables;
      desk = record { ascending = omega arith; run = refl };
      names_are = λ alone. sym (ap (names_behind l.names) none ∙ behind_nil l.names);
      served = λ alone. subst (λ (rs : List Row). AreServed l.program.file v.tables (map (request_of l.names l.names l.program.file) rs) [] v.tables) (sym none) refl;
    }

-- a history that begins
abbrev begun : Loaded → List Text → History
begun l names = record { opened = l.opening; first_names = names; driven = 0; lines = []; replies = [] }

-- no ticket was open yet
abbrev none_open : TicketsView
none_open = record { next = 0; tickets = []; acts = [] }

-- what is seen of a session over this file, with this history
abbrev seen : Loaded → (seed most : ℕ) → List Text → Tables → List ℕ → TicketsView → History → LiveView
seen l seed most names ts fs k h = record {
  file = l.program.file;
  lists = l.program.lists;
  opened = h.opened;
  first_names = h.first_names;
  handler_names = l.handler_names;
  most_names = most;
  names = names;
  tables = ts;
  seed = seed;
  factors = fs;
  generation = 0;
  tickets = k;
  driven = h.driven;
  lines = h.lines;
  replies = h.replies;
}

-- the same names, tables as they open and a history that begins are seen so
pub seen_first : (l : Loaded) (seed most : ℕ) (names : List Text) (ts : Tables) (fs : List ℕ) (k : TicketsView) (h : History) → names ≡ l.names → ts ≡ tables_of (shape_of l.program.file) l.opening → fs ≡ seeded seed ts → k ≡ none_open → h ≡ begun l names → seen l seed most names ts fs k h ≡ first_view l seed most
seen_first l seed most names ts fs k h same is factors none begins =
    (λ i. seen l seed most names ts (factors i) (none i) (begins i)) ∙ (λ i. seen l seed most (same i) (is i) (seeded seed (is i)) none_open (begun l (same i)))

pub live_made : (l : Loaded) (seed most : ℕ) → IsProgram l.program → CanOpen l most → (names : List Text) (ts : Tables) (fs : List ℕ) (k : TicketsView) (h : History) → names ≡ l.names → ts ≡ tables_of (shape_of l.program.file) l.opening → fs ≡ seeded seed ts → k ≡ none_open → h ≡ begun l names → IsLive (seen l seed most names ts fs k h)
live_made l seed most program can names ts fs k h same is factors none begins =
    subst IsLive (sym (seen_first l seed most names ts fs k h same is factors none begins)) (first_live l seed most program can)

-- ---- what is made of what was loaded
module _ (l : Loaded) (most : ℕ) (can : CanOpen l most) where
  abbrev shape : List TableKind
  shape = shape_of l.program.file

  -- there is a list of entries for each table
  pub lists_long : length l.opening ≡ length shape
  lists_long = entries_length shape l.opening can.opens.entries

  -- tables that are filled so are kept, with the bounds of all handlers
  pub kept : (adds : List (List ℕ)) (ps : List Part) (capacity : ℕ) → AreAdds l.program.file (length shape) adds → held ps ≡ tables_of shape l.opening → max_variables ≤ capacity → most ≤ 4000000000 → IsKept l.program.file most adds ps capacity
  kept adds ps capacity bounds is room few =
      let kinds : map kind_of (held ps) ≡ shape = ap (map kind_of) is ∙ opening_kinds shape l.opening in
      let long : length ps ≡ length shape =
      sym (length-map ps container_in) ∙ sym (length-map (held ps) kind_of) ∙ ap (λ (ks : List TableKind). length ks) kinds in
      record {
        kinds = kinds;
        adds_are = subst (λ (n : ℕ). AreAdds l.program.file n adds) (sym long) bounds;
        args = room;
        most_few = few;
      }

-- ---- what was loaded
map_none : {X Y : Type 0} (g : X → Y) (xs : List X) → length (map g xs) ≡ 0 → xs ≡ []
map_none g [] e = refl
map_none g (x ∷ xs) e = absurd (omega (arith, e))

module _ (text : Text) (l : Loaded) (input : IsSessionInput text) (is : IsLoaded (parts_of text) l) (first : AreHandlersFirst (parts_of text) l) where
  abbrev parts : Parts
  parts = parts_of text

  file_of : IsFileOf text l.program.file
  file_of = record { input = input; is_session = record { program = as_program parts.handlers l.program is.program_of; tables = is.tables_fine; requests = is.fine } }

  pub can_open : (most : ℕ) → length l.names ≤ most → CanOpen l most
  can_open most few = record {
    accepted = (as_program parts.handlers l.program is.program_of).accepted;
    opens = is.opens;
    handlers_below = first.handlers_below;
    handlers_first = first.handlers_first;
    named = is.named;
    known = handlers_known l.names l.program.file is.named;
    printable = is.printable_opening;
    few = few;
  }

  bare_of : length l.requests ≡ 0 → rows_of parts ≡ []
  bare_of e = map_none (request_of (opening_names_of parts) (all_names_of parts) l.program.file) (rows_of parts) (sym (ap (λ (rs : List Request). length rs) is.requests_are) ∙ e)

  has_requests : 0 < length l.requests → rows_of parts ≢ []
  has_requests some none =
      let long : length l.requests ≡ 0 = ap (λ (rs : List Request). length rs) is.requests_are ∙ ap (λ (rs : List Row). length (map (request_of (opening_names_of parts) (all_names_of parts) l.program.file) rs)) none in
      omega (arith, some, long)

  many_names : (most : ℕ) → most < length l.names → most < length (all_names_of parts)
  many_names most h = subst (λ (ns : List Text). most < length ns) is.names_are h

  opened : (seed most : ℕ) (s : LiveView) → length l.requests ≡ 0 → s ≡ first_view l seed most → HasOpened text seed most s
  opened seed most s none e =
      let bare = bare_of none in
      subst (HasOpened text seed most) (sym e) (record {
        input = input;
        is_session = file_of.is_session;
        bare = bare;
        opened_are = is.opening_is;
        first_are = is.names_are ∙ ap (names_behind (opening_names_of parts)) bare ∙ behind_nil (opening_names_of parts);
        names_are = refl;
        handlers_are = first.handlers_are;
        most_is = refl;
        tables_are = refl;
        seed_is = refl;
        factors_are = refl;
        first_generation = refl;
        no_tickets = refl;
        none_driven = refl;
        no_lines = refl;
        no_replies = refl;
      })

  pub unmade : (most : ℕ) (e : OpenError) → IsUnmade l most e → IsUnopened text most e
  unmade most (unopened.Refused e) h = absurd h
  unmade most unopened.HasRequests h = (l.program.file, file_of, has_requests h)
  unmade most unopened.TooManyNames h = (l.program.file, file_of, many_names most h)
  unmade most unopened.NoMemory h = tt

  pub all_made : (seed most : ℕ) (r : Result LiveView OpenError) → IfOk r (IsMade l seed most) → IfOk r (HasOpened text seed most)
  all_made seed most (Ok s) h = opened seed most s h.0 h.1
  all_made seed most (Err e) h = tt

  pub none_made : (most : ℕ) (r : Result LiveView OpenError) → IfErr r (IsUnmade l most) → IfErr r (IsUnopened text most)
  none_made most (Ok s) h = tt
  none_made most (Err e) h = unmade most e h

-- the rule that a text breaks
refused : (text : Text) (most : ℕ) (e : Fault) → IsInputReason text (load_error.Refused e) → IsUnopened text most (unopened.Refused e)
refused text most fault.TooLarge h = absurd h
refused text most fault.NoRequests h = h
refused text most fault.HasRequests h = h
refused text most fault.NotText h = h
refused text most fault.NoTrace h = h
refused text most fault.TooManyClients h = h
refused text most (fault.Syntax x) h = h
refused text most (fault.Check x) h = h
refused text most (fault.Analysis x) h = h
refused text most (fault.Tables x) h = h
refused text most (fault.Request x) h = h
refused text most (fault.Trace x) h = h
refused text most (fault.Ranges x) h = h

-- why nothing is opened
not_loaded : (text : Text) (most : ℕ) (why : LoadError) → IsInputReason text why → IsUnopened text most (unopened_by why)
not_loaded text most (load_error.Refused e) h = refused text most e h
not_loaded text most load_error.NoMemory h = tt

-- the same at a `?`
pub exit_unopened : {T : Type 0} (text : Text) (most : ℕ) (why : LoadError) (r : Result T OpenError) → IsErrAnd r (λ (e : OpenError). e ≡ unopened_by why) → IsInputReason text why → IfErr r (IsUnopened text most)
exit_unopened text most why (Ok s) a h = absurd a
exit_unopened text most why (Err e) a h = subst (IsUnopened text most) (sym a) (not_loaded text most why h)
