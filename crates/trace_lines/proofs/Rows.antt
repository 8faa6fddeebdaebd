-- The lines of a trace, one after another.
use Rattle.std.proofs.Common.{◌≡◌, ℕ, ◌+◌, ◌<◌, ◌≤◌, Bool, true, false, cond, nat_le, List, [], ◌∷◌, ◌++◌, length, map, Option, Some, None, Result, Ok, Err, IfOk, OnOk, is_some, refl, sym, ap, ◌∙◌, subst, arith, length-append}
use Rattle.std.proofs.lemmas.Bool.Decides.{nat_tests}
use Rattle.std.specs.Option.{option_or}
use Rattle.session_values.specs.declared.kind.TableKind.{TableKind}
use Rattle.session_values.specs.Names.{Begins}
use Rattle.session_journal.specs.declared.event.Event.{Event}
use Rattle.text_lines.specs.Rows.{Row}
use Rattle.text_lines.specs.Text.{Text}
use Rattle.session_journal.specs.Traces.{TraceView, max_events}
use Rattle.trace_lines.specs.declared.refusal.TraceRefusal.{TraceRefusal}
use Rattle.trace_lines.specs.declared.refusal.TraceRefusal.TheVariants.{BadEvent, TooManyEvents}
use Rattle.trace_lines.specs.EventRows.{AreKnown, IsTrace, event_fault, first_event_fault, names_after, row_event}
use Rattle.trace_lines.specs.EventWords.{event_of}
use Rattle.trace_lines.specs.Pushing.{IsPushed}
use Rattle.trace_lines.proofs.Alike.{event_some, names_kept}

pub known_kept : (old new : List Text) (tables : List ℕ) → Begins old new → AreKnown old tables → AreKnown new tables
known_kept old new [] b k = tt
known_kept old new (t ∷ ts) b k = (omega (arith, k.0, ap (λ (ns : List Text). length ns) b.1, length-append old b.0), known_kept old new ts b k.1)

-- the fault of a line, by whether it is one too many and whether it is an event's
abbrev by_room : Bool → Row → Bool → Option TraceRefusal
by_room full r fine = cond full (Some (TooManyEvents r.line)) (cond fine None (Some (BadEvent r.line)))

module _ (names : List Text) (tables : List ℕ) (shape : List TableKind) where
  pub row_is : (r : Row) → row_event names tables shape r ≡ event_of names tables shape (r.name ∷ r.args)
  unfolding row_event
  row_is r = refl

  -- ---- the fault of a line
  fault_is : (seen : ℕ) (r : Row) → event_fault names tables shape seen r ≡ by_room (nat_le max_events seen) r (is_some (row_event names tables shape r))
  unfolding event_fault
  fault_is seen r = refl

  full_by : (seen : ℕ) → max_events ≤ seen → nat_le max_events seen ≡ true
  full_by seen l = grind (arith, nat_tests, l)

  room_by : (seen : ℕ) → seen < max_events → nat_le max_events seen ≡ false
  room_by seen l = grind (arith, nat_tests, l)

  pub fault_many : (seen : ℕ) (r : Row) → max_events ≤ seen → event_fault names tables shape seen r ≡ Some (TooManyEvents r.line)
  fault_many seen r l = fault_is seen r ∙ ap (λ (b : Bool). by_room b r (is_some (row_event names tables shape r))) (full_by seen l)

  pub fault_bad : (seen : ℕ) (r : Row) → seen < max_events → row_event names tables shape r ≡ None → event_fault names tables shape seen r ≡ Some (BadEvent r.line)
  fault_bad seen r l e = fault_is seen r ∙ ap (λ (b : Bool). by_room b r (is_some (row_event names tables shape r))) (room_by seen l) ∙ ap (λ (o : Option Event). by_room false r (is_some o)) e

  pub fault_none : (seen : ℕ) (r : Row) (x : Event) → seen < max_events → row_event names tables shape r ≡ Some x → event_fault names tables shape seen r ≡ None
  fault_none seen r x l e = fault_is seen r ∙ ap (λ (b : Bool). by_room b r (is_some (row_event names tables shape r))) (room_by seen l) ∙ ap (λ (o : Option Event). by_room false r (is_some o)) e

  -- ---- the first fault
  pub first_nil : (seen : ℕ) → first_event_fault names tables shape seen [] ≡ None
  unfolding first_event_fault
  first_nil seen = refl

  first_is : (seen : ℕ) (r : Row) (rs : List Row) → first_event_fault names tables shape seen (r ∷ rs) ≡ option_or (event_fault names tables shape seen r) (first_event_fault names tables shape (seen + 1) rs)
  unfolding first_event_fault
  first_is seen r rs = refl

  pub first_step : (seen : ℕ) (r : Row) (rs : List Row) → event_fault names tables shape seen r ≡ None → first_event_fault names tables shape seen (r ∷ rs) ≡ first_event_fault names tables shape (seen + 1) rs
  first_step seen r rs e = first_is seen r rs ∙ ap (λ (o : Option TraceRefusal). option_or o (first_event_fault names tables shape (seen + 1) rs)) e

  pub first_stop : (seen : ℕ) (r : Row) (rs : List Row) (x : TraceRefusal) → event_fault names tables shape seen r ≡ Some x → first_event_fault names tables shape seen (r ∷ rs) ≡ Some x
  first_stop seen r rs x e = first_is seen r rs ∙ ap (λ (o : Option TraceRefusal). option_or o (first_event_fault names tables shape (seen + 1) rs)) e

  -- ---- events that are read
  -- of some lines the events were read, and these are left
  pub record Going (rs0 rs : List Row) (t : TraceView) : Type 0 where
    pub same : first_event_fault names tables shape 0 rs0 ≡ first_event_fault names tables shape (length t.events) rs
    pub events : map (row_event names tables shape) rs0 ≡ map (λ (e : Event). Some e) t.events ++ map (row_event names tables shape) rs
    pub lines : map (λ (r : Row). r.line) rs0 ≡ t.lines ++ map (λ (r : Row). r.line) rs

  pub going_start : (rs0 : List Row) (t : TraceView) → t ≡ record { events = []; lines = [] } → Going rs0 rs0 t
  going_start rs0 t e = subst (λ (u : TraceView). Going rs0 rs0 u) (sym e) (record { same = refl; events = refl; lines = refl })

  map_snoc : {X Y : Type 0} (f : X → Y) (xs : List X) (x : X) (ys : List Y) → map f (xs ++ x ∷ []) ++ ys ≡ map f xs ++ f x ∷ ys
  map_snoc f [] x ys = refl
  map_snoc {X} {Y} f (y ∷ xs) x ys = ap (λ (zs : List Y). f y ∷ zs) (map_snoc f xs x ys)

  snoc : {X : Type 0} (xs : List X) (x : X) (ys : List X) → (xs ++ x ∷ []) ++ ys ≡ xs ++ x ∷ ys
  snoc [] x ys = refl
  snoc {X} (y ∷ xs) x ys = ap (λ (zs : List X). y ∷ zs) (snoc xs x ys)

  pub going_turn : (rs0 : List Row) (r : Row) (rs : List Row) (t u : TraceView) → Going rs0 (r ∷ rs) t → event_fault names tables shape (length t.events) r ≡ None → IsPushed names tables shape r t u → Going rs0 rs u
  going_turn rs0 r rs t u g f p = record {
    same =
        g.same ∙ first_step (length t.events) r rs f
        ∙ ap (λ (n : ℕ). first_event_fault names tables shape n rs) (sym (ap (λ (es : List Event). length es) p.events ∙ length-append t.events (p.event ∷ [])));
    events =
        g.events
        ∙ ap (λ (o : Option Event). map (λ (e : Event). Some e) t.events ++ o ∷ map (row_event names tables shape) rs) p.is
        ∙ sym (map_snoc (λ (e : Event). Some e) t.events p.event (map (row_event names tables shape) rs))
        ∙ ap (λ (es : List Event). map (λ (e : Event). Some e) es ++ map (row_event names tables shape) rs) (sym p.events);
    lines = g.lines ∙ sym (snoc t.lines r.line (map (λ (x : Row). x.line) rs)) ∙ ap (λ (ls : List ℕ). ls ++ map (λ (x : Row). x.line) rs) (sym p.lines);
  }

  pub going_stop : (rs0 : List Row) (r : Row) (rs : List Row) (t : TraceView) (x : TraceRefusal) → Going rs0 (r ∷ rs) t → event_fault names tables shape (length t.events) r ≡ Some x → first_event_fault names tables shape 0 rs0 ≡ Some x
  going_stop rs0 r rs t x g f = g.same ∙ first_stop (length t.events) r rs x f

  pub going_end : (rs0 : List Row) (t : TraceView) → Going rs0 [] t → first_event_fault names tables shape 0 rs0 ≡ None
  going_end rs0 t g = g.same ∙ first_nil (length t.events)

  pub fine_pushed : {E : Type 0} (seen : ℕ) (r : Row) (x : Event) (res : Result (Unit {0}) E) → seen < max_events → row_event names tables shape r ≡ Some x → OnOk res (event_fault names tables shape seen r ≡ None)
  fine_pushed seen r x (Ok u) l e = fault_none seen r x l e
  fine_pushed seen r x (Err e) l h = tt

  pub pushed : {E : Type 0} (r : Row) (x : Event) (res : Result (Unit {0}) E) (old new : TraceView) → row_event names tables shape r ≡ Some x → IfOk res (λ _. new ≡ record { events = old.events ++ x ∷ []; lines = old.lines ++ r.line ∷ [] }) → OnOk res (IsPushed names tables shape r old new)
  pushed r x (Ok u) old new is h = record { event = x; is = is; events = ap (λ (t : TraceView). t.events) h; lines = ap (λ (t : TraceView). t.lines) h }
  pushed r x (Err e) old new is h = tt

-- an event that lines have with more names too is pushed with these
pub pushed_later : {E : Type 0} (names : List Text) (tables : List ℕ) (shape : List TableKind) (r : Row) (x : Event) (res : Result (Unit {0}) E) (old new : TraceView)
    → ((later : List Text) → Begins names later → row_event later tables shape r ≡ Some x)
    → IfOk res (λ _. new ≡ record { events = old.events ++ x ∷ []; lines = old.lines ++ r.line ∷ [] })
    → OnOk res ((later : List Text) → Begins names later → IsPushed later tables shape r old new)
pushed_later {E} names tables shape r x (Ok u) old new is h = λ later le. pushed later tables shape {E = E} r x (Ok u) old new (is later le) h
pushed_later names tables shape r x (Err e) old new is h = tt

-- ---- more names
module _ (old new : List Text) (tables : List ℕ) (shape : List TableKind) (b : Begins old new) (k : AreKnown old tables) where
  -- the fault of a line
  pub row_fault_kept : (seen : ℕ) (r : Row) → event_fault old tables shape seen r ≡ event_fault new tables shape seen r
  row_fault_kept seen r =
      let same = names_kept old new tables b k in
      let some : is_some (row_event old tables shape r) ≡ is_some (row_event new tables shape r) = ap (λ (o : Option Event). is_some o) (row_is old tables shape r) ∙ event_some old new tables shape same (r.name ∷ r.args) ∙ ap (λ (o : Option Event). is_some o) (sym (row_is new tables shape r)) in
      fault_is old tables shape seen r ∙ ap (λ (s : Bool). by_room (nat_le max_events seen) r s) some ∙ sym (fault_is new tables shape seen r)

  pub fault_kept : (seen : ℕ) (rs : List Row) → first_event_fault old tables shape seen rs ≡ first_event_fault new tables shape seen rs
  fault_kept seen [] = first_nil old tables shape seen ∙ sym (first_nil new tables shape seen)
  fault_kept seen (r ∷ rs) =
      first_is old tables shape seen r rs
      ∙ ap (λ (o : Option TraceRefusal). option_or o (first_event_fault old tables shape (seen + 1) rs)) (row_fault_kept seen r)
      ∙ ap (option_or (event_fault new tables shape seen r)) (fault_kept (seen + 1) rs)
      ∙ sym (first_is new tables shape seen r rs)

-- what is read with the names behind all lines is a trace
pub is_trace : {E : Type 0} (old new : List Text) (tables : List ℕ) (shape : List TableKind) (rs : List Row) (r : Result TraceView E)
    → IfOk r (λ _. new ≡ names_after old rs)
    → IfOk r (λ _. first_event_fault old tables shape 0 rs ≡ None)
    → IfOk r (λ t. map (row_event new tables shape) rs ≡ map (λ (e : Event). Some e) t.events)
    → IfOk r (λ t. t.lines ≡ map (λ (x : Row). x.line) rs)
    → IfOk r (IsTrace old new tables shape rs)
is_trace old new tables shape rs (Ok t) names fine events lines = record {
  fine = fine;
  names = names;
  events = events;
  lines = lines;
}
is_trace old new tables shape rs (Err e) names fine events lines = tt
