-- A handler that runs on tables with room for all keys that it may add runs as it does alone.
use Rattle.std.proofs.Common.{◌≡◌, ℕ, ◌+◌, ◌<◌, ◌≤◌, ◌==◌, ◌&&◌, Bool, true, false, if◌then◌else◌, List, [], ◌∷◌, ◌++◌, length, Some, refl, sym, ◌∙◌, ap, subst, append-nil, arith}
use Rattle.std.proofs.lemmas.List.{length-map}
use Rattle.std.specs.List.{AllByRecursion}
use Rattle.session_values.specs.Values.{IsValue}
use Rattle.session_values.specs.declared.reply.Reply.{Reply}
use Rattle.session_values.specs.Dialogue.{Dialogue, Entry}
use Rattle.session_values.specs.Kinds.{is_adding}
use Rattle.session_values.specs.Serial.{serve}
use Rattle.session_values.specs.Tables.{Tables, size_of, table}
use Rattle.session_values.proofs.Sizes.{one_if, step_few}
use Rattle.session_journal.specs.Journal.{Replays, run}
use Rattle.session_journal.proofs.Serial.{GoesOn, goes_on}
use Rattle.handler_check.specs.Bounds.{adding, calls_bound, weight_of}
use Rattle.handler_check.specs.Code.{Code}
use Rattle.handler_check.specs.Dialogue.{Env, next}
use Rattle.handler_check.proofs.Bounded.{counted, ends_by}
use Rattle.handler_machine.specs.Asking.{Runs, Steps}
use Rattle.shard_tables.specs.declared.part.Part.{Part}
use Rattle.shard_tables.specs.Either.{shard_view}
use Rattle.live_session.specs.Held.{HasRoom, HaveRoomFor, LiveStep, factors_in, held, room_at, rooms}
use Rattle.live_session.specs.declared.tables.LiveTables.{LiveTables}

abbrev parts : LiveTables → List Part
parts a = a.parts.items

-- each table has room for all keys that these entries add
abbrev Fits : LiveTables → List Entry → Type 0
Fits a es = (t : ℕ) → t < length (parts a) → size_of (table (held (parts a)) t) + weight_of (adding t) es ≤ room_at (parts a) t

same_self : (n : ℕ) → (n == n) ≡ true
same_self n = search arith

counts_one : (b c : Bool) → b ≡ true → c ≡ true → ◌≡◌ {A = ℕ} (if b && c then 1 else 0) 1
counts_one true true p q = refl
counts_one true false p q = cc
counts_one false c p q = cc

same_bit : (b : Bool) → one_if b ≡ (if b then 1 else 0)
same_bit true = refl
same_bit false = refl

has_room : (a : LiveTables) (e : Entry) (es : List Entry) → Fits a (e ∷ es) → HasRoom (parts a) e.op
has_room a e es h adds low =
    let all = h e.op.table low in
    let one : ◌≡◌ {A = ℕ} (if is_adding e.op.kind && e.op.table == e.op.table then 1 else 0) 1 = counts_one (is_adding e.op.kind) (e.op.table == e.op.table) adds (same_self e.op.table) in
    omega (arith, all, one)

as_long : (ps qs : List Part) → rooms qs ≡ rooms ps → length qs ≡ length ps
as_long ps qs e = sym (length-map qs (λ (p : Part). (shard_view p).room)) ∙ ap (λ (l : List ℕ). length l) e ∙ length-map ps (λ (p : Part). (shard_view p).room)

fits_on : (a b : LiveTables) (e : Entry) (es : List Entry) → Fits a (e ∷ es) → held (parts b) ≡ Rattle.session_values.specs.Tables.step (held (parts a)) e.op → rooms (parts b) ≡ rooms (parts a) → Fits b es
fits_on a b e es h is same t low =
    let here = h t (subst (λ (n : ℕ). t < n) (as_long (parts a) (parts b) same) low) in
    let few = step_few (held (parts a)) e.op t in
    let size : size_of (table (held (parts b)) t) ≡ size_of (table (Rattle.session_values.specs.Tables.step (held (parts a)) e.op) t) = ap (λ (ts : Tables). size_of (table ts t)) is in
    let room : room_at (parts b) t ≡ room_at (parts a) t = ap (λ (l : List ℕ). Rattle.std.specs.Prelude.slice_index_or l t 0) same in
    let bit = same_bit (is_adding e.op.kind && e.op.table == t) in
    omega (arith, here, few, size, room, bit)

-- each operation is done
steps_done : (es : List Entry) (a b : LiveTables) → Steps LiveStep a es b → Fits a es → Replays (held (parts a)) es × (held (parts b) ≡ run (held (parts a)) es)
steps_done [] a b s h = (tt, ap (λ (x : LiveTables). held (parts x)) s)
steps_done (e ∷ es) a b s h =
    let one = s.1.0 (has_room a e es h) in
    let more = steps_done es s.0 b s.2 (fits_on a s.0 e es h one.1 s.1.1) in
    let P : Tables → Type 0 = λ ts. Replays ts es in
    ((sym one.0, subst P one.1 more.0), more.1 ∙ ap (λ (ts : Tables). run ts es) one.1)

-- a program can hold each reply
steps_held : (es : List Entry) (a b : LiveTables) → Steps LiveStep a es b → AllByRecursion (λ (e : Entry). IsValue e.reply) es
steps_held [] a b s = tt
steps_held (e ∷ es) a b s = (s.1.3, steps_held es s.0 b s.2)

-- the factors stay
steps_factors : (es : List Entry) (a b : LiveTables) → Steps LiveStep a es b → factors_in (parts b) ≡ factors_in (parts a)
steps_factors [] a b s = ap (λ (x : LiveTables). factors_in (parts x)) s
steps_factors (e ∷ es) a b s = steps_factors es s.0 b s.2 ∙ s.1.2

pub run_factors : (f : Dialogue) (a b : LiveTables) (r : Reply) → Runs LiveStep f a b r → factors_in (parts b) ≡ factors_in (parts a)
run_factors f a b r runs = steps_factors runs.entries a b runs.steps

-- a whole run is that of the handler alone
pub served_whole : (code : Code) (env : Env) (a b : LiveTables) (r : Reply) → Runs LiveStep (next code env) a b r → HaveRoomFor code (parts a)
    → ((serve (calls_bound code) (next code env) (held (parts a))).answer ≡ Some r) × (held (parts b) ≡ (serve (calls_bound code) (next code env) (held (parts a))).after)
    × AllByRecursion (λ (e : Entry). IsValue e.reply) (serve (calls_bound code) (next code env) (held (parts a))).entries
served_whole code env a b r runs room =
    let ts : Tables = held (parts a) in
    let fits : Fits a runs.entries = λ t low. let few = counted (adding t) code env runs.entries runs.follows in omega (arith, room t low, few) in
    let done = steps_done runs.entries a b runs.steps fits in
    let g : GoesOn (calls_bound code) (next code env) ts runs.entries = goes_on (calls_bound code) (next code env) ts runs.entries (ends_by code env) runs.follows done.0 in
    let whole = g.answered r runs.answers in
    let all : (serve (calls_bound code) (next code env) ts).entries ≡ runs.entries = g.entries ∙ ap (λ (more : List Entry). runs.entries ++ more) whole.0 ∙ append-nil runs.entries in (
      whole.1,
      done.1 ∙ sym (g.after ∙ ap (run (run ts runs.entries)) whole.0),
      subst (AllByRecursion (λ (e : Entry). IsValue e.reply)) (sym all) (steps_held runs.entries a b runs.steps),
    )
