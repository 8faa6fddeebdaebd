-- Events that are accepted can be written and read back, where each text of the names is a symbol's, and what is called, replied and answered has texts.
use Rattle.std.proofs.Common.{◌≡◌, ℕ, zero, suc, ◌+◌, ◌<◌, ◌≤◌, ◌==◌, Bool, true, false, not, ◌&&◌, ◌||◌, List, [], ◌∷◌, ◌++◌, length, take, get_or, cond, Some, slice_get, refl, sym, ap, ◌∙◌, subst, arith}
use Rattle.std.specs.List.{AllByRecursion}
use Rattle.std.proofs.lemmas.Bool.{eqb-true, false≢true}
use Rattle.std.proofs.lemmas.Bool.Decides.{nat_tests}
use Rattle.std.proofs.lemmas.List.{take_more}
use Rattle.session_values.specs.declared.kind.Kind.{Kind}
use Rattle.session_values.specs.declared.kind.TableKind.{TableKind}
use Rattle.session_values.specs.declared.op.Op.{Op}
use Rattle.session_values.specs.declared.reply.Reply.{Reply}
use Rattle.session_values.specs.declared.value.Value.{Value}
use Rattle.session_values.specs.declared.value.Value.TheVariants.{Nil, Num, Sym}
use Rattle.session_values.specs.Dialogue.{Calls, Answers, replies}
use Rattle.session_values.specs.Kinds.{home, is_keyed, is_on_map, is_plain, is_read, kind_place}
use Rattle.session_values.specs.Op.{IsHeld}
use Rattle.session_values.specs.Reply.{IsHeldReply, values_of}
use Rattle.session_values.specs.ReplyText.{IsPrintable}
use Rattle.session_values.specs.Tables.{Fits, Tables, reply, step}
use Rattle.session_values.specs.Values.{IsValue}
use Rattle.session_values.proofs.Lists.{all_join, all_push}
use Rattle.symbolic_ops.specs.declared.arg.Arg.{Arg}
use Rattle.symbolic_ops.specs.declared.arg.Arg.TheVariants.{Known, Var, Any}
use Rattle.symbolic_ops.specs.declared.symbol.Symbol.{Symbol}
use Rattle.symbolic_ops.specs.Matching.{HasNoVar, IsNoVar}
use Rattle.symbolic_ops.specs.Symbol.{IsHeldArg, IsHeldSymbol}
use Rattle.commute_tables.specs.Relation.{is_apart, is_same, same_bool, sums_symbol}
use Rattle.symbolic_ops.specs.Commuting.{CommutesWith}
use Rattle.commute_tables.proofs.AgainstSymbols.{symbol_commutes}
use Rattle.commute_tables.proofs.ListedPairs.{one_home}
use Rattle.session_journal.specs.declared.event.Event.{Event}
use Rattle.session_journal.specs.declared.event.Event.TheVariants.{Begin, Done, Delay, End}
use Rattle.session_journal.specs.Journal.{DoneOperation, after, done_operations, entries, in_order, of_ticket, run}
use Rattle.session_journal.specs.Script.{Meaning}
use Rattle.session_journal.proofs.Replay.{run-append}
use Rattle.session_journal.specs.EventsInTurn.{ComeInTurn}
use Rattle.session_journal.proofs.Events.{done_operations-append, done_operations_stay, in_order-append}
use Rattle.text_lines.specs.Values.{is_symbol}
use Rattle.text_lines.specs.ValueWords.{IsWritable}
use Rattle.session_journal.specs.Accepted.{AreAllowed, IsAllowed}
use Rattle.session_journal.specs.Traces.{HasKnownSymbol}
use Rattle.trace_lines.specs.Bounds.{IsHeldEvent}
use Rattle.trace_lines.specs.EventText.{CanWrite, CanWriteArg, CanWriteOp, CanWriteSymbol, HasTable}
use Rattle.trace_lines.specs.EventWords.{HasHome, IsReadableArg, IsReadableEvent, IsReadableOp, IsReadableSymbol}

-- ---- lists

take_all : {X : Type 0} (P : X → Type 0) (n : ℕ) (xs : List X) → AllByRecursion P xs → AllByRecursion P (take n xs)
take_all P zero xs h = tt
take_all P (suc n) [] h = tt
take_all P (suc n) (x ∷ xs) h = (h.0, take_all P n xs h.1)

all_at : {X : Type 0} (P : X → Type 0) (xs : List X) (i : ℕ) (x : X) → AllByRecursion P xs → slice_get xs i ≡ Some x → P x
all_at P [] i x h e = absurd (cc)
all_at P (y ∷ ys) zero x h e = let same : y ≡ x = cc in subst P same h.0
all_at P (y ∷ ys) (suc i) x h e = all_at P ys i x h.1 e

-- ---- the table and the kind of a symbol with which an operation doesn't commute

or_first : (a b c d e f : Bool) → a ≡ true → (a || b || c || d || e || f) ≡ true
or_first true b c d e f h = refl
or_first false b c d e f h = absurd (false≢true h)

or_second : (a b c d e f : Bool) → b ≡ true → (a || b || c || d || e || f) ≡ true
or_second true b c d e f h = refl
or_second false true c d e f h = refl
or_second false false c d e f h = absurd (false≢true h)

module _ (op : Op) (s : Symbol) (held : IsHeld op) (differ : CommutesWith op s → ⊥) where
  -- the other clauses of the rule
  abbrev reads : Bool
  reads = is_read op.kind && is_read s.kind

  abbrev keys : Bool
  keys = is_keyed op.kind && is_keyed s.kind && is_apart op.key s.key

  abbrev plain : Bool
  plain = is_plain op.kind && (kind_place op.kind == kind_place s.kind) && (not (kind_place op.kind == 1) || is_same op.value s.value)

  abbrev apart : Bool
  apart = not (op.table == s.table)

  abbrev unlike : Bool
  unlike = not (same_bool (is_on_map op.kind) (is_on_map s.kind))

  same_table : op.table ≡ s.table
  same_table = go (op.table == s.table) refl
    where
      go : (b : Bool) → (op.table == s.table) ≡ b → op.table ≡ s.table
      go true e = eqb-true op.table s.table e
      go false e = absurd (differ (symbol_commutes op s held (or_first apart unlike reads keys plain (sums_symbol op s) (ap not e))))

  same_home : home op.kind ≡ home s.kind
  same_home = go (same_bool (is_on_map op.kind) (is_on_map s.kind)) refl
    where
      go : (b : Bool) → same_bool (is_on_map op.kind) (is_on_map s.kind) ≡ b → home op.kind ≡ home s.kind
      go true e = one_home op.kind s.kind e
      go false e = absurd (differ (symbol_commutes op s held (or_second apart unlike reads keys plain (sums_symbol op s) (ap not e))))

-- one held event more
pub held_more : (es : List Event) (i : ℕ) (e : Event) → i < length es → get_or es i e ≡ e → IsHeldEvent e → AllByRecursion IsHeldEvent (take i es) → AllByRecursion IsHeldEvent (take (i + 1) es)
held_more es i e h is one all =
    let more : take (i + 1) es ≡ take i es ++ e ∷ [] = take_more es i e h ∙ ap (λ (x : Event). take i es ++ x ∷ []) is in
    subst (AllByRecursion IsHeldEvent) (sym more) (all_join IsHeldEvent (take i es) (e ∷ []) all (one, tt))

-- ---- the symbols of Delays that came in turn have no variable

all_mid : (front : List Symbol) (s : Symbol) (back : List Symbol) → AllByRecursion HasNoVar (front ++ s ∷ back) → HasNoVar s
all_mid [] s back h = h.0
all_mid (y ∷ front) s back h = all_mid front s back h.1

pub known_symbols : (m : Meaning) (callers : ℕ) (front J : List Event) → ComeInTurn m callers front J → AllByRecursion HasKnownSymbol J
known_symbols m callers front [] a = tt
known_symbols m callers front (Begin t c ∷ J) a = (tt, known_symbols m callers (front ++ Begin t c ∷ []) J a.1)
known_symbols m callers front (Done t op v ∷ J) a = (tt, known_symbols m callers (front ++ Done t op v ∷ []) J a.1)
known_symbols m callers front (Delay t op older s ∷ J) a =
    let n = a.0.named in
    (all_mid n.front s n.back (subst (AllByRecursion HasNoVar) n.is n.covers.known), known_symbols m callers (front ++ Delay t op older s ∷ []) J a.1)
known_symbols m callers front (End t r ∷ J) a = (tt, known_symbols m callers (front ++ End t r ∷ []) J a.1)

-- ---- names

symbol_short : (w : List ℕ) → is_symbol w ≡ true → length w ≤ 64
unfolding is_symbol
symbol_short w e = grind (arith, nat_tests, e)

module _ (names : List (List ℕ)) (symbols : AllByRecursion (λ (t : List ℕ). is_symbol t ≡ true) names) where
  abbrev pub V : Value → Type 0
  V v = IsPrintable names v

  text_symbol : (place : ℕ) (text : List ℕ) → slice_get names place ≡ Some text → is_symbol text ≡ true
  text_symbol place text e = all_at (λ (t : List ℕ). is_symbol t ≡ true) names place text symbols e

  writable : (v : Value) → IsValue v → V v → IsWritable names v
  writable Nil h p = tt
  writable (Num n) h p = h
  writable (Sym place) h p = record { text = p.text; at = p.at; symbol = text_symbol place p.text p.at }

  all_writable : (vs : List Value) → AllByRecursion IsValue vs → AllByRecursion V vs → AllByRecursion (IsWritable names) vs
  all_writable [] h p = tt
  all_writable (v ∷ vs) h p = (writable v h.0 p.0, all_writable vs h.1 p.1)

  arg_readable : (a : Arg) → IsHeldArg a → IsNoVar a → IsReadableArg names a
  arg_readable (Known Nil) h k = tt
  arg_readable (Known (Num n)) h k = h
  arg_readable (Known (Sym place)) h k = λ text e. text_symbol place text e
  arg_readable (Var x) h k = absurd k
  arg_readable Any h k = tt

  arg_written : (a : Arg) → IsNoVar a → CanWriteArg names a
  arg_written (Known Nil) k = tt
  arg_written (Known (Num n)) k = tt
  arg_written (Known (Sym place)) k = λ text e. symbol_short text (text_symbol place text e)
  arg_written (Var x) k = absurd k
  arg_written Any k = tt

  -- tables of these kinds have names
  module _ (tables : List ℕ) (shape : List TableKind) (named : (kind : Kind) (table : ℕ) → slice_get shape table ≡ Some (home kind) → HasTable names tables table) where
    has_home : (kind : Kind) (table : ℕ) → slice_get shape table ≡ Some (home kind) → HasHome tables shape kind table
    has_home kind table e = record { exists = (named kind table e).exists; works = e }

    -- ---- one event

    abbrev pub Told : Event → Type 0
    Told e = IsReadableEvent names tables shape e × CanWrite names tables e

    op_readable : (op : Op) → Fits shape op → IsHeld op → V op.key × V op.value → IsReadableOp names tables shape op
    op_readable op f h p = record { at = has_home op.kind op.table f.table; unused = h.unused; key = writable op.key h.key p.0; value = writable op.value h.value p.1 }

    op_written : (op : Op) → Fits shape op → V op.key × V op.value → CanWriteOp names tables op
    op_written op f p = record { table = named op.kind op.table f.table; key = p.0; value = p.1 }

    symbol_at_home : (op : Op) (s : Symbol) → Fits shape op → IsHeld op → (CommutesWith op s → ⊥) → slice_get shape s.table ≡ Some (home s.kind)
    symbol_at_home op s f h d = ap (λ (i : ℕ). slice_get shape i) (sym (same_table op s h d)) ∙ f.table ∙ ap (λ (k : TableKind). Some k) (same_home op s h d)

    symbol_readable : (op : Op) (s : Symbol) → Fits shape op → IsHeld op → IsHeldSymbol s → HasNoVar s → (CommutesWith op s → ⊥) → IsReadableSymbol names tables shape s
    symbol_readable op s f h q k d = record { at = has_home s.kind s.table (symbol_at_home op s f h d); unused = q.unused; key = arg_readable s.key q.key k.0; value = arg_readable s.value q.value k.1 }

    symbol_written : (op : Op) (s : Symbol) → Fits shape op → IsHeld op → HasNoVar s → (CommutesWith op s → ⊥) → CanWriteSymbol names tables s
    symbol_written op s f h k d = record { table = named s.kind s.table (symbol_at_home op s f h d); key = arg_written s.key k.0; value = arg_written s.value k.1 }

    reply_held : (r : Reply) → IsHeldReply r → AllByRecursion IsValue (values_of r)
    reply_held r h = take_all IsValue r.count (r.a ∷ r.b ∷ r.c ∷ r.d ∷ []) (h.a, (h.b, (h.c, (h.d, tt))))

    -- ---- all events

    -- a script whose calls fit these tables, and whose calls, replies and answers have texts
    module _ (m : Meaning) (Holds : Tables → Type 0) (opens : Holds m.opening) (gives : (ts : Tables) (op : Op) → Holds ts → V (reply ts op)) (keeps : (ts : Tables) (op : Op) → Holds ts → V op.key → V op.value → Holds (step ts op))
        (fits : (t : ℕ) (vs : List Value) (op : Op) → m.next t vs ≡ Calls op → Fits shape op) (calls : (t : ℕ) (vs : List Value) (op : Op) → AllByRecursion V vs → m.next t vs ≡ Calls op → V op.key × V op.value)
        (answers : (t : ℕ) (vs : List Value) (r : Reply) → AllByRecursion V vs → m.next t vs ≡ Answers r → AllByRecursion V (values_of r)) where
      -- the replies so far and the tables can be printed
      record Said (F : List Event) : Type 0 where
        given : AllByRecursion (λ (d : DoneOperation). V d.reply) (done_operations F)
        holds : Holds (after m.opening F)

      of_one : (t : ℕ) (ds : List DoneOperation) → AllByRecursion (λ (d : DoneOperation). V d.reply) ds → AllByRecursion V (replies (of_ticket t ds))
      of_one t [] h = tt
      of_one t (d ∷ ds) h = go (d.ticket == t) (of_one t ds h.1)
        where
          go : (b : Bool) → AllByRecursion V (replies (of_ticket t ds)) → AllByRecursion V (replies (cond b (record { op = d.op; reply = d.reply } ∷ of_ticket t ds) (of_ticket t ds)))
          go true k = (h.0, k)
          go false k = k

      given_to : (F : List Event) (t : ℕ) → Said F → AllByRecursion V (replies (entries F t))
      given_to F t s = of_one t (done_operations F) s.given

      replied : (F : List Event) (op : Op) (v : Value) → Said F → reply (after m.opening F) op ≡ v → V v
      replied F op v s e = subst V e (gives (after m.opening F) op s.holds)

      one : (F : List Event) (e : Event) → IsAllowed m F e → IsHeldEvent e → HasKnownSymbol e → Said F → Told e
      one F (Begin t c) a h k s = (h, tt)
      one F (Done t op v) a h k s =
          let f : Fits shape op = fits t (replies (entries F t)) op a.0.calls in
          let p : V op.key × V op.value = calls t (replies (entries F t)) op (given_to F t s) a.0.calls in
          let q : V v = replied F op v s a.1 in
          ((h.0, op_readable op f h.1 p, writable v h.2 q), (op_written op f p, q))
      one F (Delay t op older y) a h k s =
          let f : Fits shape op = fits t (replies (entries F t)) op a.calls in
          let p : V op.key × V op.value = calls t (replies (entries F t)) op (given_to F t s) a.calls in
          ((h.0, h.1, op_readable op f h.2 p, symbol_readable op y f h.2 h.3 k a.symbol), (op_written op f p, symbol_written op y f h.2 k a.symbol))
      one F (End t r) a h k s =
          let p : AllByRecursion V (values_of r) = answers t (replies (entries F t)) r (given_to F t s) a.answers in
          ((h.0, record { count = h.1.count; values = all_writable (values_of r) (reply_held r h.1) p }), p)

      stays : (F : List Event) (e : Event) → done_operations (e ∷ []) ≡ [] → Said F → Said (F ++ e ∷ [])
      stays F e none s =
          let same : done_operations (F ++ e ∷ []) ≡ done_operations F = done_operations_stay F e none in
          record {
            given = subst (AllByRecursion (λ (d : DoneOperation). V d.reply)) (sym same) s.given;
            holds = subst (λ (ds : List DoneOperation). Holds (run m.opening (in_order ds))) (sym same) s.holds;
          }

      goes : (F : List Event) (e : Event) → IsAllowed m F e → Said F → Said (F ++ e ∷ [])
      goes F (Begin t c) a s = stays F (Begin t c) refl s
      goes F (Done t op v) a s =
          let d : DoneOperation = record { ticket = t; op = op; reply = v } in
          let more : done_operations (F ++ Done t op v ∷ []) ≡ done_operations F ++ d ∷ [] = done_operations-append F (Done t op v ∷ []) in
          let p : V op.key × V op.value = calls t (replies (entries F t)) op (given_to F t s) a.0.calls in
          let last : run m.opening (in_order (done_operations F ++ d ∷ [])) ≡ step (after m.opening F) op = ap (run m.opening) (in_order-append (done_operations F) (d ∷ [])) ∙ run-append m.opening (in_order (done_operations F)) (in_order (d ∷ [])) in
          record {
            given = subst (AllByRecursion (λ (d : DoneOperation). V d.reply)) (sym more) (all_push (λ (d : DoneOperation). V d.reply) (done_operations F) d s.given (replied F op v s a.1));
            holds = subst (λ (ds : List DoneOperation). Holds (run m.opening (in_order ds))) (sym more)
                (subst Holds (sym last) (keeps (after m.opening F) op s.holds p.0 p.1));
          }
      goes F (Delay t op older y) a s = stays F (Delay t op older y) refl s
      goes F (End t r) a s = stays F (End t r) refl s

      each : (F J : List Event) → AreAllowed m F J → AllByRecursion IsHeldEvent J → AllByRecursion HasKnownSymbol J → Said F → AllByRecursion Told J
      each F [] a h k s = tt
      each F (e ∷ J) a h k s = (one F e a.0 h.0 k.0 s, each (F ++ e ∷ []) J a.1 h.1 k.1 (goes F e a.0 s))

      pub can_be_told : (J : List Event) → AreAllowed m [] J → AllByRecursion IsHeldEvent J → AllByRecursion HasKnownSymbol J → AllByRecursion Told J
      can_be_told J a h k = each [] J a h k (record { given = tt; holds = opens })
