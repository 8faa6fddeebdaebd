-- The lines of events are read as a trace of these events.
use Rattle.std.proofs.Common.{◌≡◌, ℕ, zero, suc, ◌+◌, ◌<◌, ◌≤◌, ◌^◌, ◌==◌, Bool, true, false, cond, List, [], ◌∷◌, ◌++◌, length, map, take, drop, slice_get, Option, Some, None, codes, refl, sym, ap, ◌∙◌, subst, arith}
use Rattle.std.specs.Fmt.{decimal, signed_decimal}
use Rattle.std.specs.List.{AllByRecursion}
use Rattle.std.specs.Option.{unwrap_or}
use Rattle.std.specs.Prelude.{slice_index, pos}
use Rattle.session_values.specs.declared.kind.Kind.{Kind}
use Rattle.session_values.specs.declared.kind.Kind.TheVariants.{Get, Put, Swap, Del, Size, Bump, Has, Add, Mark, Drop, Count}
use Rattle.session_values.specs.declared.kind.TableKind.{TableKind}
use Rattle.session_values.specs.declared.op.Op.{Op}
use Rattle.session_values.specs.declared.value.Value.{Value}
use Rattle.session_values.specs.declared.value.Value.TheVariants.{Nil, Num, Sym}
use Rattle.session_values.specs.Kinds.{arguments, word_of as kind_word}
use Rattle.session_values.specs.Names.{AreDistinct, with_text}
use Rattle.session_values.proofs.NamesLemmas.{known_at, with_known}
use Rattle.session_values.specs.Reply.{values_of}
use Rattle.session_values.proofs.Lists.{same_head, same_tail}
use Rattle.symbolic_ops.specs.declared.arg.Arg.{Arg}
use Rattle.symbolic_ops.specs.declared.arg.Arg.TheVariants.{Known, Var, Any}
use Rattle.symbolic_ops.specs.declared.symbol.Symbol.{Symbol}
use Rattle.session_journal.specs.declared.event.Event.{Event}
use Rattle.session_journal.specs.declared.event.Event.TheVariants.{Begin, Done, Delay, End}
use Rattle.text_lines.specs.Rows.{Row, rows}
use Rattle.text_lines.specs.Text.{Text, lines, words}
use Rattle.text_lines.specs.Values.{is_symbol}
use Rattle.text_lines.proofs.RowLemmas.{rows_more, rows_nil}
use Rattle.text_lines.specs.ValueWords.{IsWritable, literal_text}
use Rattle.text_lines.proofs.NumbersBack.{numeral}
use Rattle.session_journal.specs.Traces.{TraceView, max_events}
use Rattle.trace_lines.specs.EventRows.{IsTrace, first_event_fault, names_after, placed_literal, placed_literals, placed_symbol, row_event}
use Rattle.trace_lines.specs.EventText.{arg_text, event_words, events_text, op_words, symbol_text, symbol_words, text_at}
use Rattle.trace_lines.specs.EventWords.{IsReadableArg, IsReadableEvent, IsReadableOp, IsReadableSymbol, IsTableName, as_read, event_of, table_names}
use Rattle.trace_lines.proofs.Lines.{each_back, words_back_of}
use Rattle.text_lines.specs.Words.{IsWord}
use Rattle.trace_lines.proofs.Placed.{after_nil, after_step, literals_nil, literals_step}
use Rattle.trace_lines.proofs.Rows.{fault_none, first_nil, first_step, row_is}

-- ---- words that place nothing
abbrev Stays : List Text → Text → Type 0
Stays names w = placed_literal names w ≡ names

plain_stays : (names : List Text) (w : Text) → (slice_index w 0 == 39) ≡ false → Stays names w
unfolding placed_literal
plain_stays names w e = ap (λ (b : Bool). cond b (placed_symbol names (drop 1 w)) names) e

known_stays : (names : List Text) (place : ℕ) (t : Text) → slice_get names place ≡ Some t → Stays names (39 ∷ t)
unfolding placed_literal
known_stays names place t h = go (is_symbol t)
  where
    go : (b : Bool) → cond b (with_text names t) names ≡ names
    go true = with_known names t (known_at t names place h)
    go false = refl

kind_stays : (names : List Text) (k : Kind) → Stays names (kind_word k)
kind_stays names Get = plain_stays names (kind_word Get) refl
kind_stays names Put = plain_stays names (kind_word Put) refl
kind_stays names Swap = plain_stays names (kind_word Swap) refl
kind_stays names Del = plain_stays names (kind_word Del) refl
kind_stays names Size = plain_stays names (kind_word Size) refl
kind_stays names Bump = plain_stays names (kind_word Bump) refl
kind_stays names Has = plain_stays names (kind_word Has) refl
kind_stays names Add = plain_stays names (kind_word Add) refl
kind_stays names Mark = plain_stays names (kind_word Mark) refl
kind_stays names Drop = plain_stays names (kind_word Drop) refl
kind_stays names Count = plain_stays names (kind_word Count) refl

small_stays : (names : List Text) (n : ℕ) → n < 2 ^ 32 → Stays names (decimal n)
small_stays names n h = plain_stays names (decimal n) (numeral (pos n) (omega (arith, h))).quote

literal_stays : (names : List Text) (v : Value) → IsWritable names v → Stays names (literal_text names v)
literal_stays names Nil h = plain_stays names (codes "nil") refl
literal_stays names (Num z) h = plain_stays names (signed_decimal z) (numeral z h).quote
literal_stays names (Sym place) h = subst (λ (o : Option Text). Stays names (39 ∷ unwrap_or o [])) (sym h.at) (known_stays names place h.text h.at)

arg_stays : (names : List Text) (a : Arg) → IsReadableArg names a → Stays names (arg_text names a)
arg_stays names (Known Nil) h = plain_stays names (codes "nil") refl
arg_stays names (Known (Num z)) h = plain_stays names (signed_decimal z) (numeral z h).quote
arg_stays names (Known (Sym place)) h = go (slice_get names place) refl
  where
    go : (o : Option Text) → slice_get names place ≡ o → Stays names (symbol_text o)
    go None e = plain_stays names (codes "any") refl
    go (Some t) e = known_stays names place t e
arg_stays names (Var x) h = absurd h
arg_stays names Any h = plain_stays names (codes "any") refl

append_stay : (names : List Text) (xs ys : List Text) → AllByRecursion (Stays names) xs → AllByRecursion (Stays names) ys → AllByRecursion (Stays names) (xs ++ ys)
append_stay names [] ys a b = b
append_stay names (x ∷ xs) ys a b = (a.0, append_stay names xs ys a.1 b)

used_stay : {X : Type 0} (names : List Text) (g : X → Text) (n : ℕ) (k v : X) → Stays names (g k) → Stays names (g v) → AllByRecursion (Stays names) (map g (take n (k ∷ v ∷ [])))
used_stay names g zero k v a b = tt
used_stay names g (suc zero) k v a b = (a, tt)
used_stay names g (suc (suc zero)) k v a b = (a, (b, tt))
used_stay names g (suc (suc (suc n))) k v a b = (a, (b, tt))

literals_stay : (names : List Text) (vs : List Value) → AllByRecursion (IsWritable names) vs → AllByRecursion (Stays names) (map (literal_text names) vs)
literals_stay names [] all = tt
literals_stay names (v ∷ vs) all = (literal_stays names v all.0, literals_stay names vs all.1)

name_stays : (names : List Text) (f : ℕ → Text) (tables : List ℕ) (t : ℕ) → t < length tables → AllByRecursion IsTableName (map f tables) → Stays names (f (slice_index tables t))
name_stays names f [] t l all = absurd (omega (arith, l))
name_stays names f (x ∷ xs) zero l all = plain_stays names (f x) all.0.plain
name_stays names f (x ∷ xs) (suc t) l all = name_stays names f xs t (omega (arith, l)) all.1

-- ---- lines
-- the words of a row
abbrev all_words : Row → List Text
all_words r = r.name ∷ r.args

abbrev HasWord : List Text → Type 0
HasWord [] = ⊥
HasWord (w ∷ ws) = Unit {0}

rows_words : (n : ℕ) (ls : List Text) (wss : List (List Text)) → map words ls ≡ wss → AllByRecursion HasWord wss → map all_words (rows n ls) ≡ wss
rows_words n [] [] e h = ap (map all_words) (rows_nil n)
rows_words n [] (ws ∷ wss) e h = cc
rows_words n (l ∷ ls) [] e h = cc
rows_words n (l ∷ ls) ([] ∷ wss) e h = absurd h.0
rows_words n (l ∷ ls) ((w ∷ ws) ∷ wss) e h =
    ap (map all_words) (rows_more n l ls w ws (same_head (words l) (w ∷ ws) (map words ls) wss e))
    ∙ ap (λ (xs : List (List Text)). (w ∷ ws) ∷ xs) (rows_words (n + 1) ls wss (same_tail (words l) (w ∷ ws) (map words ls) wss e) h.1)

events_of_rows : (names : List Text) (tables : List ℕ) (shape : List TableKind) (rs : List Row) → map (row_event names tables shape) rs ≡ map (event_of names tables shape) (map all_words rs)
events_of_rows names tables shape [] = refl
events_of_rows names tables shape (r ∷ rs) =
    ap (λ (o : Option Event). o ∷ map (row_event names tables shape) rs) (row_is names tables shape r)
    ∙ ap (λ (os : List (Option Event)). event_of names tables shape (r.name ∷ r.args) ∷ os) (events_of_rows names tables shape rs)

literals_same : (names ws : List Text) → AllByRecursion (Stays names) ws → placed_literals names ws ≡ names
literals_same names [] h = literals_nil names
literals_same names (w ∷ ws) h = literals_step names w ws ∙ ap (λ (ns : List Text). placed_literals ns ws) h.0 ∙ literals_same names ws h.1

abbrev AllStay : List Text → List Text → Type 0
AllStay names ws = AllByRecursion (Stays names) ws

args_stay : (names : List Text) (ws : List Text) (r : Row) → all_words r ≡ ws → AllStay names ws → AllStay names r.args
args_stay names ws r e h = (subst (AllStay names) (sym e) h).1

after_same : (names : List Text) (rs : List Row) → AllByRecursion (AllStay names) (map all_words rs) → names_after names rs ≡ names
after_same names [] h = after_nil names
after_same names (r ∷ rs) h = after_step names r rs ∙ ap (λ (ns : List Text). names_after ns rs) (literals_same names r.args h.0.1) ∙ after_same names rs h.1

some_is : (xs ys : List Event) → map (λ (e : Event). Some e) xs ≡ map (λ (e : Event). Some e) ys → xs ≡ ys
some_is [] [] e = refl
some_is [] (y ∷ ys) e = cc
some_is (x ∷ xs) [] e = cc
some_is (x ∷ xs) (y ∷ ys) e =
    let tails : xs ≡ ys = some_is xs ys (same_tail (Some x) (Some y) (map (λ (z : Event). Some z) xs) (map (λ (z : Event). Some z) ys) e) in
    let heads : ◌≡◌ {A = Option Event} (Some x) (Some y) = same_head (Some x) (Some y) (map (λ (z : Event). Some z) xs) (map (λ (z : Event). Some z) ys) e in
    let same : x ≡ y = cc in
    ap (λ (z : Event). z ∷ xs) same ∙ ap (λ (zs : List Event). y ∷ zs) tails

no_fault : (names : List Text) (tables : List ℕ) (shape : List TableKind) (seen : ℕ) (rs : List Row) (es : List Event) → map (row_event names tables shape) rs ≡ map (λ (e : Event). Some e) es → seen + length es ≤ max_events → first_event_fault names tables shape seen rs ≡ None
no_fault names tables shape seen [] es e l = first_nil names tables shape seen
no_fault names tables shape seen (r ∷ rs) [] e l = cc
no_fault names tables shape seen (r ∷ rs) (x ∷ es) e l =
    first_step names tables shape seen r rs (fault_none names tables shape seen r x (omega (arith, l)) (same_head (row_event names tables shape r) (Some x) (map (row_event names tables shape) rs) (map (λ (z : Event). Some z) es) e))
    ∙ no_fault names tables shape (seen + 1) rs es (same_tail (row_event names tables shape r) (Some x) (map (row_event names tables shape) rs) (map (λ (z : Event). Some z) es) e) (omega (arith, l))

module _ (names : List Text) (tables : List ℕ) (shape : List TableKind) (named : AllByRecursion IsTableName (table_names names tables)) where
  op_stay : (op : Op) → IsReadableOp names tables shape op → AllStay names (op_words names tables op)
  op_stay op h = (kind_stays names op.kind, (name_stays names (text_at names) tables op.table h.at.exists named, used_stay names (literal_text names) (arguments op.kind) op.key op.value (literal_stays names op.key h.key) (literal_stays names op.value h.value)))

  symbol_stay : (s : Symbol) → IsReadableSymbol names tables shape s → AllStay names (symbol_words names tables s)
  symbol_stay s h = (kind_stays names s.kind, (name_stays names (text_at names) tables s.table h.at.exists named, used_stay names (arg_text names) (arguments s.kind) s.key s.value (arg_stays names s.key h.key) (arg_stays names s.value h.value)))

  event_stay : (e : Event) → IsReadableEvent names tables shape e → AllStay names (event_words names tables e)
  event_stay (Begin t c) h = (plain_stays names (codes "begin") refl, (small_stays names t h.0, (small_stays names c h.1, tt)))
  event_stay (Done t op v) h = (plain_stays names (codes "done") refl, (small_stays names t h.0, append_stay names (op_words names tables op) (literal_text names v ∷ []) (op_stay op h.1) (literal_stays names v h.2, tt)))
  event_stay (Delay t op older s) h = (plain_stays names (codes "delay") refl, (small_stays names t h.0, append_stay names (op_words names tables op) (decimal older ∷ symbol_words names tables s) (op_stay op h.2) (small_stays names older h.1, symbol_stay s h.3)))
  event_stay (End t r) h = (plain_stays names (codes "end") refl, (small_stays names t h.0, literals_stay names (values_of r) h.1.values))

  events_stay : (es : List Event) → AllByRecursion (IsReadableEvent names tables shape) es → AllByRecursion (AllStay names) (map (event_words names tables) es)
  events_stay [] all = tt
  events_stay (e ∷ es) all = (event_stay e all.0, events_stay es all.1)

  have_words : (es : List Event) → AllByRecursion HasWord (map (event_words names tables) es)
  have_words [] = tt
  have_words (Begin t c ∷ es) = (tt, have_words es)
  have_words (Done t op v ∷ es) = (tt, have_words es)
  have_words (Delay t op older s ∷ es) = (tt, have_words es)
  have_words (End t r ∷ es) = (tt, have_words es)

  abbrev written : ℕ → List Event → List Row
  written n es = rows n (lines (events_text names tables es))

  are_words : (ts : List Text) → AllByRecursion IsTableName ts → AllByRecursion IsWord ts
  are_words [] h = tt
  are_words (t ∷ ts) h = (h.0.word, are_words ts h.1)

  words_of_rows : (n : ℕ) (es : List Event) → AllByRecursion (IsReadableEvent names tables shape) es → map all_words (written n es) ≡ map (event_words names tables) es
  words_of_rows n es all = rows_words n (lines (events_text names tables es)) (map (event_words names tables) es) (words_back_of names tables shape (are_words (table_names names tables) named) es all) (have_words es)

  same_names : (n : ℕ) (es : List Event) → AllByRecursion (IsReadableEvent names tables shape) es → names_after names (written n es) ≡ names
  same_names n es all = after_same names (written n es) (subst (AllByRecursion (AllStay names)) (sym (words_of_rows n es all)) (events_stay es all))

  events_are : (n : ℕ) (es : List Event) → AreDistinct names → AreDistinct (table_names names tables) → AllByRecursion (IsReadableEvent names tables shape) es → map (row_event names tables shape) (written n es) ≡ map (λ (e : Event). Some e) (map (as_read names) es)
  events_are n es dn dt all =
      events_of_rows names tables shape (written n es) ∙ ap (map (event_of names tables shape)) (words_of_rows n es all)
      ∙ each_back names tables shape (are_words (table_names names tables) named) es dn dt all

  pub trace_back : (new : List Text) (n : ℕ) (es : List Event) (t : TraceView) → AreDistinct names → AreDistinct (table_names names tables) → AllByRecursion (IsReadableEvent names tables shape) es → IsTrace names new tables shape (written n es) t → (t.events ≡ map (as_read names) es) × (new ≡ names)
  trace_back new n es t dn dt all r =
      let same : new ≡ names = r.names ∙ same_names n es all in
      (some_is t.events (map (as_read names) es) (sym r.events ∙ ap (λ (ns : List Text). map (row_event ns tables shape) (written n es)) same ∙ events_are n es dn dt all), same)

  pub written_fine : (n : ℕ) (es : List Event) → AreDistinct names → AreDistinct (table_names names tables) → AllByRecursion (IsReadableEvent names tables shape) es → length es ≤ max_events → first_event_fault names tables shape 0 (written n es) ≡ None
  written_fine n es dn dt all l = no_fault names tables shape 0 (written n es) (map (as_read names) es) (events_are n es dn dt all) (omega (arith, l, as_many es))
    where
      as_many : (xs : List Event) → length (map (as_read names) xs) ≡ length xs
      as_many [] = refl
      as_many (x ∷ xs) = ap suc (as_many xs)

  -- and they are a trace, with no name more
  pub written_trace : (n : ℕ) (es : List Event) → AreDistinct names → AreDistinct (table_names names tables) → AllByRecursion (IsReadableEvent names tables shape) es → length es ≤ max_events → IsTrace names names tables shape (written n es) (record { events = map (as_read names) es; lines = map (λ (r : Row). r.line) (written n es) })
  written_trace n es dn dt all l = record { fine = written_fine n es dn dt all l; names = sym (same_names n es all); events = events_are n es dn dt all; lines = refl }
