-- Whether words are an event's doesn't depend on the places that symbols have.
use Rattle.std.proofs.Common.{◌≡◌, ℕ, zero, suc, ◌<◌, ◌&&◌, Bool, true, false, cond, nat_le, nat_lt, List, [], ◌∷◌, ◌++◌, codes, length, map, drop, slice_get, Option, Some, None, is_some, refl, sym, ap, ◌∙◌, subst, arith}
use Rattle.std.proofs.lemmas.Option.{same_Some}
use Rattle.std.specs.Option.{option_and_then, option_map, unwrap_or}
use Rattle.std.specs.Prelude.{slice_index, ◌==◌}
use Rattle.std.specs.Str.{bytes_eq}
use Rattle.session_values.specs.declared.kind.Kind.{Kind}
use Rattle.session_values.specs.declared.kind.TableKind.{TableKind}
use Rattle.session_values.specs.declared.op.Op.{Op}
use Rattle.session_values.specs.declared.reply.Reply.{Reply}
use Rattle.session_values.specs.declared.value.Value.{Value}
use Rattle.session_values.specs.declared.value.Value.TheVariants.{Nil, Sym}
use Rattle.session_values.specs.Kinds.{arguments}
use Rattle.session_values.specs.Names.{Begins, place_of}
use Rattle.session_values.specs.Reply.{reply_of}
use Rattle.symbolic_ops.specs.declared.arg.Arg.{Arg}
use Rattle.symbolic_ops.specs.declared.arg.Arg.TheVariants.{Any, Known}
use Rattle.symbolic_ops.specs.declared.symbol.Symbol.{Symbol}
use Rattle.session_journal.specs.declared.event.Event.{Event}
use Rattle.session_journal.specs.declared.event.Event.TheVariants.{Done, Delay, End}
use Rattle.text_lines.specs.Text.{Text}
use Rattle.text_lines.specs.Values.{as_value, is_nil, is_symbol, number}
use Rattle.text_lines.specs.ValueWords.{literal_value}
use Rattle.trace_lines.specs.EventRows.{AreKnown}
use Rattle.trace_lines.specs.EventText.{text_at}
use Rattle.trace_lines.specs.EventWords.{Front, all_literals, arg_value, arguments_front, as_reply, begin_of, delay_of, done_of, end_of, event_of, first_word, head_front, none_left, op_front, small_number, symbol_front, table_names, then_read}

-- ---- fronts that leave the same words
abbrev pub Alike : {X : Type 0} → Front X → Front X → Type 0
Alike None None = Unit {0}
Alike None (Some y) = ⊥
Alike (Some x) None = ⊥
Alike (Some x) (Some y) = x.1 ≡ y.1

then_alike : {X Y : Type 0} (f g : Front X) (h k : X → List Text → Front Y) → Alike f g → ((x y : X) (ws : List Text) → Alike (h x ws) (k y ws)) → Alike (then_read f h) (then_read g k)
then_alike None None h k a r = tt
then_alike None (Some y) h k a r = absurd a
then_alike (Some x) None h k a r = absurd a
then_alike (Some x) (Some y) h k a r = subst (λ (ws : List Text). Alike (h x.0 x.1) (k y.0 ws)) a (r x.0 y.0 x.1)

then_some : {X Y : Type 0} (f g : Front X) (h k : X → List Text → Option Y) → Alike f g → ((x y : X) (ws : List Text) → is_some (h x ws) ≡ is_some (k y ws)) → is_some (then_read f h) ≡ is_some (then_read g k)
then_some None None h k a r = refl
then_some None (Some y) h k a r = absurd a
then_some (Some x) None h k a r = absurd a
then_some (Some x) (Some y) h k a r = r x.0 y.0 x.1 ∙ ap (λ (ws : List Text). is_some (k y.0 ws)) a

same_then : {X Y : Type 0} (f : Front X) (h k : X → List Text → Front Y) → ((x : X) (ws : List Text) → Alike (h x ws) (k x ws)) → Alike (then_read f h) (then_read f k)
same_then None h k r = tt
same_then (Some x) h k r = r x.0 x.1

same_some : {X Y : Type 0} (f : Front X) (h k : X → List Text → Option Y) → ((x : X) (ws : List Text) → is_some (h x ws) ≡ is_some (k x ws)) → is_some (then_read f h) ≡ is_some (then_read f k)
same_some None h k r = refl
same_some (Some x) h k r = r x.0 x.1

first_alike : {X : Type 0} (f g : Text → Option X) (ws : List Text) → ((w : Text) → is_some (f w) ≡ is_some (g w)) → Alike (first_word f ws) (first_word g ws)
first_alike f g [] e = tt
first_alike {X} f g (w ∷ ws) e = go (f w) (g w) (e w)
  where
    go : (o p : Option X) → is_some o ≡ is_some p → Alike (option_map (λ x. (x, ws)) o) (option_map (λ x. (x, ws)) p)
    go None None e = tt
    go None (Some y) e = cc
    go (Some x) None e = cc
    go (Some x) (Some y) e = refl

none_some : {X : Type 0} (x y : X) (ws : List Text) → is_some (none_left x ws) ≡ is_some (none_left y ws)
none_some x y [] = refl
none_some x y (w ∷ ws) = refl

-- ---- single words
literal_some : (old new : List Text) (w : Text) → is_some (literal_value old w) ≡ is_some (literal_value new w)
literal_some old new w = go (slice_index w 0 == 39) (is_symbol (drop 1 w)) (cond (is_nil w) (Some Nil) (as_value (number w))) (Sym (place_of old (drop 1 w))) (Sym (place_of new (drop 1 w)))
  where
    go : (b s : Bool) (o : Option Value) (x y : Value) → is_some (cond b (cond s (Some x) None) o) ≡ is_some (cond b (cond s (Some y) None) o)
    go true true o x y = refl
    go true false o x y = refl
    go false s o x y = refl

arg_some : (old new : List Text) (w : Text) → is_some (arg_value old w) ≡ is_some (arg_value new w)
arg_some old new w = go (bytes_eq w (codes "any")) (literal_value old w) (literal_value new w) (literal_some old new w)
  where
    go : (b : Bool) (o p : Option Value) → is_some o ≡ is_some p → is_some (cond b (Some Any) (option_map (λ (v : Value). Known v) o)) ≡ is_some (cond b (Some Any) (option_map (λ (v : Value). Known v) p))
    go true o p e = refl
    go false None None e = refl
    go false None (Some y) e = cc
    go false (Some x) None e = cc
    go false (Some x) (Some y) e = refl

-- ---- arguments, operations, symbols
arguments_alike : {X : Type 0} (f g : Text → Option X) (none : X) (n : ℕ) (ws : List Text) → ((w : Text) → is_some (f w) ≡ is_some (g w)) → Alike (arguments_front f none n ws) (arguments_front g none n ws)
arguments_alike f g none zero ws e = refl
arguments_alike {X} f g none (suc zero) ws e = then_alike (first_word f ws) (first_word g ws) (λ (k : X) (rest : List Text). Some ((k, none), rest)) (λ (k : X) (rest : List Text). Some ((k, none), rest)) (first_alike f g ws e) (λ x y rest. refl)
arguments_alike {X} f g none (suc (suc n)) ws e =
    then_alike (first_word f ws) (first_word g ws) (λ (k : X) (rest : List Text). then_read (first_word f rest) (λ v more. Some ((k, v), more))) (λ (k : X) (rest : List Text). then_read (first_word g rest) (λ v more. Some ((k, v), more))) (first_alike f g ws e)
    (λ x y rest. then_alike (first_word f rest) (first_word g rest) (λ (v : X) (more : List Text). Some ((x, v), more)) (λ (v : X) (more : List Text). Some ((y, v), more)) (first_alike f g rest e) (λ v u more. refl))

module _ (old new : List Text) (tables : List ℕ) (shape : List TableKind) (same : table_names old tables ≡ table_names new tables) where
  op_alike : (ws : List Text) → Alike (op_front old tables shape ws) (op_front new tables shape ws)
  op_alike ws =
      subst (λ (ts : List Text). Alike (op_front old tables shape ws) (then_read (head_front ts shape ws) (by new))) same
      (same_then (head_front (table_names old tables) shape ws) (by old) (by new)
      (λ h rest. then_alike (arguments_front (literal_value old) Nil (arguments h.0) rest) (arguments_front (literal_value new) Nil (arguments h.0) rest) (to h) (to h) (arguments_alike (literal_value old) (literal_value new) Nil (arguments h.0) rest (literal_some old new)) (λ x y more. refl)))
    where
      to : Kind × ℕ → Value × Value → List Text → Front Op
      to h a more = Some (record { kind = h.0; table = h.1; key = a.0; value = a.1 }, more)

      by : List Text → Kind × ℕ → List Text → Front Op
      by names h rest = then_read (arguments_front (literal_value names) Nil (arguments h.0) rest) (to h)

  symbol_alike : (ws : List Text) → Alike (symbol_front old tables shape ws) (symbol_front new tables shape ws)
  symbol_alike ws =
      subst (λ (ts : List Text). Alike (symbol_front old tables shape ws) (then_read (head_front ts shape ws) (by new))) same
      (same_then (head_front (table_names old tables) shape ws) (by old) (by new)
      (λ h rest. then_alike (arguments_front (arg_value old) (Known Nil) (arguments h.0) rest) (arguments_front (arg_value new) (Known Nil) (arguments h.0) rest) (to h) (to h) (arguments_alike (arg_value old) (arg_value new) (Known Nil) (arguments h.0) rest (arg_some old new)) (λ x y more. refl)))
    where
      to : Kind × ℕ → Arg × Arg → List Text → Front Symbol
      to h a more = Some (record { kind = h.0; table = h.1; key = a.0; value = a.1 }, more)

      by : List Text → Kind × ℕ → List Text → Front Symbol
      by names h rest = then_read (arguments_front (arg_value names) (Known Nil) (arguments h.0) rest) (to h)

  -- ---- events
  done_some : (ws : List Text) → is_some (done_of old tables shape ws) ≡ is_some (done_of new tables shape ws)
  done_some ws = same_some (first_word small_number ws) (one old) (one new) (λ t rest.
      then_some (op_front old tables shape rest) (op_front new tables shape rest) (two old t) (two new t) (op_alike rest) (λ op po left.
      then_some (first_word (literal_value old) left) (first_word (literal_value new) left) (three t op) (three t po) (first_alike (literal_value old) (literal_value new) left (literal_some old new)) (λ v u more. none_some (Done t op v) (Done t po u) more)))
    where
      three : ℕ → Op → Value → List Text → Option Event
      three t op v more = none_left (Done t op v) more

      two : List Text → ℕ → Op → List Text → Option Event
      two names t op left = then_read (first_word (literal_value names) left) (three t op)

      one : List Text → ℕ → List Text → Option Event
      one names t rest = then_read (op_front names tables shape rest) (two names t)

  delay_some : (ws : List Text) → is_some (delay_of old tables shape ws) ≡ is_some (delay_of new tables shape ws)
  delay_some ws = same_some (first_word small_number ws) (one old) (one new) (λ t rest.
      then_some (op_front old tables shape rest) (op_front new tables shape rest) (two old t) (two new t) (op_alike rest) (λ op po left.
      same_some (first_word small_number left) (three old t op) (three new t po) (λ older last.
      then_some (symbol_front old tables shape last) (symbol_front new tables shape last) (four t op older) (four t po older) (symbol_alike last) (λ s r more. none_some (Delay t op older s) (Delay t po older r) more))))
    where
      four : ℕ → Op → ℕ → Symbol → List Text → Option Event
      four t op older s more = none_left (Delay t op older s) more

      three : List Text → ℕ → Op → ℕ → List Text → Option Event
      three names t op older last = then_read (symbol_front names tables shape last) (four t op older)

      two : List Text → ℕ → Op → List Text → Option Event
      two names t op left = then_read (first_word small_number left) (three names t op)

      one : List Text → ℕ → List Text → Option Event
      one names t rest = then_read (op_front names tables shape rest) (two names t)

  literals_len : (ws : List Text) → option_map (λ (vs : List Value). length vs) (all_literals old ws) ≡ option_map (λ (vs : List Value). length vs) (all_literals new ws)
  literals_len [] = refl
  literals_len (w ∷ ws) = go (literal_value old w) (literal_value new w) (all_literals old ws) (all_literals new ws) (literal_some old new w) (literals_len ws)
    where
      len : Option (List Value) → Option ℕ
      len o = option_map (λ (vs : List Value). length vs) o

      with : Option Value → Option (List Value) → Option (List Value)
      with o r = option_and_then (λ (v : Value). option_map (λ (vs : List Value). v ∷ vs) r) o

      go : (o p : Option Value) (r s : Option (List Value)) → is_some o ≡ is_some p → len r ≡ len s → len (with o r) ≡ len (with p s)
      go None None r s e f = refl
      go None (Some y) r s e f = cc
      go (Some x) None r s e f = cc
      go (Some x) (Some y) None None e f = refl
      go (Some x) (Some y) None (Some us) e f = cc
      go (Some x) (Some y) (Some vs) None e f = cc
      go (Some x) (Some y) (Some vs) (Some us) e f = ap (option_map (λ (n : ℕ). suc n)) f

  end_some : (ws : List Text) → is_some (end_of old ws) ≡ is_some (end_of new ws)
  end_some ws = same_some (first_word small_number ws) (one old) (one new) (λ t rest. go t (all_literals old rest) (all_literals new rest) (literals_len rest))
    where
      one : List Text → ℕ → List Text → Option Event
      one names t rest = option_map (λ (r : Reply). End t r) (option_and_then as_reply (all_literals names rest))

      test : ℕ → Bool
      test n = nat_lt 0 n && nat_le n 4

      pick : (t : ℕ) (b : Bool) (r s : Reply) → is_some (option_map (λ (x : Reply). End t x) (cond b (Some r) None)) ≡ is_some (option_map (λ (x : Reply). End t x) (cond b (Some s) None))
      pick t true r s = refl
      pick t false r s = refl

      go : (t : ℕ) (o p : Option (List Value)) → option_map (λ (vs : List Value). length vs) o ≡ option_map (λ (vs : List Value). length vs) p → is_some (option_map (λ (x : Reply). End t x) (option_and_then as_reply o)) ≡ is_some (option_map (λ (x : Reply). End t x) (option_and_then as_reply p))
      go t None None e = refl
      go t None (Some us) e = cc
      go t (Some vs) None e = cc
      go t (Some vs) (Some us) e =
          pick t (test (length vs)) (reply_of vs) (reply_of us)
          ∙ ap (λ (n : ℕ). is_some (option_map (λ (x : Reply). End t x) (cond (test n) (Some (reply_of us)) None))) (same_Some (length vs) (length us) e)

  choose : (b : Bool) (x y u v : Option Event) → is_some x ≡ is_some u → is_some y ≡ is_some v → is_some (cond b x y) ≡ is_some (cond b u v)
  choose true x y u v e f = e
  choose false x y u v e f = f

  pub event_some : (ws : List Text) → is_some (event_of old tables shape ws) ≡ is_some (event_of new tables shape ws)
  event_some [] = refl
  event_some (w ∷ ws) =
      choose (bytes_eq w (codes "begin")) (begin_of ws) (after_begin old) (begin_of ws) (after_begin new) refl
      (choose (bytes_eq w (codes "done")) (done_of old tables shape ws) (after_done old) (done_of new tables shape ws) (after_done new) (done_some ws)
      (choose (bytes_eq w (codes "delay")) (delay_of old tables shape ws) (after_delay old) (delay_of new tables shape ws) (after_delay new) (delay_some ws)
      (choose (bytes_eq w (codes "end")) (end_of old ws) None (end_of new ws) None (end_some ws) refl)))
    where
      after_delay : List Text → Option Event
      after_delay names = cond (bytes_eq w (codes "end")) (end_of names ws) None

      after_done : List Text → Option Event
      after_done names = cond (bytes_eq w (codes "delay")) (delay_of names tables shape ws) (after_delay names)

      after_begin : List Text → Option Event
      after_begin names = cond (bytes_eq w (codes "done")) (done_of names tables shape ws) (after_done names)

-- ---- more names
front_same : (old more : List Text) (i : ℕ) → i < length old → slice_get old i ≡ slice_get (old ++ more) i
front_same [] more i h = absurd (omega arith)
front_same (x ∷ old) more zero h = refl
front_same (x ∷ old) more (suc i) h = front_same old more i (omega arith)

pub names_kept : (old new : List Text) (tables : List ℕ) → Begins old new → AreKnown old tables → table_names old tables ≡ table_names new tables
names_kept old new [] b k = refl
names_kept old new (t ∷ ts) b k =
    let one : text_at old t ≡ text_at new t = ap (λ (o : Option Text). unwrap_or o []) (front_same old b.0 t k.0 ∙ ap (λ (ns : List Text). slice_get ns t) (sym b.1)) in
    ap (λ (x : Text). x ∷ map (text_at old) ts) one ∙ ap (λ (xs : List Text). text_at new t ∷ xs) (names_kept old new ts b k.1)
