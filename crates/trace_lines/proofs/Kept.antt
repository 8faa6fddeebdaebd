-- More names change nothing of an event whose symbols are placed.
use Rattle.std.proofs.Common.{◌≡◌, ℕ, zero, suc, ◌+◌, Bool, true, false, not, cond, List, [], ◌∷◌, ◌++◌, codes, drop, slice_get, Option, Some, None, refl, sym, ap, ◌∙◌, subst}
use Rattle.std.specs.List.{AllByRecursion}
use Rattle.std.specs.Option.{option_and_then, option_map}
use Rattle.std.specs.Prelude.{slice_index, ◌==◌, IfSome}
use Rattle.std.specs.Str.{bytes_eq}
use Rattle.std.proofs.lemmas.Slice.Eq.{bytes_eq-Decides}
use Rattle.session_values.specs.declared.kind.Kind.{Kind}
use Rattle.session_values.specs.declared.kind.TableKind.{TableKind}
use Rattle.session_values.specs.declared.op.Op.{Op}
use Rattle.session_values.specs.declared.reply.Reply.{Reply}
use Rattle.session_values.specs.declared.value.Value.{Value}
use Rattle.session_values.specs.declared.value.Value.TheVariants.{Nil, Sym}
use Rattle.session_values.specs.Kinds.{arguments}
use Rattle.session_values.specs.Names.{Begins, place_of}
use Rattle.session_values.proofs.Named.{front_kept}
use Rattle.symbolic_ops.specs.declared.arg.Arg.{Arg}
use Rattle.symbolic_ops.specs.declared.arg.Arg.TheVariants.{Any, Known}
use Rattle.symbolic_ops.specs.declared.symbol.Symbol.{Symbol}
use Rattle.session_journal.specs.declared.event.Event.{Event}
use Rattle.session_journal.specs.declared.event.Event.TheVariants.{Done, Delay, End}
use Rattle.text_lines.specs.Text.{Text}
use Rattle.text_lines.specs.Values.{is_symbol}
use Rattle.text_lines.specs.ValueWords.{literal_value}
use Rattle.trace_lines.specs.declared.words.Word.{Word}
use Rattle.trace_lines.specs.EventWords.{Front, all_literals, arg_value, arguments_front, as_reply, begin_of, delay_of, done_of, end_of, event_of, first_word, head_front, kind_of, table_of, none_left, op_front, small_number, symbol_front, table_names, then_read}
use Rattle.trace_lines.specs.Fronts.{plain_value}
use Rattle.trace_lines.specs.Placing.{IsPlaced, symbol_place, texts}

-- ---- places
-- a text that stands among the names has its place still when there are more
place_kept : (names more : List Text) (t : Text) (p : ℕ) → slice_get names p ≡ Some t → place_of (names ++ more) t ≡ place_of names t
place_kept [] more t p h = absurd (cc)
place_kept (x ∷ names) more t zero h = go (bytes_eq t x) refl
  where
    same : x ≡ t
    same = cc

    go : (b : Bool) → bytes_eq t x ≡ b → cond (not b) (1 + place_of (names ++ more) t) 0 ≡ cond (not b) (1 + place_of names t) 0
    go true e = refl
    go false e = let k : bytes_eq t x ≡ true = (bytes_eq-Decides t x).1 (sym same) in absurd (cc)
place_kept (x ∷ names) more t (suc p) h = ap (λ (n : ℕ). cond (not (bytes_eq t x)) (1 + n) 0) (place_kept names more t p h)

pub placed_kept : (names later : List Text) (w : Word) → Begins names later → IsPlaced names w → IsPlaced later w
placed_kept names later w b h = record { place = go w.place refl h.there; there = there w.place h.there }
  where
    there : (o : Option ℕ) → IfSome o (λ p. slice_get names p ≡ Some (drop 1 w.text.now)) → IfSome o (λ p. slice_get later p ≡ Some (drop 1 w.text.now))
    there None k = tt
    there (Some p) k = subst (λ (ns : List Text). slice_get ns p ≡ Some (drop 1 w.text.now)) (sym b.1) (front_kept names b.0 p (drop 1 w.text.now) k)

    same : (q s : Bool) (x y : ℕ) (o : Option ℕ) → o ≡ cond q (cond s (Some x) None) None → ((p : ℕ) → o ≡ Some p → y ≡ x) → o ≡ cond q (cond s (Some y) None) None
    same true true x y o e k = e ∙ ap (λ (n : ℕ). Some n) (sym (k x e))
    same true false x y o e k = e
    same false s x y o e k = e

    go : (o : Option ℕ) → w.place ≡ o → IfSome o (λ p. slice_get names p ≡ Some (drop 1 w.text.now)) → w.place ≡ symbol_place later w.text.now
    go None e k = same (slice_index w.text.now 0 == 39) (is_symbol (drop 1 w.text.now)) (place_of names (drop 1 w.text.now)) (place_of later (drop 1 w.text.now)) w.place h.place (λ p is. absurd (cc))
    go (Some p) e k = same (slice_index w.text.now 0 == 39) (is_symbol (drop 1 w.text.now)) (place_of names (drop 1 w.text.now)) (place_of later (drop 1 w.text.now)) w.place h.place
        (λ n is. subst (λ (ns : List Text). place_of ns (drop 1 w.text.now) ≡ place_of names (drop 1 w.text.now)) (sym b.1) (place_kept names b.0 (drop 1 w.text.now) p k))

pub all_placed_kept : (names later : List Text) (ws : List Word) → Begins names later → AllByRecursion (IsPlaced names) ws → AllByRecursion (IsPlaced later) ws
all_placed_kept names later [] b h = tt
all_placed_kept names later (w ∷ ws) b h = (placed_kept names later w b h.0, all_placed_kept names later ws b h.1)

-- ---- literals
literal_by : (names later : List Text) (w : Text) → symbol_place names w ≡ symbol_place later w → literal_value names w ≡ literal_value later w
literal_by names later w e = go (slice_index w 0 == 39) (is_symbol (drop 1 w)) (place_of names (drop 1 w)) (place_of later (drop 1 w)) (plain_value w) e
  where
    go : (q s : Bool) (x y : ℕ) (o : Option Value) → cond q (cond s (Some x) None) None ≡ cond q (cond s (Some y) None) None → cond q (cond s (Some (Sym x)) None) o ≡ cond q (cond s (Some (Sym y)) None) o
    go true true x y o e = ap (option_map (λ (n : ℕ). Sym n)) e
    go true false x y o e = refl
    go false s x y o e = refl

-- a word is the same literal with these names and with those
abbrev pub Agree : List Text → List Text → Text → Type 0
Agree a b w = literal_value a w ≡ literal_value b w

pub agree_kept : (names later : List Text) (ws : List Word) → Begins names later → AllByRecursion (IsPlaced names) ws → AllByRecursion (Agree names later) (texts ws)
agree_kept names later [] b h = tt
agree_kept names later (w ∷ ws) b h = (literal_by names later w.text.now (sym h.0.place ∙ (placed_kept names later w b h.0).place), agree_kept names later ws b h.1)

-- ---- fronts that are the same, with words behind them of which something holds
abbrev Left : {X : Type 0} → (Text → Type 0) → Front X → Type 0
Left P None = Unit {0}
Left P (Some x) = AllByRecursion P x.1

abbrev Same : {X : Type 0} → (Text → Type 0) → Front X → Front X → Type 0
Same P F G = (F ≡ G) × Left P F

module _ (P : Text → Type 0) where
  first_same : {X : Type 0} (f g : Text → Option X) (ws : List Text) → ((w : Text) → P w → f w ≡ g w) → AllByRecursion P ws → Same P (first_word f ws) (first_word g ws)
  first_same f g [] e all = (refl, tt)
  first_same {X} f g (w ∷ ws) e all = (ap (option_map (λ (x : X). (x, ws))) (e w all.0), left (f w))
    where
      left : (o : Option X) → Left P (option_map (λ (x : X). (x, ws)) o)
      left None = tt
      left (Some x) = all.1

  then_same : {X Y : Type 0} (F G : Front X) (h k : X → List Text → Front Y) → Same P F G → ((x : X) (ws : List Text) → AllByRecursion P ws → Same P (h x ws) (k x ws)) → Same P (then_read F h) (then_read G k)
  then_same {X} {Y} F G h k s r = subst (λ (H : Front X). Same P (then_read F h) (then_read H k)) s.0 (go F s.1)
    where
      go : (H : Front X) → Left P H → Same P (then_read H h) (then_read H k)
      go None l = (refl, tt)
      go (Some x) l = r x.0 x.1 l

  then_equal : {X Y : Type 0} (F G : Front X) (h k : X → List Text → Option Y) → Same P F G → ((x : X) (ws : List Text) → AllByRecursion P ws → h x ws ≡ k x ws) → then_read F h ≡ then_read G k
  then_equal {X} {Y} F G h k s r = subst (λ (H : Front X). then_read F h ≡ then_read H k) s.0 (go F s.1)
    where
      go : (H : Front X) → Left P H → then_read H h ≡ then_read H k
      go None l = refl
      go (Some x) l = r x.0 x.1 l

  arguments_same : {X : Type 0} (f g : Text → Option X) (none : X) (n : ℕ) (ws : List Text) → ((w : Text) → P w → f w ≡ g w) → AllByRecursion P ws → Same P (arguments_front f none n ws) (arguments_front g none n ws)
  arguments_same f g none zero ws e all = (refl, all)
  arguments_same {X} f g none (suc zero) ws e all = then_same (first_word f ws) (first_word g ws) (λ (k : X) (rest : List Text). Some ((k, none), rest)) (λ (k : X) (rest : List Text). Some ((k, none), rest)) (first_same f g ws e all) (λ k rest l. (refl, l))
  arguments_same {X} f g none (suc (suc n)) ws e all =
      then_same (first_word f ws) (first_word g ws) (λ (k : X) (rest : List Text). then_read (first_word f rest) (λ v more. Some ((k, v), more))) (λ (k : X) (rest : List Text). then_read (first_word g rest) (λ v more. Some ((k, v), more))) (first_same f g ws e all)
      (λ k rest l. then_same (first_word f rest) (first_word g rest) (λ (v : X) (more : List Text). Some ((k, v), more)) (λ (v : X) (more : List Text). Some ((k, v), more)) (first_same f g rest e l) (λ v more m. (refl, m)))

  head_same : (names : List Text) (shape : List TableKind) (ws : List Text) → AllByRecursion P ws → Same P (head_front names shape ws) (head_front names shape ws)
  head_same names shape ws all =
      then_same (first_word kind_of ws) (first_word kind_of ws) by by (first_same kind_of kind_of ws (λ w p. refl) all)
      (λ kind rest l. then_same (first_word (table_of names shape kind) rest) (first_word (table_of names shape kind) rest) (to kind) (to kind) (first_same (table_of names shape kind) (table_of names shape kind) rest (λ w p. refl) l) (λ t more m. (refl, m)))
    where
      to : Kind → ℕ → List Text → Front (Kind × ℕ)
      to kind t more = Some ((kind, t), more)

      by : Kind → List Text → Front (Kind × ℕ)
      by kind rest = then_read (first_word (table_of names shape kind) rest) (to kind)

-- ---- events
arg_same : (a b : List Text) (w : Text) → Agree a b w → arg_value a w ≡ arg_value b w
arg_same a b w e = ap (λ (o : Option Value). cond (bytes_eq w (codes "any")) (Some Any) (option_map (λ (v : Value). Known v) o)) e

module _ (old new : List Text) (tables : List ℕ) (shape : List TableKind) (same : table_names old tables ≡ table_names new tables) where
  op_same : (ws : List Text) → AllByRecursion (Agree old new) ws → Same (Agree old new) (op_front old tables shape ws) (op_front new tables shape ws)
  op_same ws all =
      subst (λ (ts : List Text). Same (Agree old new) (op_front old tables shape ws) (then_read (head_front ts shape ws) (by new))) same
      (then_same (Agree old new) (head_front (table_names old tables) shape ws) (head_front (table_names old tables) shape ws) (by old) (by new) (head_same (Agree old new) (table_names old tables) shape ws all)
      (λ h rest l. then_same (Agree old new) (arguments_front (literal_value old) Nil (arguments h.0) rest) (arguments_front (literal_value new) Nil (arguments h.0) rest) (to h) (to h) (arguments_same (Agree old new) (literal_value old) (literal_value new) Nil (arguments h.0) rest (λ w p. p) l) (λ a more m. (refl, m))))
    where
      to : Kind × ℕ → Value × Value → List Text → Front Op
      to h a more = Some (record { kind = h.0; table = h.1; key = a.0; value = a.1 }, more)

      by : List Text → Kind × ℕ → List Text → Front Op
      by names h rest = then_read (arguments_front (literal_value names) Nil (arguments h.0) rest) (to h)

  symbol_same : (ws : List Text) → AllByRecursion (Agree old new) ws → Same (Agree old new) (symbol_front old tables shape ws) (symbol_front new tables shape ws)
  symbol_same ws all =
      subst (λ (ts : List Text). Same (Agree old new) (symbol_front old tables shape ws) (then_read (head_front ts shape ws) (by new))) same
      (then_same (Agree old new) (head_front (table_names old tables) shape ws) (head_front (table_names old tables) shape ws) (by old) (by new) (head_same (Agree old new) (table_names old tables) shape ws all)
      (λ h rest l. then_same (Agree old new) (arguments_front (arg_value old) (Known Nil) (arguments h.0) rest) (arguments_front (arg_value new) (Known Nil) (arguments h.0) rest) (to h) (to h) (arguments_same (Agree old new) (arg_value old) (arg_value new) (Known Nil) (arguments h.0) rest (arg_same old new) l) (λ a more m. (refl, m))))
    where
      to : Kind × ℕ → Arg × Arg → List Text → Front Symbol
      to h a more = Some (record { kind = h.0; table = h.1; key = a.0; value = a.1 }, more)

      by : List Text → Kind × ℕ → List Text → Front Symbol
      by names h rest = then_read (arguments_front (arg_value names) (Known Nil) (arguments h.0) rest) (to h)

  number_same : (ws : List Text) → AllByRecursion (Agree old new) ws → Same (Agree old new) (first_word small_number ws) (first_word small_number ws)
  number_same ws all = first_same (Agree old new) small_number small_number ws (λ w p. refl) all

  done_same : (ws : List Text) → AllByRecursion (Agree old new) ws → done_of old tables shape ws ≡ done_of new tables shape ws
  done_same ws all = then_equal (Agree old new) (first_word small_number ws) (first_word small_number ws) (one old) (one new) (number_same ws all) (λ t rest l.
      then_equal (Agree old new) (op_front old tables shape rest) (op_front new tables shape rest) (two old t) (two new t) (op_same rest l) (λ op left m.
      then_equal (Agree old new) (first_word (literal_value old) left) (first_word (literal_value new) left) (three t op) (three t op) (first_same (Agree old new) (literal_value old) (literal_value new) left (λ w p. p) m) (λ v more k. refl)))
    where
      three : ℕ → Op → Value → List Text → Option Event
      three t op v more = none_left (Done t op v) more

      two : List Text → ℕ → Op → List Text → Option Event
      two names t op left = then_read (first_word (literal_value names) left) (three t op)

      one : List Text → ℕ → List Text → Option Event
      one names t rest = then_read (op_front names tables shape rest) (two names t)

  delay_same : (ws : List Text) → AllByRecursion (Agree old new) ws → delay_of old tables shape ws ≡ delay_of new tables shape ws
  delay_same ws all = then_equal (Agree old new) (first_word small_number ws) (first_word small_number ws) (one old) (one new) (number_same ws all) (λ t rest l.
      then_equal (Agree old new) (op_front old tables shape rest) (op_front new tables shape rest) (two old t) (two new t) (op_same rest l) (λ op left m.
      then_equal (Agree old new) (first_word small_number left) (first_word small_number left) (three old t op) (three new t op) (number_same left m) (λ older last k.
      then_equal (Agree old new) (symbol_front old tables shape last) (symbol_front new tables shape last) (four t op older) (four t op older) (symbol_same last k) (λ s more j. refl))))
    where
      four : ℕ → Op → ℕ → Symbol → List Text → Option Event
      four t op older s more = none_left (Delay t op older s) more

      three : List Text → ℕ → Op → ℕ → List Text → Option Event
      three names t op older last = then_read (symbol_front names tables shape last) (four t op older)

      two : List Text → ℕ → Op → List Text → Option Event
      two names t op left = then_read (first_word small_number left) (three names t op)

      one : List Text → ℕ → List Text → Option Event
      one names t rest = then_read (op_front names tables shape rest) (two names t)

  literals_same : (ws : List Text) → AllByRecursion (Agree old new) ws → all_literals old ws ≡ all_literals new ws
  literals_same [] all = refl
  literals_same (w ∷ ws) all =
      ap (λ (o : Option Value). option_and_then (λ (v : Value). option_map (λ (vs : List Value). v ∷ vs) (all_literals old ws)) o) all.0
      ∙ ap (λ (r : Option (List Value)). option_and_then (λ (v : Value). option_map (λ (vs : List Value). v ∷ vs) r) (literal_value new w)) (literals_same ws all.1)

  end_same : (ws : List Text) → AllByRecursion (Agree old new) ws → end_of old ws ≡ end_of new ws
  end_same ws all = then_equal (Agree old new) (first_word small_number ws) (first_word small_number ws) (one old) (one new) (number_same ws all)
      (λ t rest l. ap (λ (r : Option (List Value)). option_map (λ (x : Reply). End t x) (option_and_then as_reply r)) (literals_same rest l))
    where
      one : List Text → ℕ → List Text → Option Event
      one names t rest = option_map (λ (r : Reply). End t r) (option_and_then as_reply (all_literals names rest))

  -- the event that some words are stays the same where each word is the same literal
  pub event_same : (w : Text) (ws : List Text) → AllByRecursion (Agree old new) ws → event_of old tables shape (w ∷ ws) ≡ event_of new tables shape (w ∷ ws)
  event_same w ws all =
      ap (λ (o : Option Event). cond (bytes_eq w (codes "begin")) (begin_of ws) (cond (bytes_eq w (codes "done")) o (after_done old))) (done_same ws all)
      ∙ ap (λ (o : Option Event). cond (bytes_eq w (codes "begin")) (begin_of ws) (cond (bytes_eq w (codes "done")) (done_of new tables shape ws) (cond (bytes_eq w (codes "delay")) o (after_delay old)))) (delay_same ws all)
      ∙ ap (λ (o : Option Event). cond (bytes_eq w (codes "begin")) (begin_of ws) (cond (bytes_eq w (codes "done")) (done_of new tables shape ws) (cond (bytes_eq w (codes "delay")) (delay_of new tables shape ws) (cond (bytes_eq w (codes "end")) o None)))) (end_same ws all)
    where
      after_delay : List Text → Option Event
      after_delay names = cond (bytes_eq w (codes "end")) (end_of names ws) None

      after_done : List Text → Option Event
      after_done names = cond (bytes_eq w (codes "delay")) (delay_of names tables shape ws) (after_delay names)
