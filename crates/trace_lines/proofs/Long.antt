-- What has more words than an event has is none.
use Rattle.std.proofs.Common.{◌≡◌, ℕ, zero, suc, ◌+◌, ◌<◌, ◌≤◌, ◌&&◌, Bool, true, false, cond, nat_le, nat_lt, List, [], ◌∷◌, codes, length, Option, Some, None, refl, sym, ap, ◌∙◌, arith}
use Rattle.std.proofs.lemmas.Bool.Decides.{nat_tests}
use Rattle.std.specs.Option.{option_and_then, option_map}
use Rattle.std.specs.Str.{bytes_eq}
use Rattle.session_values.specs.declared.kind.Kind.{Kind}
use Rattle.session_values.specs.declared.kind.TableKind.{TableKind}
use Rattle.session_values.specs.declared.op.Op.{Op}
use Rattle.session_values.specs.declared.reply.Reply.{Reply}
use Rattle.session_values.specs.declared.value.Value.{Value}
use Rattle.session_values.specs.declared.value.Value.TheVariants.{Nil}
use Rattle.session_values.specs.Kinds.{arguments}
use Rattle.session_values.specs.Reply.{reply_of}
use Rattle.symbolic_ops.specs.declared.arg.Arg.{Arg}
use Rattle.symbolic_ops.specs.declared.arg.Arg.TheVariants.{Known}
use Rattle.symbolic_ops.specs.declared.symbol.Symbol.{Symbol}
use Rattle.session_journal.specs.declared.event.Event.{Event}
use Rattle.session_journal.specs.declared.event.Event.TheVariants.{Begin, Done, Delay, End}
use Rattle.text_lines.specs.Text.{Text}
use Rattle.text_lines.specs.ValueWords.{literal_value}
use Rattle.trace_lines.specs.EventWords.{Front, all_literals, arg_value, arguments_front, as_reply, begin_of, delay_of, done_of, end_of, event_of, first_word, head_front, kind_of, none_left, op_front, small_number, symbol_front, table_names, table_of, then_read}

-- of these words at most so many are read
abbrev Takes : {X : Type 0} → ℕ → List Text → Front X → Type 0
Takes n ws None = Unit {0}
Takes n ws (Some x) = length ws ≤ length x.1 + n

first_takes : {X : Type 0} (f : Text → Option X) (ws : List Text) → Takes 1 ws (first_word f ws)
first_takes f [] = tt
first_takes {X} f (w ∷ ws) = go (f w)
  where
    go : (o : Option X) → Takes 1 (w ∷ ws) (option_map (λ (x : X). (x, ws)) o)
    go None = tt
    go (Some x) = omega arith

more_takes : {X : Type 0} (n m : ℕ) (ws rest : List Text) (F : Front X) → Takes m rest F → length ws ≤ length rest + n → Takes (n + m) ws F
more_takes n m ws rest None t l = tt
more_takes n m ws rest (Some x) t l = omega (arith, t, l)

then_takes : {X Y : Type 0} (n m : ℕ) (ws : List Text) (F : Front X) (h : X → List Text → Front Y) → Takes n ws F → ((x : X) (rest : List Text) → Takes m rest (h x rest)) → Takes (n + m) ws (then_read F h)
then_takes n m ws None h t r = tt
then_takes n m ws (Some x) h t r = more_takes n m ws x.1 (h x.0 x.1) (r x.0 x.1) t

-- where more words come than are read, and what reads the rest reads none of them
then_none : {X Y : Type 0} (n k : ℕ) (ws : List Text) (F : Front X) (h : X → List Text → Option Y) → Takes n ws F → n + k < length ws → ((x : X) (rest : List Text) → k < length rest → h x rest ≡ None) → then_read F h ≡ None
then_none n k ws None h t l r = refl
then_none n k ws (Some x) h t l r = r x.0 x.1 (omega (arith, t, l))

left_none : {X : Type 0} (x : X) (ws : List Text) → 0 < length ws → none_left x ws ≡ None
left_none x [] l = absurd (no l)
  where
    no : 0 < 0 → ⊥
    no l = omega (arith, l)
left_none x (w ∷ ws) l = refl

-- ---- fronts
within : {X : Type 0} (n m : ℕ) (ws : List Text) (F : Front X) → n ≤ m → Takes n ws F → Takes m ws F
within n m ws None l t = tt
within n m ws (Some x) l t = omega (arith, l, t)

arguments_takes : {X : Type 0} (f : Text → Option X) (none : X) (n : ℕ) (ws : List Text) → Takes 2 ws (arguments_front f none n ws)
arguments_takes f none zero ws = omega arith
arguments_takes {X} f none (suc zero) ws = within 1 2 ws (arguments_front f none 1 ws) (omega arith) (then_takes 1 0 ws (first_word f ws) (λ (k : X) (rest : List Text). Some ((k, none), rest)) (first_takes f ws) (λ k rest. omega arith))
arguments_takes {X} f none (suc (suc n)) ws =
    then_takes 1 1 ws (first_word f ws) (λ (k : X) (rest : List Text). then_read (first_word f rest) (λ v more. Some ((k, v), more))) (first_takes f ws)
    (λ k rest. then_takes 1 0 rest (first_word f rest) (λ (v : X) (more : List Text). Some ((k, v), more)) (first_takes f rest) (λ v more. omega arith))

head_takes : (names : List Text) (shape : List TableKind) (ws : List Text) → Takes 2 ws (head_front names shape ws)
head_takes names shape ws =
    then_takes 1 1 ws (first_word kind_of ws) (λ (kind : Kind) (rest : List Text). then_read (first_word (table_of names shape kind) rest) (λ t more. Some ((kind, t), more))) (first_takes kind_of ws)
    (λ kind rest. then_takes 1 0 rest (first_word (table_of names shape kind) rest) (λ (t : ℕ) (more : List Text). Some ((kind, t), more)) (first_takes (table_of names shape kind) rest) (λ t more. omega arith))

module _ (names : List Text) (tables : List ℕ) (shape : List TableKind) where
  op_takes : (ws : List Text) → Takes 4 ws (op_front names tables shape ws)
  op_takes ws = then_takes 2 2 ws (head_front (table_names names tables) shape ws) by (head_takes (table_names names tables) shape ws)
      (λ h rest. then_takes 2 0 rest (arguments_front (literal_value names) Nil (arguments h.0) rest) (to h) (arguments_takes (literal_value names) Nil (arguments h.0) rest) (λ a more. omega arith))
    where
      to : Kind × ℕ → Value × Value → List Text → Front Op
      to h a more = Some (record { kind = h.0; table = h.1; key = a.0; value = a.1 }, more)

      by : Kind × ℕ → List Text → Front Op
      by h rest = then_read (arguments_front (literal_value names) Nil (arguments h.0) rest) (to h)

  symbol_takes : (ws : List Text) → Takes 4 ws (symbol_front names tables shape ws)
  symbol_takes ws = then_takes 2 2 ws (head_front (table_names names tables) shape ws) by (head_takes (table_names names tables) shape ws)
      (λ h rest. then_takes 2 0 rest (arguments_front (arg_value names) (Known Nil) (arguments h.0) rest) (to h) (arguments_takes (arg_value names) (Known Nil) (arguments h.0) rest) (λ a more. omega arith))
    where
      to : Kind × ℕ → Arg × Arg → List Text → Front Symbol
      to h a more = Some (record { kind = h.0; table = h.1; key = a.0; value = a.1 }, more)

      by : Kind × ℕ → List Text → Front Symbol
      by h rest = then_read (arguments_front (arg_value names) (Known Nil) (arguments h.0) rest) (to h)

  -- ---- events
  begin_long : (ws : List Text) → 10 < length ws → begin_of ws ≡ None
  begin_long ws l = then_none 1 9 ws (first_word small_number ws) (λ (t : ℕ) (rest : List Text). then_read (first_word small_number rest) (λ c more. none_left (Begin t c) more)) (first_takes small_number ws) (omega (arith, l)) (λ t rest k.
      then_none 1 8 rest (first_word small_number rest) (λ (c : ℕ) (more : List Text). none_left (Begin t c) more) (first_takes small_number rest) (omega (arith, k)) (λ c more j. left_none (Begin t c) more (omega (arith, j))))

  done_long : (ws : List Text) → 10 < length ws → done_of names tables shape ws ≡ None
  done_long ws l = then_none 1 9 ws (first_word small_number ws) one (first_takes small_number ws) (omega (arith, l)) (λ t rest k.
      then_none 4 5 rest (op_front names tables shape rest) (two t) (op_takes rest) (omega (arith, k)) (λ op left j.
      then_none 1 4 left (first_word (literal_value names) left) (three t op) (first_takes (literal_value names) left) (omega (arith, j)) (λ v more i. left_none (Done t op v) more (omega (arith, i)))))
    where
      three : ℕ → Op → Value → List Text → Option Event
      three t op v more = none_left (Done t op v) more

      two : ℕ → Op → List Text → Option Event
      two t op left = then_read (first_word (literal_value names) left) (three t op)

      one : ℕ → List Text → Option Event
      one t rest = then_read (op_front names tables shape rest) (two t)

  delay_long : (ws : List Text) → 10 < length ws → delay_of names tables shape ws ≡ None
  delay_long ws l = then_none 1 9 ws (first_word small_number ws) one (first_takes small_number ws) (omega (arith, l)) (λ t rest k.
      then_none 4 5 rest (op_front names tables shape rest) (two t) (op_takes rest) (omega (arith, k)) (λ op left j.
      then_none 1 4 left (first_word small_number left) (three t op) (first_takes small_number left) (omega (arith, j)) (λ older last i.
      then_none 4 0 last (symbol_front names tables shape last) (four t op older) (symbol_takes last) (omega (arith, i)) (λ s more h. left_none (Delay t op older s) more h))))
    where
      four : ℕ → Op → ℕ → Symbol → List Text → Option Event
      four t op older s more = none_left (Delay t op older s) more

      three : ℕ → Op → ℕ → List Text → Option Event
      three t op older last = then_read (symbol_front names tables shape last) (four t op older)

      two : ℕ → Op → List Text → Option Event
      two t op left = then_read (first_word small_number left) (three t op)

      one : ℕ → List Text → Option Event
      one t rest = then_read (op_front names tables shape rest) (two t)

  -- as many values as words
  AreAsMany : List Text → Option (List Value) → Type 0
  AreAsMany ws o = (vs : List Value) → o ≡ Some vs → length vs ≡ length ws

  literals_many : (ws : List Text) (vs : List Value) → all_literals names ws ≡ Some vs → length vs ≡ length ws
  literals_many [] vs e = let k : [] ≡ vs = cc in sym (ap (λ (us : List Value). length us) k)
  literals_many (w ∷ ws) vs e = go (literal_value names w) (all_literals names ws) (literals_many ws) e
    where
      go : (o : Option Value) (r : Option (List Value)) → ((us : List Value) → r ≡ Some us → length us ≡ length ws) → option_and_then (λ (v : Value). option_map (λ (us : List Value). v ∷ us) r) o ≡ Some vs → length vs ≡ suc (length ws)
      go None r f h = absurd (cc)
      go (Some v) None f h = absurd (cc)
      go (Some v) (Some us) f h = let k : v ∷ us ≡ vs = cc in sym (ap (λ (xs : List Value). length xs) k) ∙ ap (λ (n : ℕ). suc n) (f us refl)

  many_no_reply : (vs : List Value) → 4 < length vs → as_reply vs ≡ None
  many_no_reply vs l = go (nat_lt 0 (length vs) && nat_le (length vs) 4) refl
    where
      go : (b : Bool) → (nat_lt 0 (length vs) && nat_le (length vs) 4) ≡ b → cond b (Some (reply_of vs)) None ≡ None
      go true e = absurd (grind (arith, nat_tests, l))
      go false e = refl

  reply_long : (ws : List Text) → 4 < length ws → option_and_then as_reply (all_literals names ws) ≡ None
  reply_long ws l = go (all_literals names ws) (literals_many ws)
    where
      go : (o : Option (List Value)) → ((vs : List Value) → o ≡ Some vs → length vs ≡ length ws) → option_and_then as_reply o ≡ None
      go None many = refl
      go (Some vs) many = many_no_reply vs (omega (arith, l, many vs refl))

  end_long : (ws : List Text) → 10 < length ws → end_of names ws ≡ None
  end_long ws l = then_none 1 9 ws (first_word small_number ws) one (first_takes small_number ws) (omega (arith, l))
      (λ t rest k. ap (option_map (λ (r : Reply). End t r)) (reply_long rest (omega (arith, k))))
    where
      one : ℕ → List Text → Option Event
      one t rest = option_map (λ (r : Reply). End t r) (option_and_then as_reply (all_literals names rest))

  pub event_long : (w : Text) (ws : List Text) → 11 ≤ length ws → event_of names tables shape (w ∷ ws) ≡ None
  event_long w ws l = either (bytes_eq w (codes "begin")) (begin_long ws (omega (arith, l)))
      (either (bytes_eq w (codes "done")) (done_long ws (omega (arith, l)))
      (either (bytes_eq w (codes "delay")) (delay_long ws (omega (arith, l)))
      (either (bytes_eq w (codes "end")) (end_long ws (omega (arith, l))) refl)))
    where
      either : (b : Bool) {x y : Option Event} → x ≡ None → y ≡ None → cond b x y ≡ None
      either true e f = e
      either false e f = f
