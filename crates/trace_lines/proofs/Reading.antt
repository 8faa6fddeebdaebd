-- The words of an event are read as what was written.
use Rattle.std.proofs.Common.{◌≡◌, ◌==◌, ℕ, zero, suc, ◌<◌, ◌≤◌, ◌^◌, Bool, true, false, cond, ◌&&◌, nat_le, List, [], ◌∷◌, ◌++◌, length, map, take, Option, Some, None, codes, refl, sym, ap, ◌∙◌, arith, slice_get}
use Rattle.std.proofs.lemmas.Bool.Decides.{nat_tests}
use Rattle.std.proofs.lemmas.Fmt.{digits_value-decimal}
use Rattle.std.specs.Fmt.{decimal}
use Rattle.std.specs.Option.{option_map}
use Rattle.std.specs.Str.{bytes_eq}
use Rattle.session_values.specs.declared.kind.Kind.{Kind}
use Rattle.session_values.specs.declared.kind.Kind.TheVariants.{Get, Put, Swap, Del, Size, Bump, Has, Add, Mark, Drop, Count}
use Rattle.session_values.specs.declared.kind.TableKind.{TableKind}
use Rattle.session_values.specs.Kinds.{arguments, home, word_of as kind_word}
use Rattle.std.specs.Char.{is_ascii_alphabetic}
use Rattle.std.specs.List.{AllByRecursion}
use Rattle.std.specs.Option.{option_and_then, unwrap_or}
use Rattle.std.specs.Prelude.{slice_index}
use Rattle.std.specs.Fmt.{signed_decimal}
use Rattle.std.proofs.lemmas.List.{append-nil}
use Rattle.session_values.specs.declared.op.Op.{Op}
use Rattle.session_values.specs.declared.reply.Reply.{Reply}
use Rattle.session_values.specs.declared.value.Value.{Value}
use Rattle.session_values.specs.declared.value.Value.TheVariants.{Nil, Num, Sym}
use Rattle.session_values.specs.Reply.{IsReply, values_of}
use Rattle.symbolic_ops.specs.declared.arg.Arg.{Arg}
use Rattle.symbolic_ops.specs.declared.arg.Arg.TheVariants.{Known, Var, Any}
use Rattle.symbolic_ops.specs.declared.symbol.Symbol.{Symbol}
use Rattle.session_journal.specs.declared.event.Event.{Event}
use Rattle.session_journal.specs.declared.event.Event.TheVariants.{Begin, Done, Delay, End}
use Rattle.text_lines.specs.ValueWords.{IsWritable, literal_text, literal_value}
use Rattle.text_lines.proofs.NumbersBack.{numeral}
use Rattle.text_lines.proofs.ValuesBack.{literal_back}
use Rattle.trace_lines.specs.EventText.{arg_text, event_words, op_words, symbol_text, symbol_words, text_at}
use Rattle.session_values.specs.Names.{AreDistinct, place_of}
use Rattle.session_values.proofs.NamesLemmas.{bytes_eq_same, place_is}
use Rattle.text_lines.specs.Values.{is_symbol, number_from}
use Rattle.text_lines.proofs.NumberLemmas.{numerals}
use Rattle.trace_lines.specs.EventWords.{Front, HasHome, IsReadableArg, IsReadableEvent, IsReadableOp, IsReadableSymbol, all_literals, arg_as_read, arg_value, arguments_front, as_read, as_reply, event_of, first_word, head_front, kind_of, none_left, op_front, place_as_read, small_number, symbol_as_read, symbol_front, table_names, table_of, then_read, works_on}

pub kind_back : (k : Kind) → kind_of (kind_word k) ≡ Some k
kind_back Get = refl
kind_back Put = refl
kind_back Swap = refl
kind_back Del = refl
kind_back Size = refl
kind_back Bump = refl
kind_back Has = refl
kind_back Add = refl
kind_back Mark = refl
kind_back Drop = refl
kind_back Count = refl

works_home : (k : Kind) → works_on k (Some (home k)) ≡ true
works_home Get = refl
works_home Put = refl
works_home Swap = refl
works_home Del = refl
works_home Size = refl
works_home Bump = refl
works_home Has = refl
works_home Add = refl
works_home Mark = refl
works_home Drop = refl
works_home Count = refl

small_limit : (n : ℕ) → n < 2 ^ 32 → nat_le n 4294967295 ≡ true
small_limit n h = grind (arith, nat_tests, h)

-- the digits of a number are this number
pub small_back : (n : ℕ) → n < 2 ^ 32 → small_number (decimal n) ≡ Some n
small_back n h =
    let v : number_from 0 (decimal n) ≡ n = digits_value-decimal numerals n (omega (arith, h)) in
    ap (λ (m : ℕ). cond (bytes_eq (decimal n) (decimal m) && nat_le m 4294967295) (Some m) None) v
    ∙ ap (λ (b : Bool). cond (b && nat_le n 4294967295) (Some n) None) (bytes_eq_same (decimal n))
    ∙ ap (λ (b : Bool). cond b (Some n) None) (small_limit n h)

-- the name of a table is this table
pub table_back : (texts : List (List ℕ)) (shape : List TableKind) (k : Kind) (t : ℕ) (w : List ℕ) → AreDistinct texts → slice_get texts t ≡ Some w → slice_get shape t ≡ Some (home k) → table_of texts shape k w ≡ Some t
table_back texts shape k t w d at kind =
    let p : t ≡ place_of texts w = place_is w texts t d at in
    ap (λ (i : ℕ). cond (works_on k (slice_get shape i)) (Some i) None) (sym p)
    ∙ ap (λ (o : Option TableKind). cond (works_on k o) (Some t) None) kind
    ∙ ap (λ (b : Bool). cond b (Some t) None) (works_home k)

-- what one word says, before others
pub word_front : {X : Type 0} (f : List ℕ → Option X) (w : List ℕ) (ws : List (List ℕ)) (x : X) → f w ≡ Some x → first_word f (w ∷ ws) ≡ Some (x, ws)
word_front {X} f w ws x e = ap (λ (o : Option X). option_map (λ y. (y, ws)) o) e

pub head_back : (texts : List (List ℕ)) (shape : List TableKind) (k : Kind) (t : ℕ) (w : List ℕ) (ws : List (List ℕ)) → table_of texts shape k w ≡ Some t → head_front texts shape (kind_word k ∷ w ∷ ws) ≡ Some ((k, t), ws)
head_back texts shape k t w ws e =
    ap (λ (r : Front Kind). then_read r (λ kind rest. then_read (first_word (table_of texts shape kind) rest) (λ u more. Some ((kind, u), more)))) (word_front kind_of (kind_word k) (w ∷ ws) k (kind_back k))
    ∙ ap (λ (r : Front ℕ). then_read r (λ u more. Some ((k, u), more))) (word_front (table_of texts shape k) w ws t e)

-- arguments: of those that there are the words are written, and each other one is this
module _ {X : Type 0} (f : List ℕ → Option X) (g : X → List ℕ) (none key value k v : X) (ws : List (List ℕ)) where
  pub arguments_back : (n : ℕ) → n ≤ 2 → f (g key) ≡ Some k → f (g value) ≡ Some v → (n < 1 → k ≡ none) → (n < 2 → v ≡ none) → arguments_front f none n (map g (take n (key ∷ value ∷ [])) ++ ws) ≡ Some ((k, v), ws)
  arguments_back zero l a b c d = ap (λ (x : X). Some ((x, none), ws)) (sym (c (omega arith))) ∙ ap (λ (x : X). Some ((k, x), ws)) (sym (d (omega arith)))
  arguments_back (suc zero) l a b c d =
      ap (λ (r : Front X). then_read r (λ x rest. Some ((x, none), rest))) (word_front f (g key) ws k a)
      ∙ ap (λ (x : X). Some ((k, x), ws)) (sym (d (omega arith)))
  arguments_back (suc (suc zero)) l a b c d =
      ap (λ (r : Front X). then_read r (λ x rest. then_read (first_word f rest) (λ y more. Some ((x, y), more)))) (word_front f (g key) (g value ∷ ws) k a)
      ∙ ap (λ (r : Front X). then_read r (λ y more. Some ((k, y), more))) (word_front f (g value) ws v b)
  arguments_back (suc (suc (suc n))) l a b c d = absurd (omega (arith, l))

few : (k : Kind) → arguments k ≤ 2
few Get = omega arith
few Put = omega arith
few Swap = omega arith
few Del = omega arith
few Size = omega arith
few Bump = omega arith
few Has = omega arith
few Add = omega arith
few Mark = omega arith
few Drop = omega arith
few Count = omega arith

name_at : (f : ℕ → List ℕ) (tables : List ℕ) (t : ℕ) → t < length tables → slice_get (map f tables) t ≡ Some (f (slice_index tables t))
name_at f [] t l = absurd (omega (arith, l))
name_at f (x ∷ xs) zero l = refl
name_at f (x ∷ xs) (suc t) l = name_at f xs t (omega (arith, l))

-- ---- arguments of symbols
no_any : (w : List ℕ) → is_ascii_alphabetic (slice_index w 0) ≡ false → bytes_eq w (codes "any") ≡ false
no_any [] e = refl
no_any (b ∷ bs) e = let other : (b == 97) ≡ false = grind (arith, nat_tests, e) in ap (λ (x : Bool). x && bytes_eq bs (codes "ny")) other

by_any : (names : List (List ℕ)) (w : List ℕ) (v : Value) → bytes_eq w (codes "any") ≡ false → literal_value names w ≡ Some v → arg_value names w ≡ Some (Known v)
by_any names w v e h = ap (λ (b : Bool). cond b (Some Any) (option_map (λ (x : Value). Known x) (literal_value names w))) e ∙ ap (option_map (λ (x : Value). Known x)) h

place_back : (names : List (List ℕ)) (place : ℕ) (o : Option (List ℕ)) → AreDistinct names → slice_get names place ≡ o → ((text : List ℕ) → slice_get names place ≡ Some text → is_symbol text ≡ true) → arg_value names (symbol_text o) ≡ Some (place_as_read place o)
place_back names place None d e h = refl
place_back names place (Some t) d e h =
    by_any names (39 ∷ t) (Sym place) refl
    (ap (λ (o : Option (List ℕ)). literal_value names (39 ∷ unwrap_or o [])) (sym e)
    ∙ literal_back names (Sym place) d (record { text = t; at = e; symbol = h t e }))

pub arg_back : (names : List (List ℕ)) (a : Arg) → AreDistinct names → IsReadableArg names a → arg_value names (arg_text names a) ≡ Some (arg_as_read names a)
arg_back names (Known Nil) d h = by_any names (codes "nil") Nil refl (literal_back names Nil d tt)
arg_back names (Known (Num z)) d h = by_any names (signed_decimal z) (Num z) (no_any (signed_decimal z) (numeral z h).letter) (literal_back names (Num z) d h)
arg_back names (Known (Sym place)) d h = place_back names place (slice_get names place) d refl h
arg_back names (Var x) d h = absurd h
arg_back names Any d h = refl

-- ---- operations and symbols
module _ (names : List (List ℕ)) (tables : List ℕ) (shape : List TableKind) (dn : AreDistinct names) (dt : AreDistinct (table_names names tables)) where
  home_back : (k : Kind) (t : ℕ) (ws : List (List ℕ)) → HasHome tables shape k t → head_front (table_names names tables) shape (kind_word k ∷ text_at names (slice_index tables t) ∷ ws) ≡ Some ((k, t), ws)
  home_back k t ws h = head_back (table_names names tables) shape k t (text_at names (slice_index tables t)) ws (table_back (table_names names tables) shape k t (text_at names (slice_index tables t)) dt (name_at (text_at names) tables t h.exists) h.works)

  pub op_back : (op : Op) (ws : List (List ℕ)) → IsReadableOp names tables shape op → op_front names tables shape (op_words names tables op ++ ws) ≡ Some (op, ws)
  op_back op ws h =
      ap (λ (r : Front (Kind × ℕ)). then_read r (λ x rest. then_read (arguments_front (literal_value names) Nil (arguments x.0) rest) (λ a more. Some (record { kind = x.0; table = x.1; key = a.0; value = a.1 }, more)))) (home_back op.kind op.table (map (literal_text names) (take (arguments op.kind) (op.key ∷ op.value ∷ [])) ++ ws) h.at)
      ∙ ap (λ (r : Front (Value × Value)). then_read r (λ a more. Some (record { kind = op.kind; table = op.table; key = a.0; value = a.1 }, more))) (arguments_back (literal_value names) (literal_text names) Nil op.key op.value op.key op.value ws (arguments op.kind) (few op.kind) (literal_back names op.key dn h.key) (literal_back names op.value dn h.value) h.unused.0 h.unused.1)

  known_nil : (a : Arg) → a ≡ Known Nil → arg_as_read names a ≡ Known Nil
  known_nil a e = ap (arg_as_read names) e

  pub symbol_back : (s : Symbol) (ws : List (List ℕ)) → IsReadableSymbol names tables shape s → symbol_front names tables shape (symbol_words names tables s ++ ws) ≡ Some (symbol_as_read names s, ws)
  symbol_back s ws h =
      ap (λ (r : Front (Kind × ℕ)). then_read r (λ x rest. then_read (arguments_front (arg_value names) (Known Nil) (arguments x.0) rest) (λ a more. Some (record { kind = x.0; table = x.1; key = a.0; value = a.1 }, more)))) (home_back s.kind s.table (map (arg_text names) (take (arguments s.kind) (s.key ∷ s.value ∷ [])) ++ ws) h.at)
      ∙ ap (λ (r : Front (Arg × Arg)). then_read r (λ a more. Some (record { kind = s.kind; table = s.table; key = a.0; value = a.1 }, more))) (arguments_back (arg_value names) (arg_text names) (Known Nil) s.key s.value (arg_as_read names s.key) (arg_as_read names s.value) ws (arguments s.kind) (few s.kind) (arg_back names s.key dn h.key) (arg_back names s.value dn h.value) (λ l. known_nil s.key (h.unused.0 l)) (λ l. known_nil s.value (h.unused.1 l)))

-- ---- replies
literals_back : (names : List (List ℕ)) (vs : List Value) → AreDistinct names → AllByRecursion (IsWritable names) vs → all_literals names (map (literal_text names) vs) ≡ Some vs
literals_back names [] d all = refl
literals_back names (v ∷ vs) d all =
    ap (option_and_then (λ (x : Value). option_map (λ (xs : List Value). x ∷ xs) (all_literals names (map (literal_text names) vs)))) (literal_back names v d all.0)
    ∙ ap (option_map (λ (xs : List Value). v ∷ xs)) (literals_back names vs d all.1)

reply_back : (n : ℕ) (a b c d : Value) → IsReply n b c d → as_reply (take n (a ∷ b ∷ c ∷ d ∷ [])) ≡ Some (record { count = n; a = a; b = b; c = c; d = d })
reply_back zero a b c d h = absurd (omega (arith, h.0))
reply_back (suc zero) a b c d h =
    ap (λ (x : Value). Some (record { count = 1; a = a; b = x; c = Nil; d = Nil })) (sym (h.2 (omega arith)))
    ∙ ap (λ (x : Value). Some (record { count = 1; a = a; b = b; c = x; d = Nil })) (sym (h.3 (omega arith)))
    ∙ ap (λ (x : Value). Some (record { count = 1; a = a; b = b; c = c; d = x })) (sym (h.4 (omega arith)))
reply_back (suc (suc zero)) a b c d h =
    ap (λ (x : Value). Some (record { count = 2; a = a; b = b; c = x; d = Nil })) (sym (h.3 (omega arith)))
    ∙ ap (λ (x : Value). Some (record { count = 2; a = a; b = b; c = c; d = x })) (sym (h.4 (omega arith)))
reply_back (suc (suc (suc zero))) a b c d h = ap (λ (x : Value). Some (record { count = 3; a = a; b = b; c = c; d = x })) (sym (h.4 (omega arith)))
reply_back (suc (suc (suc (suc zero)))) a b c d h = refl
reply_back (suc (suc (suc (suc (suc n))))) a b c d h = absurd (omega (arith, h.1))

-- ---- events
module _ (names : List (List ℕ)) (tables : List ℕ) (shape : List TableKind) (dn : AreDistinct names) (dt : AreDistinct (table_names names tables)) where
  pub event_back : (e : Event) → IsReadableEvent names tables shape e → event_of names tables shape (event_words names tables e) ≡ Some (as_read names e)
  event_back (Begin t c) h =
      ap (λ (r : Front ℕ). then_read r (λ u rest. then_read (first_word small_number rest) (λ x more. none_left (Begin u x) more))) (word_front small_number (decimal t) (decimal c ∷ []) t (small_back t h.0))
      ∙ ap (λ (r : Front ℕ). then_read r (λ x more. none_left (Begin t x) more)) (word_front small_number (decimal c) [] c (small_back c h.1))
  event_back (Done t op v) h =
      ap (λ (r : Front ℕ). then_read r (λ u rest. then_read (op_front names tables shape rest) (λ o left. then_read (first_word (literal_value names) left) (λ x more. none_left (Done u o x) more)))) (word_front small_number (decimal t) (op_words names tables op ++ literal_text names v ∷ []) t (small_back t h.0))
      ∙ ap (λ (r : Front Op). then_read r (λ o left. then_read (first_word (literal_value names) left) (λ x more. none_left (Done t o x) more))) (op_back names tables shape dn dt op (literal_text names v ∷ []) h.1)
      ∙ ap (λ (r : Front Value). then_read r (λ x more. none_left (Done t op x) more)) (word_front (literal_value names) (literal_text names v) [] v (literal_back names v dn h.2))
  event_back (Delay t op older s) h =
      ap (λ (r : Front ℕ). then_read r (λ u rest. then_read (op_front names tables shape rest) (λ o left. then_read (first_word small_number left) (λ y last. then_read (symbol_front names tables shape last) (λ x more. none_left (Delay u o y x) more))))) (word_front small_number (decimal t) (op_words names tables op ++ decimal older ∷ symbol_words names tables s) t (small_back t h.0))
      ∙ ap (λ (r : Front Op). then_read r (λ o left. then_read (first_word small_number left) (λ y last. then_read (symbol_front names tables shape last) (λ x more. none_left (Delay t o y x) more)))) (op_back names tables shape dn dt op (decimal older ∷ symbol_words names tables s) h.2)
      ∙ ap (λ (r : Front ℕ). then_read r (λ y last. then_read (symbol_front names tables shape last) (λ x more. none_left (Delay t op y x) more))) (word_front small_number (decimal older) (symbol_words names tables s) older (small_back older h.1))
      ∙ ap (λ (ws : List (List ℕ)). then_read (symbol_front names tables shape ws) (λ x more. none_left (Delay t op older x) more)) (sym (append-nil (symbol_words names tables s)))
      ∙ ap (λ (r : Front Symbol). then_read r (λ x more. none_left (Delay t op older x) more)) (symbol_back names tables shape dn dt s [] h.3)
  event_back (End t r) h =
      ap (λ (f : Front ℕ). then_read f (λ u rest. option_map (λ (x : Reply). End u x) (option_and_then as_reply (all_literals names rest)))) (word_front small_number (decimal t) (map (literal_text names) (values_of r)) t (small_back t h.0))
      ∙ ap (λ (o : Option (List Value)). option_map (λ (x : Reply). End t x) (option_and_then as_reply o)) (literals_back names (values_of r) dn h.1.values)
      ∙ ap (option_map (λ (x : Reply). End t x)) (reply_back r.count r.a r.b r.c r.d h.1.count)
