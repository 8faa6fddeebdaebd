-- The lines of events are read as these events.
use Rattle.std.proofs.Common.{◌≡◌, ℕ, zero, suc, ◌<◌, ◌^◌, List, [], ◌∷◌, ◌++◌, length, map, take, Option, Some, None, codes, refl, sym, ap, ◌∙◌, subst, arith, slice_get, append_assoc, true}
use Rattle.std.specs.Fmt.{decimal}
use Rattle.std.specs.List.{AllByRecursion}
use Rattle.std.specs.Option.{unwrap_or}
use Rattle.std.specs.Prelude.{slice_index, pos}
use Rattle.session_values.specs.declared.kind.Kind.{Kind}
use Rattle.session_values.specs.declared.kind.Kind.TheVariants.{Get, Put, Swap, Del, Size, Bump, Has, Add, Mark, Drop, Count}
use Rattle.session_values.specs.declared.kind.TableKind.{TableKind}
use Rattle.session_values.specs.declared.op.Op.{Op}
use Rattle.session_values.specs.declared.value.Value.{Value}
use Rattle.session_values.specs.declared.value.Value.TheVariants.{Nil, Num, Sym}
use Rattle.session_values.specs.Kinds.{arguments, word_of as kind_word}
use Rattle.session_values.specs.Names.{AreDistinct}
use Rattle.session_values.specs.Reply.{values_of}
use Rattle.symbolic_ops.specs.declared.arg.Arg.{Arg}
use Rattle.symbolic_ops.specs.declared.arg.Arg.TheVariants.{Known, Var, Any}
use Rattle.symbolic_ops.specs.declared.symbol.Symbol.{Symbol}
use Rattle.session_journal.specs.declared.event.Event.{Event}
use Rattle.session_journal.specs.declared.event.Event.TheVariants.{Begin, Done, Delay, End}
use Rattle.text_lines.specs.Text.{lines, words}
use Rattle.text_lines.specs.Values.{is_symbol}
use Rattle.text_lines.specs.ValueWords.{IsWritable, literal_text}
use Rattle.text_lines.specs.Words.{IsWord, rows_text, spaced}
use Rattle.text_lines.proofs.WordsBack.{nil_word, number_word, rows_back, symbol_word}
use Rattle.trace_lines.specs.EventText.{arg_text, event_words, events_text, op_words, symbol_text, symbol_words, text_at}
use Rattle.trace_lines.specs.EventWords.{IsReadableArg, IsReadableEvent, IsReadableOp, IsReadableSymbol, as_read, event_of, table_names}
use Rattle.trace_lines.proofs.Reading.{event_back}

small_word : (n : ℕ) → n < 2 ^ 32 → IsWord (decimal n)
small_word n h = number_word (pos n) (omega (arith, h))

kind_is_word : (k : Kind) → IsWord (kind_word k)
kind_is_word Get = record { some = omega arith; all = refl; line = refl }
kind_is_word Put = record { some = omega arith; all = refl; line = refl }
kind_is_word Swap = record { some = omega arith; all = refl; line = refl }
kind_is_word Del = record { some = omega arith; all = refl; line = refl }
kind_is_word Size = record { some = omega arith; all = refl; line = refl }
kind_is_word Bump = record { some = omega arith; all = refl; line = refl }
kind_is_word Has = record { some = omega arith; all = refl; line = refl }
kind_is_word Add = record { some = omega arith; all = refl; line = refl }
kind_is_word Mark = record { some = omega arith; all = refl; line = refl }
kind_is_word Drop = record { some = omega arith; all = refl; line = refl }
kind_is_word Count = record { some = omega arith; all = refl; line = refl }

quoted_word : (t : List ℕ) → is_symbol t ≡ true → IsWord (39 ∷ t)
quoted_word t h = let w = symbol_word t h in record { some = omega arith; all = w.all; line = w.line }

literal_word : (names : List (List ℕ)) (v : Value) → IsWritable names v → IsWord (literal_text names v)
literal_word names Nil h = nil_word
literal_word names (Num z) h = number_word z h
literal_word names (Sym place) h = subst (λ (o : Option (List ℕ)). IsWord (39 ∷ unwrap_or o [])) (sym h.at) (quoted_word h.text h.symbol)

any_word : IsWord (codes "any")
any_word = record { some = omega arith; all = refl; line = refl }

arg_word : (names : List (List ℕ)) (a : Arg) → IsReadableArg names a → IsWord (arg_text names a)
arg_word names (Known Nil) h = nil_word
arg_word names (Known (Num z)) h = number_word z h
arg_word names (Known (Sym place)) h = go (slice_get names place) h
  where
    go : (o : Option (List ℕ)) → ((text : List ℕ) → o ≡ Some text → is_symbol text ≡ true) → IsWord (symbol_text o)
    go None h = any_word
    go (Some t) h = quoted_word t (h t refl)
arg_word names (Var x) h = absurd h
arg_word names Any h = any_word

append_words : (xs ys : List (List ℕ)) → AllByRecursion IsWord xs → AllByRecursion IsWord ys → AllByRecursion IsWord (xs ++ ys)
append_words [] ys a b = b
append_words (x ∷ xs) ys a b = (a.0, append_words xs ys a.1 b)

used_words : {X : Type 0} (g : X → List ℕ) (n : ℕ) (k v : X) → IsWord (g k) → IsWord (g v) → AllByRecursion IsWord (map g (take n (k ∷ v ∷ [])))
used_words g zero k v a b = tt
used_words g (suc zero) k v a b = (a, tt)
used_words g (suc (suc zero)) k v a b = (a, (b, tt))
used_words g (suc (suc (suc n))) k v a b = (a, (b, tt))

literal_words : (names : List (List ℕ)) (vs : List Value) → AllByRecursion (IsWritable names) vs → AllByRecursion IsWord (map (literal_text names) vs)
literal_words names [] all = tt
literal_words names (v ∷ vs) all = (literal_word names v all.0, literal_words names vs all.1)

name_word : (f : ℕ → List ℕ) (tables : List ℕ) (t : ℕ) → t < length tables → AllByRecursion IsWord (map f tables) → IsWord (f (slice_index tables t))
name_word f [] t l all = absurd (omega (arith, l))
name_word f (x ∷ xs) zero l all = all.0
name_word f (x ∷ xs) (suc t) l all = name_word f xs t (omega (arith, l)) all.1

module _ (names : List (List ℕ)) (tables : List ℕ) (shape : List TableKind) (named : AllByRecursion IsWord (table_names names tables)) where
  op_are_words : (op : Op) → IsReadableOp names tables shape op → AllByRecursion IsWord (op_words names tables op)
  op_are_words op h = (kind_is_word op.kind, (name_word (text_at names) tables op.table h.at.exists named, used_words (literal_text names) (arguments op.kind) op.key op.value (literal_word names op.key h.key) (literal_word names op.value h.value)))

  symbol_are_words : (s : Symbol) → IsReadableSymbol names tables shape s → AllByRecursion IsWord (symbol_words names tables s)
  symbol_are_words s h = (kind_is_word s.kind, (name_word (text_at names) tables s.table h.at.exists named, used_words (arg_text names) (arguments s.kind) s.key s.value (arg_word names s.key h.key) (arg_word names s.value h.value)))

  event_are_words : (e : Event) → IsReadableEvent names tables shape e → AllByRecursion IsWord (event_words names tables e)
  event_are_words (Begin t c) h = (record { some = omega arith; all = refl; line = refl }, (small_word t h.0, (small_word c h.1, tt)))
  event_are_words (Done t op v) h = (record { some = omega arith; all = refl; line = refl }, (small_word t h.0, append_words (op_words names tables op) (literal_text names v ∷ []) (op_are_words op h.1) (literal_word names v h.2, tt)))
  event_are_words (Delay t op older s) h = (record { some = omega arith; all = refl; line = refl }, (small_word t h.0, append_words (op_words names tables op) (decimal older ∷ symbol_words names tables s) (op_are_words op h.2) (small_word older h.1, symbol_are_words s h.3)))
  event_are_words (End t r) h = (record { some = omega arith; all = refl; line = refl }, (small_word t h.0, literal_words names (values_of r) h.1.values))

  rows_are_words : (es : List Event) → AllByRecursion (IsReadableEvent names tables shape) es → AllByRecursion (AllByRecursion IsWord) (map (event_words names tables) es)
  rows_are_words [] all = tt
  rows_are_words (e ∷ es) all = (event_are_words e all.0, rows_are_words es all.1)

  pub each_back : (es : List Event) → AreDistinct names → AreDistinct (table_names names tables) → AllByRecursion (IsReadableEvent names tables shape) es → map (event_of names tables shape) (map (event_words names tables) es) ≡ map Some (map (as_read names) es)
  each_back [] dn dt all = refl
  each_back (e ∷ es) dn dt all =
      ap (λ (o : Option Event). o ∷ map (event_of names tables shape) (map (event_words names tables) es)) (event_back names tables shape dn dt e all.0)
      ∙ ap (λ (os : List (Option Event)). Some (as_read names e) ∷ os) (each_back es dn dt all.1)

  text_is : (es : List Event) → events_text names tables es ≡ rows_text (map (event_words names tables) es)
  text_is [] = refl
  text_is (e ∷ es) = append_assoc (spaced (event_words names tables e)) (10 ∷ []) (events_text names tables es) ∙ ap (λ (t : List ℕ). spaced (event_words names tables e) ++ 10 ∷ t) (text_is es)

  pub words_back_of : (es : List Event) → AllByRecursion (IsReadableEvent names tables shape) es → map words (lines (events_text names tables es)) ≡ map (event_words names tables) es
  words_back_of es all = ap (λ (t : List ℕ). map words (lines t)) (text_is es) ∙ rows_back (map (event_words names tables) es) (rows_are_words es all)

  pub events_back : (es : List Event) → AreDistinct names → AreDistinct (table_names names tables) → AllByRecursion (IsReadableEvent names tables shape) es → map (event_of names tables shape) (map words (lines (events_text names tables es))) ≡ map Some (map (as_read names) es)
  events_back es dn dt all =
      ap (λ (t : List ℕ). map (event_of names tables shape) (map words (lines t))) (text_is es)
      ∙ ap (map (event_of names tables shape)) (rows_back (map (event_words names tables) es) (rows_are_words es all))
      ∙ each_back es dn dt all
