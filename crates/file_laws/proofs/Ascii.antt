-- The lines of events are ASCII.
use Rattle.std.proofs.Common.{◌≡◌, ℕ, zero, suc, ◌<◌, ◌^◌, List, [], ◌∷◌, ◌++◌, length, map, take, Option, Some, None, slice_get, true, refl, sym, subst, arith}
use Rattle.std.specs.Fmt.{decimal}
use Rattle.std.specs.List.{AllByRecursion}
use Rattle.std.specs.Option.{unwrap_or}
use Rattle.std.specs.Prelude.{slice_index}
use Rattle.session_values.proofs.Lists.{all_join}
use Rattle.session_values.specs.declared.kind.Kind.{Kind}
use Rattle.session_values.specs.declared.kind.Kind.TheVariants.{Get, Put, Swap, Del, Size, Bump, Has, Add, Mark, Drop, Count}
use Rattle.session_values.specs.declared.kind.TableKind.{TableKind}
use Rattle.session_values.specs.declared.op.Op.{Op}
use Rattle.session_values.specs.declared.value.Value.{Value}
use Rattle.session_values.specs.declared.value.Value.TheVariants.{Nil, Num, Sym}
use Rattle.session_values.specs.Kinds.{arguments, word_of as kind_word}
use Rattle.session_values.specs.Reply.{values_of}
use Rattle.session_journal.specs.Arg.{Arg}
use Rattle.session_journal.specs.Arg.TheVariants.{Known, Var, Any}
use Rattle.session_journal.specs.Symbol.{Symbol}
use Rattle.session_journal.specs.declared.event.Event.{Event}
use Rattle.session_journal.specs.declared.event.Event.TheVariants.{Begin, Done, Delay, End}
use Rattle.text_lines.specs.Text.{Text}
use Rattle.text_lines.specs.Values.{is_symbol}
use Rattle.text_lines.specs.ValueWords.{IsWritable, literal_text}
use Rattle.text_lines.specs.Words.{after_spaces, spaced}
use Rattle.serve_faults.specs.EventText.{arg_text, event_text, event_words, events_text, op_words, symbol_text, symbol_words, text_at}
use Rattle.serve_faults.specs.EventWords.{IsReadableArg, IsReadableEvent, IsReadableOp, IsReadableSymbol, table_names}
use Rattle.file_laws.proofs.EntryLines.{decimal_ascii, number_ascii}
use Rattle.serve_faults.proofs.SymbolTexts.{symbol_bytes}

abbrev pub IsAscii : Text → Type 0
IsAscii w = AllByRecursion (λ b. b < 128) w

both : (xs ys : Text) → IsAscii xs → IsAscii ys → IsAscii (xs ++ ys)
both xs ys a b = all_join (λ b. b < 128) xs ys a b

-- ---- words

small_ascii : (n : ℕ) → n < 2 ^ 32 → IsAscii (decimal n)
small_ascii n h = decimal_ascii n (omega (arith, h))

kind_ascii : (k : Kind) → IsAscii (kind_word k)
kind_ascii Get = (omega arith, (omega arith, (omega arith, tt)))
kind_ascii Put = (omega arith, (omega arith, (omega arith, tt)))
kind_ascii Swap = (omega arith, (omega arith, (omega arith, (omega arith, tt))))
kind_ascii Del = (omega arith, (omega arith, (omega arith, tt)))
kind_ascii Size = (omega arith, (omega arith, (omega arith, (omega arith, tt))))
kind_ascii Bump = (omega arith, (omega arith, (omega arith, (omega arith, tt))))
kind_ascii Has = (omega arith, (omega arith, (omega arith, tt)))
kind_ascii Add = (omega arith, (omega arith, (omega arith, tt)))
kind_ascii Mark = (omega arith, (omega arith, (omega arith, (omega arith, tt))))
kind_ascii Drop = (omega arith, (omega arith, (omega arith, (omega arith, tt))))
kind_ascii Count = (omega arith, (omega arith, (omega arith, (omega arith, (omega arith, tt)))))

literal_ascii : (names : List Text) (v : Value) → IsWritable names v → IsAscii (literal_text names v)
literal_ascii names Nil h = (omega arith, (omega arith, (omega arith, tt)))
literal_ascii names (Num z) h = number_ascii z h
literal_ascii names (Sym place) h = subst (λ (o : Option Text). IsAscii (39 ∷ unwrap_or o [])) (sym h.at) (omega arith, symbol_bytes h.text h.symbol)

arg_ascii : (names : List Text) (a : Arg) → IsReadableArg names a → IsAscii (arg_text names a)
arg_ascii names (Known Nil) h = (omega arith, (omega arith, (omega arith, tt)))
arg_ascii names (Known (Num z)) h = number_ascii z h
arg_ascii names (Known (Sym place)) h = go (slice_get names place) h
  where
    go : (o : Option Text) → ((text : Text) → o ≡ Some text → is_symbol text ≡ true) → IsAscii (symbol_text o)
    go None h = (omega arith, (omega arith, (omega arith, tt)))
    go (Some t) h = (omega arith, symbol_bytes t (h t refl))
arg_ascii names (Var x) h = absurd h
arg_ascii names Any h = (omega arith, (omega arith, (omega arith, tt)))

used_ascii : {X : Type 0} (g : X → Text) (n : ℕ) (k v : X) → IsAscii (g k) → IsAscii (g v) → AllByRecursion IsAscii (map g (take n (k ∷ v ∷ [])))
used_ascii g zero k v a b = tt
used_ascii g (suc zero) k v a b = (a, tt)
used_ascii g (suc (suc zero)) k v a b = (a, (b, tt))
used_ascii g (suc (suc (suc n))) k v a b = (a, (b, tt))

literals_ascii : (names : List Text) (vs : List Value) → AllByRecursion (IsWritable names) vs → AllByRecursion IsAscii (map (literal_text names) vs)
literals_ascii names [] all = tt
literals_ascii names (v ∷ vs) all = (literal_ascii names v all.0, literals_ascii names vs all.1)

name_ascii : (f : ℕ → Text) (tables : List ℕ) (t : ℕ) → t < length tables → AllByRecursion IsAscii (map f tables) → IsAscii (f (slice_index tables t))
name_ascii f [] t l all = absurd (omega (arith, l))
name_ascii f (x ∷ xs) zero l all = all.0
name_ascii f (x ∷ xs) (suc t) l all = name_ascii f xs t (omega (arith, l)) all.1

-- ---- lines

after_ascii : (ws : List Text) → AllByRecursion IsAscii ws → IsAscii (after_spaces ws)
after_ascii [] h = tt
after_ascii (w ∷ ws) h = (omega arith, both w (after_spaces ws) h.0 (after_ascii ws h.1))

spaced_ascii : (ws : List Text) → AllByRecursion IsAscii ws → IsAscii (spaced ws)
spaced_ascii [] h = tt
spaced_ascii (w ∷ ws) h = both w (after_spaces ws) h.0 (after_ascii ws h.1)

module _ (names : List Text) (tables : List ℕ) (shape : List TableKind) (named : AllByRecursion IsAscii (table_names names tables)) where
  op_ascii : (op : Op) → IsReadableOp names tables shape op → AllByRecursion IsAscii (op_words names tables op)
  op_ascii op h = (kind_ascii op.kind, (name_ascii (text_at names) tables op.table h.at.exists named, used_ascii (literal_text names) (arguments op.kind) op.key op.value (literal_ascii names op.key h.key) (literal_ascii names op.value h.value)))

  symbol_ascii : (s : Symbol) → IsReadableSymbol names tables shape s → AllByRecursion IsAscii (symbol_words names tables s)
  symbol_ascii s h = (kind_ascii s.kind, (name_ascii (text_at names) tables s.table h.at.exists named, used_ascii (arg_text names) (arguments s.kind) s.key s.value (arg_ascii names s.key h.key) (arg_ascii names s.value h.value)))

  words_ascii : (e : Event) → IsReadableEvent names tables shape e → AllByRecursion IsAscii (event_words names tables e)
  words_ascii (Begin t c) h = ((omega arith, (omega arith, (omega arith, (omega arith, (omega arith, tt))))), (small_ascii t h.0, (small_ascii c h.1, tt)))
  words_ascii (Done t op v) h =
      ((omega arith, (omega arith, (omega arith, (omega arith, tt)))), (small_ascii t h.0, all_join IsAscii (op_words names tables op) (literal_text names v ∷ []) (op_ascii op h.1) (literal_ascii names v h.2, tt)))
  words_ascii (Delay t op older s) h =
      ((omega arith, (omega arith, (omega arith, (omega arith, (omega arith, tt))))), (small_ascii t h.0, all_join IsAscii (op_words names tables op) (decimal older ∷ symbol_words names tables s) (op_ascii op h.2) (small_ascii older h.1, symbol_ascii s h.3)))
  words_ascii (End t r) h = ((omega arith, (omega arith, (omega arith, tt))), (small_ascii t h.0, literals_ascii names (values_of r) h.1.values))

  pub events_ascii : (es : List Event) → AllByRecursion (IsReadableEvent names tables shape) es → AllByRecursion (λ b. b < 128) (events_text names tables es)
  events_ascii [] h = tt
  events_ascii (e ∷ es) h =
      both (event_text names tables e) (events_text names tables es) (both (spaced (event_words names tables e)) (10 ∷ []) (spaced_ascii (event_words names tables e) (words_ascii e h.0)) (omega arith, tt)) (events_ascii es h.1)
