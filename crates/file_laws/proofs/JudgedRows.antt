-- A delay that is read of words is one of which can be found out whether it is allowed.
use Rattle.std.proofs.Common.{◌≡◌, ℕ, ℤ, zero, suc, ◌<◌, ◌≤◌, ◌^◌, ◌==◌, Bool, true, false, cond, List, [], ◌∷◌, length, drop, slice_index, Option, Some, None, codes, refl, subst, arith}
use Rattle.std.proofs.lemmas.List.Sums.{prefix_len-le-length}
use Rattle.std.specs.Option.{option_map, option_and_then}
use Rattle.std.specs.Str.{bytes_eq}
use Rattle.session_values.specs.Names.{place_of}
use Rattle.session_values.specs.Kinds.{arguments}
use Rattle.session_values.specs.Op.{IsHeld}
use Rattle.session_values.specs.Values.{IsValue}
use Rattle.session_values.specs.declared.kind.TableKind.{TableKind}
use Rattle.session_values.specs.declared.op.Op.{Op}
use Rattle.session_values.specs.declared.reply.Reply.{Reply}
use Rattle.session_values.specs.declared.value.Value.{Value}
use Rattle.session_values.specs.declared.value.Value.TheVariants.{Nil, Num, Sym}
use Rattle.symbolic_ops.specs.Matching.{IsNoVar}
use Rattle.symbolic_ops.specs.Symbol.{IsHeldArg, IsHeldSymbol}
use Rattle.symbolic_ops.specs.declared.arg.Arg.{Arg}
use Rattle.symbolic_ops.specs.declared.arg.Arg.TheVariants.{Known, Any}
use Rattle.symbolic_ops.specs.declared.symbol.Symbol.{Symbol}
use Rattle.session_journal.specs.declared.event.Event.{Event}
use Rattle.session_journal.specs.declared.event.Event.TheVariants.{Begin, Done, Delay, End}
use Rattle.text_lines.specs.Text.{Text}
use Rattle.text_lines.specs.Values.{as_value, is_nil, is_symbol, number}
use Rattle.text_lines.specs.ValueWords.{literal_value}
use Rattle.text_lines.proofs.PrintableLemmas.{number_held}
use Rattle.trace_lines.specs.EventWords.{Front, all_literals, arg_value, arguments_front, as_reply, begin_of, delay_of, done_of, end_of, event_of, first_word, head_front, none_left, op_front, small_number, symbol_front, table_names, then_read}
use Rattle.trace_audit.specs.Deciding.{CanBeJudged}

-- ---- some words, from the first on

-- what a first word says, and what comes of it
record First {X Y : Type 0} (f : Text → Option X) (g : X → List Text → Option Y) (y : Y) : Type 0 where
  word : Text
  said : X
  rest : List Text
  says : f word ≡ Some said
  more : g said rest ≡ Some y

first : {X Y : Type 0} (f : Text → Option X) (ws : List Text) (g : X → List Text → Option Y) (y : Y) → then_read (first_word f ws) g ≡ Some y → First f g y
first f [] g y h = absurd (cc)
first {X} {Y} f (w ∷ ws) g y h = go (f w) refl h
  where
    go : (o : Option X) → f w ≡ o → then_read (option_map (λ (x : X). (x, ws)) o) g ≡ Some y → First f g y
    go None e k = absurd (cc)
    go (Some x) e k = record { word = w; said = x; rest = ws; says = e; more = k }

record Read {X Y : Type 0} (o : Front X) (g : X → List Text → Option Y) (y : Y) : Type 0 where
  said : X
  rest : List Text
  is : o ≡ Some (said, rest)
  more : g said rest ≡ Some y

read : {X Y : Type 0} (o : Front X) (g : X → List Text → Option Y) (y : Y) → then_read o g ≡ Some y → Read o g y
read None g y h = absurd (cc)
read (Some r) g y h = record { said = r.0; rest = r.1; is = refl; more = h }

no_more : {X : Type 0} (x y : X) (ws : List Text) → none_left x ws ≡ Some y → x ≡ y
no_more x y [] h = cc
no_more x y (w ∷ ws) h = absurd (cc)

-- arguments that are asked for are what words say, and others are none
record Asked {X : Type 0} (P : X → Type 0) (none : X) (n : ℕ) (a : X × X) : Type 0 where
  key : P a.0
  value : P a.1
  unused : (n < 1 → a.0 ≡ none) × (n < 2 → a.1 ≡ none)

asked : {X : Type 0} (P : X → Type 0) (f : Text → Option X) (none : X) → P none → ((w : Text) (x : X) → f w ≡ Some x → P x) → (n : ℕ) (ws : List Text) (a : X × X) (rest : List Text) → arguments_front f none n ws ≡ Some (a, rest) → Asked P none n a
asked {X} P f none nothing each zero ws a rest h =
    let same : ◌≡◌ {A = (X × X) × List Text} ((none, none), ws) (a, rest) = cc in
    subst (λ (r : (X × X) × List Text). Asked P none zero r.0) same (record { key = nothing; value = nothing; unused = (λ l. refl, λ l. refl) })
asked {X} P f none nothing each (suc zero) ws a rest h =
    let k = first f ws (λ x more. Some ((x, none), more)) (a, rest) h in
    let same : ◌≡◌ {A = (X × X) × List Text} ((k.said, none), k.rest) (a, rest) = (let m = k.more in cc) in
    subst (λ (r : (X × X) × List Text). Asked P none (suc zero) r.0) same (record { key = each k.word k.said k.says; value = nothing; unused = (λ l. absurd (omega (arith, l)), λ l. refl) })
asked {X} P f none nothing each (suc (suc n)) ws a rest h =
    let k = first f ws (λ x others. then_read (first_word f others) (λ v more. Some ((x, v), more))) (a, rest) h in
    let v = first f k.rest (λ v more. Some ((k.said, v), more)) (a, rest) k.more in
    let same : ◌≡◌ {A = (X × X) × List Text} ((k.said, v.said), v.rest) (a, rest) = (let m = v.more in cc) in
    subst (λ (r : (X × X) × List Text). Asked P none (suc (suc n)) r.0) same (record { key = each k.word k.said k.says; value = each v.word v.said v.says; unused = (λ l. absurd (omega (arith, l)), λ l. absurd (omega (arith, l))) })

-- ---- with so few names

module _ (names : List Text) (few : length names < 2 ^ 32) where
  number_value : (w : Text) (o : Option ℤ) (v : Value) → number w ≡ o → as_value o ≡ Some v → IsValue v
  number_value w None v e h = absurd (cc)
  number_value w (Some n) v e h = let same : Num n ≡ v = cc in subst IsValue same (number_held w n e)

  literal_held : (w : Text) (v : Value) → literal_value names w ≡ Some v → IsValue v
  literal_held w v h = go (slice_index w 0 == 39) (is_symbol (drop 1 w)) (is_nil w) h
    where
      place_held : (t : Text) → IsValue (Sym (place_of names t))
      place_held t = let l : place_of names t ≤ length names = prefix_len-le-length _ names in omega (arith, l, few)

      go : (q s n : Bool) → cond q (cond s (Some (Sym (place_of names (drop 1 w)))) None) (cond n (Some Nil) (as_value (number w))) ≡ Some v → IsValue v
      go true true n k = let same : Sym (place_of names (drop 1 w)) ≡ v = cc in subst IsValue same (place_held (drop 1 w))
      go true false n k = absurd (cc)
      go false s true k = let same : Nil ≡ v = cc in subst IsValue same tt
      go false s false k = number_value w (number w) v refl k

  -- a known argument is a value, and none is a variable
  abbrev IsArg : Arg → Type 0
  IsArg a = IsHeldArg a × IsNoVar a

  arg_held : (w : Text) (a : Arg) → arg_value names w ≡ Some a → IsArg a
  arg_held w a h = go (bytes_eq w (codes "any")) (literal_value names w) refl h
    where
      go : (b : Bool) (o : Option Value) → literal_value names w ≡ o → cond b (Some Any) (option_map (λ (v : Value). Known v) o) ≡ Some a → IsArg a
      go true o f k = let same : Any ≡ a = cc in subst IsArg same (tt, tt)
      go false None f k = absurd (cc)
      go false (Some v) f k = let same : Known v ≡ a = cc in subst IsArg same (literal_held w v f, tt)

  module _ (tables : List ℕ) (shape : List TableKind) where
    op_held : (ws : List Text) (op : Op) (rest : List Text) → op_front names tables shape ws ≡ Some (op, rest) → IsHeld op
    op_held ws op rest e =
        let h = read (head_front (table_names names tables) shape ws) (λ h others. then_read (arguments_front (literal_value names) Nil (arguments h.0) others) (λ a more. Some (record { kind = h.0; table = h.1; key = a.0; value = a.1 }, more))) (op, rest) e in
        let a = read (arguments_front (literal_value names) Nil (arguments h.said.0) h.rest) (λ a more. Some (record { kind = h.said.0; table = h.said.1; key = a.0; value = a.1 }, more)) (op, rest) h.more in
        let made : Op = record { kind = h.said.0; table = h.said.1; key = a.said.0; value = a.said.1 } in
        let same : ◌≡◌ {A = Op × List Text} (made, a.rest) (op, rest) = (let m = a.more in cc) in
        let args = asked IsValue (literal_value names) Nil tt literal_held (arguments h.said.0) h.rest a.said a.rest a.is in
        subst (λ (r : Op × List Text). IsHeld r.0) same (record { key = args.key; value = args.value; unused = args.unused })

    -- a symbol that can be judged
    abbrev Judges : Symbol → Type 0
    Judges s = (IsNoVar s.key × IsNoVar s.value) × IsHeldSymbol s

    symbol_held : (ws : List Text) (s : Symbol) (rest : List Text) → symbol_front names tables shape ws ≡ Some (s, rest) → Judges s
    symbol_held ws s rest e =
        let h = read (head_front (table_names names tables) shape ws) (λ h others. then_read (arguments_front (arg_value names) (Known Nil) (arguments h.0) others) (λ a more. Some (record { kind = h.0; table = h.1; key = a.0; value = a.1 }, more))) (s, rest) e in
        let a = read (arguments_front (arg_value names) (Known Nil) (arguments h.said.0) h.rest) (λ a more. Some (record { kind = h.said.0; table = h.said.1; key = a.0; value = a.1 }, more)) (s, rest) h.more in
        let made : Symbol = record { kind = h.said.0; table = h.said.1; key = a.said.0; value = a.said.1 } in
        let same : ◌≡◌ {A = Symbol × List Text} (made, a.rest) (s, rest) = (let m = a.more in cc) in
        let args = asked IsArg (arg_value names) (Known Nil) (tt, tt) arg_held (arguments h.said.0) h.rest a.said a.rest a.is in
        subst (λ (r : Symbol × List Text). Judges r.0) same ((args.key.1, args.value.1), record { key = args.key.0; value = args.value.0; unused = args.unused })

    -- ---- events
    begin_judged : (ws : List Text) (e : Event) → begin_of ws ≡ Some e → CanBeJudged e
    begin_judged ws e h =
        let t = first small_number ws (λ t rest. then_read (first_word small_number rest) (λ c more. none_left (Begin t c) more)) e h in
        let c = first small_number t.rest (λ c more. none_left (Begin t.said c) more) e t.more in
        subst CanBeJudged (no_more (Begin t.said c.said) e c.rest c.more) tt

    done_judged : (ws : List Text) (e : Event) → done_of names tables shape ws ≡ Some e → CanBeJudged e
    done_judged ws e h =
        let t = first small_number ws (λ t rest. then_read (op_front names tables shape rest) (λ op left. then_read (first_word (literal_value names) left) (λ v more. none_left (Done t op v) more))) e h in
        let o = read (op_front names tables shape t.rest) (λ op left. then_read (first_word (literal_value names) left) (λ v more. none_left (Done t.said op v) more)) e t.more in
        let v = first (literal_value names) o.rest (λ v more. none_left (Done t.said o.said v) more) e o.more in
        subst CanBeJudged (no_more (Done t.said o.said v.said) e v.rest v.more) tt

    delay_judged : (ws : List Text) (e : Event) → delay_of names tables shape ws ≡ Some e → CanBeJudged e
    delay_judged ws e h =
        let t = first small_number ws (λ t rest. then_read (op_front names tables shape rest) (λ op left. then_read (first_word small_number left) (λ older last. then_read (symbol_front names tables shape last) (λ s more. none_left (Delay t op older s) more)))) e h in
        let o = read (op_front names tables shape t.rest) (λ op left. then_read (first_word small_number left) (λ older last. then_read (symbol_front names tables shape last) (λ s more. none_left (Delay t.said op older s) more))) e t.more in
        let b = first small_number o.rest (λ older last. then_read (symbol_front names tables shape last) (λ s more. none_left (Delay t.said o.said older s) more)) e o.more in
        let s = read (symbol_front names tables shape b.rest) (λ s more. none_left (Delay t.said o.said b.said s) more) e b.more in
        let judges = symbol_held b.rest s.said s.rest s.is in
        subst CanBeJudged (no_more (Delay t.said o.said b.said s.said) e s.rest s.more) (judges.0, op_held t.rest o.said o.rest o.is, judges.1)

    end_judged : (ws : List Text) (e : Event) → end_of names ws ≡ Some e → CanBeJudged e
    end_judged ws e h =
        let t = first small_number ws (λ t rest. option_map (λ (r : Reply). End t r) (option_and_then as_reply (all_literals names rest))) e h in
        go t.said (all_literals names t.rest) t.more
      where
        made : (t : ℕ) (o : Option Reply) → option_map (λ (r : Reply). End t r) o ≡ Some e → CanBeJudged e
        made t None k = absurd (cc)
        made t (Some r) k = let same : End t r ≡ e = cc in subst CanBeJudged same tt

        go : (t : ℕ) (o : Option (List Value)) → option_map (λ (r : Reply). End t r) (option_and_then as_reply o) ≡ Some e → CanBeJudged e
        go t o k = made t (option_and_then as_reply o) k

    pub event_judged : (ws : List Text) (e : Event) → event_of names tables shape ws ≡ Some e → CanBeJudged e
    event_judged [] e h = absurd (cc)
    event_judged (w ∷ ws) e h = go (bytes_eq w (codes "begin")) (bytes_eq w (codes "done")) (bytes_eq w (codes "delay")) (bytes_eq w (codes "end")) h
      where
        go : (a b c d : Bool) → cond a (begin_of ws) (cond b (done_of names tables shape ws) (cond c (delay_of names tables shape ws) (cond d (end_of names ws) None))) ≡ Some e → CanBeJudged e
        go true b c d k = begin_judged ws e k
        go false true c d k = done_judged ws e k
        go false false true d k = delay_judged ws e k
        go false false false true k = end_judged ws e k
        go false false false false k = absurd (cc)
