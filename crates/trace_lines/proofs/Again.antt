-- Words that are an event are those that are written of it.
use Rattle.std.proofs.Common.{◌≡◌, ℕ, ℤ, zero, suc, ◌+◌, ◌<◌, ◌==◌, Bool, true, false, not, ◌&&◌, cond, nat_lt, nat_le, List, [], ◌∷◌, ◌++◌, length, map, take, drop, slice_get, Option, Some, None, codes, refl, sym, ap, ◌∙◌, subst, arith}
use Rattle.std.proofs.lemmas.Bool.{eqb-true, leb-true}
use Rattle.std.proofs.lemmas.Cmp.{nat_list_eq_equiv}
use Rattle.std.proofs.lemmas.Map.Views.{list_any-from_Contains}
use Rattle.std.proofs.lemmas.Option.{slice_get_within}
use Rattle.std.proofs.lemmas.Slice.Eq.{bytes_eq-Decides}
use Rattle.std.specs.Fmt.{decimal}
use Rattle.std.specs.List.{AllByRecursion}
use Rattle.std.specs.Option.{option_map, option_and_then, unwrap_or}
use Rattle.std.specs.Prelude.{slice_index}
use Rattle.std.specs.Str.{bytes_eq}
use Rattle.session_values.specs.Names.{place_of}
use Rattle.session_values.specs.Kinds.{arguments, word_of as kind_word}
use Rattle.session_values.specs.Reply.{reply_of, values_of}
use Rattle.session_values.specs.declared.kind.Kind.{Kind}
use Rattle.session_values.specs.declared.kind.Kind.TheVariants.{Get, Put, Swap, Del, Size, Bump, Has, Add, Mark, Drop, Count}
use Rattle.session_values.specs.declared.kind.TableKind.{TableKind}
use Rattle.session_values.specs.declared.op.Op.{Op}
use Rattle.session_values.specs.declared.reply.Reply.{Reply}
use Rattle.session_values.specs.declared.value.Value.{Value}
use Rattle.session_values.specs.declared.value.Value.TheVariants.{Nil, Num, Sym}
use Rattle.session_values.proofs.NamesLemmas.{stands_at}
use Rattle.symbolic_ops.specs.declared.arg.Arg.{Arg}
use Rattle.symbolic_ops.specs.declared.arg.Arg.TheVariants.{Known, Any}
use Rattle.symbolic_ops.specs.declared.symbol.Symbol.{Symbol}
use Rattle.session_journal.specs.declared.event.Event.{Event}
use Rattle.session_journal.specs.declared.event.Event.TheVariants.{Begin, Done, Delay, End}
use Rattle.text_lines.specs.Text.{Text}
use Rattle.text_lines.specs.Values.{as_value, is_nil, is_symbol, number, number_from}
use Rattle.text_lines.specs.ValueWords.{literal_text, literal_value}
use Rattle.trace_lines.specs.EventText.{arg_text, event_words, head_words, op_words, symbol_text, symbol_words, text_at}
use Rattle.trace_lines.specs.EventWords.{Front, IsPlain, all_literals, arg_value, arguments_front, as_reply, begin_of, delay_of, done_of, end_of, event_of, first_word, head_front, kind_among, kind_of, none_left, op_front, small_number, symbol_front, table_names, table_of, then_read, works_on}

same_bytes : (a b : Text) → bytes_eq a b ≡ true → a ≡ b
same_bytes a b e = (bytes_eq-Decides a b).0 e

joined : (a b : Text) (xs ys : List Text) → a ≡ b → xs ≡ ys → a ∷ xs ≡ b ∷ ys
joined a b xs ys e f = ap (λ x. x ∷ xs) e ∙ ap (λ zs. b ∷ zs) f

second : (a b : Bool) → (a && b) ≡ true → b ≡ true
second true b h = h
second false b h = absurd (cc)

-- ---- single words
small_again : (w : Text) (n : ℕ) → small_number w ≡ Some n → decimal n ≡ w
small_again w n h = go (bytes_eq w (decimal (number_from 0 w))) (nat_le (number_from 0 w) 4294967295) refl h
  where
    go : (a b : Bool) → bytes_eq w (decimal (number_from 0 w)) ≡ a → cond (a && b) (Some (number_from 0 w)) None ≡ Some n → decimal n ≡ w
    go true true e k = let same : number_from 0 w ≡ n = cc in ap decimal (sym same) ∙ sym (same_bytes w (decimal (number_from 0 w)) e)
    go true false e k = absurd (cc)
    go false b e k = absurd (cc)

kind_again : (ks : List Kind) (w : Text) (k : Kind) → kind_among ks w ≡ Some k → kind_word k ≡ w
kind_again [] w k h = absurd (cc)
kind_again (x ∷ ks) w k h = go (bytes_eq w (kind_word x)) refl h (kind_again ks w k)
  where
    go : (b : Bool) → bytes_eq w (kind_word x) ≡ b → cond b (Some x) (kind_among ks w) ≡ Some k → (kind_among ks w ≡ Some k → kind_word k ≡ w) → kind_word k ≡ w
    go true e h again = let same : x ≡ k = cc in ap kind_word (sym same) ∙ sym (same_bytes w (kind_word x) e)
    go false e h again = again h

name_again : (g : ℕ → Text) (tables : List ℕ) (w : Text) → place_of (map g tables) w < length tables → g (slice_index tables (place_of (map g tables) w)) ≡ w
name_again g [] w l = absurd (omega (arith, l))
name_again g (x ∷ xs) w l = go (bytes_eq w (g x)) refl (name_again g xs w) l
  where
    go : (b : Bool) → bytes_eq w (g x) ≡ b → (place_of (map g xs) w < length xs → g (slice_index xs (place_of (map g xs) w)) ≡ w) → place_of (map g (x ∷ xs)) w < length (x ∷ xs) → g (slice_index (x ∷ xs) (place_of (map g (x ∷ xs)) w)) ≡ w
    go true e again l =
        let here : place_of (map g (x ∷ xs)) w ≡ 0 = ap (λ b. cond (not b) (1 + place_of (map g xs) w) 0) e in
        ap (λ n. g (slice_index (x ∷ xs) n)) here ∙ sym (same_bytes w (g x) e)
    go false e again l =
        let next : place_of (map g (x ∷ xs)) w ≡ 1 + place_of (map g xs) w = ap (λ b. cond (not b) (1 + place_of (map g xs) w) 0) e in
        let there : place_of (map g (x ∷ xs)) w ≡ suc (place_of (map g xs) w) = omega (arith, next) in
        ap (λ n. g (slice_index (x ∷ xs) n)) there ∙ again (omega (arith, next, l))

works_within : (kind : Kind) (shape : List TableKind) (n : ℕ) (o : Option TableKind) → slice_get shape n ≡ o → works_on kind o ≡ true → n < length shape
works_within kind shape n None e h = absurd (cc)
works_within kind shape n (Some s) e h = slice_get_within shape n s e

table_again : (names : List Text) (tables : List ℕ) (shape : List TableKind) (kind : Kind) (w : Text) (t : ℕ) → length shape ≡ length tables → table_of (table_names names tables) shape kind w ≡ Some t → text_at names (slice_index tables t) ≡ w
table_again names tables shape kind w t many h = go (works_on kind (slice_get shape place)) refl h
  where
    place : ℕ
    place = place_of (table_names names tables) w

    go : (b : Bool) → works_on kind (slice_get shape place) ≡ b → cond b (Some place) None ≡ Some t → text_at names (slice_index tables t) ≡ w
    go true e k =
        let same : place ≡ t = cc in
        let less : place < length shape = works_within kind shape place (slice_get shape place) refl e in
        ap (λ n. text_at names (slice_index tables n)) (sym same) ∙ name_again (text_at names) tables w (omega (arith, less, many))
    go false e k = absurd (cc)

quoted : (w : Text) → (slice_index w 0 == 39) ≡ true → w ≡ 39 ∷ drop 1 w
quoted [] e = absurd (cc)
quoted (b ∷ bs) e = ap (λ x. x ∷ bs) (eqb-true b 39 e)

module _ (names : List Text) where
  stands : (w text : Text) → IsPlain names w → w ≡ 39 ∷ text → slice_get names (place_of names text) ≡ Some text
  stands w text plain e = stands_at text names (list_any-from_Contains nat_list_eq_equiv text names (plain.symbol text e))

  -- what a literal says
  record Says (w : Text) (v : Value) : Type 0 where
    text : literal_text names v ≡ w
    known : arg_text names (Known v) ≡ w

  number_again : (w : Text) (o : Option ℤ) (v : Value) → IsPlain names w → number w ≡ o → as_value o ≡ Some v → Says w v
  number_again w None v plain e h = absurd (cc)
  number_again w (Some n) v plain e h =
      let same : Num n ≡ v = cc in
      subst (Says w) same (record { text = sym (plain.numeral n e); known = sym (plain.numeral n e) })

  literal_again : (w : Text) (v : Value) → IsPlain names w → literal_value names w ≡ Some v → Says w v
  literal_again w v plain h = go (slice_index w 0 == 39) (is_symbol (drop 1 w)) (is_nil w) refl refl h
    where
      go : (q s n : Bool) → (slice_index w 0 == 39) ≡ q → is_nil w ≡ n → cond q (cond s (Some (Sym (place_of names (drop 1 w)))) None) (cond n (Some Nil) (as_value (number w))) ≡ Some v → Says w v
      go true true n e f k =
          let same : Sym (place_of names (drop 1 w)) ≡ v = cc in
          let is : w ≡ 39 ∷ drop 1 w = quoted w e in
          let there : slice_get names (place_of names (drop 1 w)) ≡ Some (drop 1 w) = stands w (drop 1 w) plain is in
          subst (Says w) same (record {
            text = ap (λ (o : Option Text). 39 ∷ unwrap_or o []) there ∙ sym is;
            known = ap symbol_text there ∙ sym is;
          })
      go true false n e f k = absurd (cc)
      go false s true e f k =
          let same : Nil ≡ v = cc in
          let is : w ≡ codes "nil" = same_bytes w (codes "nil") f in
          subst (Says w) same (record { text = sym is; known = sym is })
      go false s false e f k = number_again w (number w) v plain refl k

  arg_again : (w : Text) (a : Arg) → IsPlain names w → arg_value names w ≡ Some a → arg_text names a ≡ w
  arg_again w a plain h = go (bytes_eq w (codes "any")) (literal_value names w) refl refl h
    where
      go : (b : Bool) (o : Option Value) → bytes_eq w (codes "any") ≡ b → literal_value names w ≡ o → cond b (Some Any) (option_map (λ (v : Value). Known v) o) ≡ Some a → arg_text names a ≡ w
      go true o e f k = let same : Any ≡ a = cc in ap (arg_text names) (sym same) ∙ sym (same_bytes w (codes "any") e)
      go false None e f k = absurd (cc)
      go false (Some v) e f k = let same : Known v ≡ a = cc in ap (arg_text names) (sym same) ∙ (literal_again w v plain f).known

  -- ---- some words, from the first on
  abbrev ArePlain : List Text → Type 0
  ArePlain ws = AllByRecursion (IsPlain names) ws

  record Next {X Y : Type 0} (f : Text → Option X) (ws : List Text) (g : X → List Text → Option Y) (y : Y) : Type 0 where
    word : Text
    said : X
    rest : List Text
    is : ws ≡ word ∷ rest
    plain : IsPlain names word
    others : ArePlain rest
    says : f word ≡ Some said
    more : g said rest ≡ Some y

  next : {X Y : Type 0} (f : Text → Option X) (ws : List Text) (g : X → List Text → Option Y) (y : Y) → ArePlain ws → then_read (first_word f ws) g ≡ Some y → Next f ws g y
  next f [] g y p h = absurd (cc)
  next {X} {Y} f (w ∷ ws) g y p h = go (f w) refl h
    where
      go : (o : Option X) → f w ≡ o → then_read (option_map (λ (x : X). (x, ws)) o) g ≡ Some y → Next f (w ∷ ws) g y
      go None e k = absurd (cc)
      go (Some x) e k = record { word = w; said = x; rest = ws; is = refl; plain = p.0; others = p.1; says = e; more = k }

  record Read {X Y : Type 0} (o : Front X) (g : X → List Text → Option Y) (y : Y) : Type 0 where
    said : X
    rest : List Text
    is : o ≡ Some (said, rest)
    more : g said rest ≡ Some y

  read : {X Y : Type 0} (o : Front X) (g : X → List Text → Option Y) (y : Y) → then_read o g ≡ Some y → Read o g y
  read None g y h = absurd (cc)
  read (Some r) g y h = record { said = r.0; rest = r.1; is = refl; more = h }

  no_more : {X : Type 0} (x y : X) (ws : List Text) → none_left x ws ≡ Some y → (ws ≡ []) × (x ≡ y)
  no_more x y [] h = (refl, cc)
  no_more x y (w ∷ ws) h = absurd (cc)

  behind : (xs rest ws : List Text) → xs ++ rest ≡ ws → ArePlain ws → ArePlain rest
  behind [] rest ws e p = subst ArePlain (sym e) p
  behind (x ∷ xs) rest ws e p = behind xs rest (xs ++ rest) refl (subst ArePlain (sym e) p).1

  args_again : {X : Type 0} (f : Text → Option X) (g : X → Text) (none : X) → ((w : Text) (x : X) → IsPlain names w → f w ≡ Some x → g x ≡ w) → (n : ℕ) (ws : List Text) (a : X × X) (rest : List Text) → ArePlain ws → arguments_front f none n ws ≡ Some (a, rest) → map g (take n (a.0 ∷ a.1 ∷ [])) ++ rest ≡ ws
  args_again {X} f g none back zero ws a rest p h =
      let same : ◌≡◌ {A = (X × X) × List Text} ((none, none), ws) (a, rest) = cc in
      sym (ap (λ (r : (X × X) × List Text). r.1) same)
  args_again {X} f g none back (suc zero) ws a rest p h =
      let k = next f ws (λ x more. Some ((x, none), more)) (a, rest) p h in
      let same : ◌≡◌ {A = (X × X) × List Text} ((k.said, none), k.rest) (a, rest) = (let m = k.more in cc) in
      subst (λ (r : (X × X) × List Text). g r.0.0 ∷ r.1 ≡ ws) same (joined (g k.said) k.word k.rest k.rest (back k.word k.said k.plain k.says) refl ∙ sym k.is)
  args_again {X} f g none back (suc (suc n)) ws a rest p h =
      let k = next f ws (λ x others. then_read (first_word f others) (λ v more. Some ((x, v), more))) (a, rest) p h in
      let v = next f k.rest (λ v more. Some ((k.said, v), more)) (a, rest) k.others k.more in
      let same : ◌≡◌ {A = (X × X) × List Text} ((k.said, v.said), v.rest) (a, rest) = (let m = v.more in cc) in
      subst (λ (r : (X × X) × List Text). map g (take (suc (suc n)) (r.0.0 ∷ r.0.1 ∷ [])) ++ r.1 ≡ ws) same (both n k.said v.said v.rest ∙ joined (g k.said) k.word (g v.said ∷ v.rest) k.rest (back k.word k.said k.plain k.says) (joined (g v.said) v.word v.rest v.rest (back v.word v.said v.plain v.says) refl ∙ sym v.is) ∙ sym k.is)
    where
      both : (n : ℕ) (x v : X) (rest : List Text) → map g (take (suc (suc n)) (x ∷ v ∷ [])) ++ rest ≡ g x ∷ g v ∷ rest
      both zero x v rest = refl
      both (suc n) x v rest = refl

  module _ (tables : List ℕ) (shape : List TableKind) (many : length shape ≡ length tables) where
    head_again : (ws : List Text) (h : Kind × ℕ) (rest : List Text) → ArePlain ws → head_front (table_names names tables) shape ws ≡ Some (h, rest) → head_words names tables h.0 h.1 ++ rest ≡ ws
    head_again ws h rest p e =
        let k = next kind_of ws (λ kind others. then_read (first_word (table_of (table_names names tables) shape kind) others) (λ t more. Some ((kind, t), more))) (h, rest) p e in
        let t = next (table_of (table_names names tables) shape k.said) k.rest (λ t more. Some ((k.said, t), more)) (h, rest) k.others k.more in
        let same : ◌≡◌ {A = (Kind × ℕ) × List Text} ((k.said, t.said), t.rest) (h, rest) = (let m = t.more in cc) in
        let kind : kind_word k.said ≡ k.word = kind_again (Get ∷ Put ∷ Swap ∷ Del ∷ Size ∷ Bump ∷ Has ∷ Add ∷ Mark ∷ Drop ∷ Count ∷ []) k.word k.said k.says in
        let name : text_at names (slice_index tables t.said) ≡ t.word = table_again names tables shape k.said t.word t.said many t.says in
        subst (λ (r : (Kind × ℕ) × List Text). head_words names tables r.0.0 r.0.1 ++ r.1 ≡ ws) same (joined (kind_word k.said) k.word (text_at names (slice_index tables t.said) ∷ t.rest) k.rest kind (joined (text_at names (slice_index tables t.said)) t.word t.rest t.rest name refl ∙ sym t.is) ∙ sym k.is)

    op_again : (ws : List Text) (op : Op) (rest : List Text) → ArePlain ws → op_front names tables shape ws ≡ Some (op, rest) → op_words names tables op ++ rest ≡ ws
    op_again ws op rest p e =
        let h = read (head_front (table_names names tables) shape ws) (λ h others. then_read (arguments_front (literal_value names) Nil (arguments h.0) others) (λ a more. Some (record { kind = h.0; table = h.1; key = a.0; value = a.1 }, more))) (op, rest) e in
        let head : head_words names tables h.said.0 h.said.1 ++ h.rest ≡ ws = head_again ws h.said h.rest p h.is in
        let a = read (arguments_front (literal_value names) Nil (arguments h.said.0) h.rest) (λ a more. Some (record { kind = h.said.0; table = h.said.1; key = a.0; value = a.1 }, more)) (op, rest) h.more in
        let made : Op = record { kind = h.said.0; table = h.said.1; key = a.said.0; value = a.said.1 } in
        let same : ◌≡◌ {A = Op × List Text} (made, a.rest) (op, rest) = (let m = a.more in cc) in
        let args = args_again (literal_value names) (literal_text names) Nil (λ w v plain says. (literal_again w v plain says).text) (arguments h.said.0) h.rest a.said a.rest (behind (head_words names tables h.said.0 h.said.1) h.rest ws head p) a.is in
        subst (λ (r : Op × List Text). op_words names tables r.0 ++ r.1 ≡ ws) same (ap (λ xs. head_words names tables h.said.0 h.said.1 ++ xs) args ∙ head)

    symbol_again : (ws : List Text) (s : Symbol) (rest : List Text) → ArePlain ws → symbol_front names tables shape ws ≡ Some (s, rest) → symbol_words names tables s ++ rest ≡ ws
    symbol_again ws s rest p e =
        let h = read (head_front (table_names names tables) shape ws) (λ h others. then_read (arguments_front (arg_value names) (Known Nil) (arguments h.0) others) (λ a more. Some (record { kind = h.0; table = h.1; key = a.0; value = a.1 }, more))) (s, rest) e in
        let head : head_words names tables h.said.0 h.said.1 ++ h.rest ≡ ws = head_again ws h.said h.rest p h.is in
        let a = read (arguments_front (arg_value names) (Known Nil) (arguments h.said.0) h.rest) (λ a more. Some (record { kind = h.said.0; table = h.said.1; key = a.0; value = a.1 }, more)) (s, rest) h.more in
        let made : Symbol = record { kind = h.said.0; table = h.said.1; key = a.said.0; value = a.said.1 } in
        let same : ◌≡◌ {A = Symbol × List Text} (made, a.rest) (s, rest) = (let m = a.more in cc) in
        let args = args_again (arg_value names) (arg_text names) (Known Nil) arg_again (arguments h.said.0) h.rest a.said a.rest (behind (head_words names tables h.said.0 h.said.1) h.rest ws head p) a.is in
        subst (λ (r : Symbol × List Text). symbol_words names tables r.0 ++ r.1 ≡ ws) same (ap (λ xs. head_words names tables h.said.0 h.said.1 ++ xs) args ∙ head)

    -- ---- events
    begin_again : (ws : List Text) (e : Event) → ArePlain ws → begin_of ws ≡ Some e → event_words names tables e ≡ codes "begin" ∷ ws
    begin_again ws e p h =
        let t = next small_number ws (λ t rest. then_read (first_word small_number rest) (λ c more. none_left (Begin t c) more)) e p h in
        let c = next small_number t.rest (λ c more. none_left (Begin t.said c) more) e t.others t.more in
        let end = no_more (Begin t.said c.said) e c.rest c.more in
        ap (event_words names tables) (sym end.1)
        ∙ ap (λ xs. codes "begin" ∷ xs) (joined (decimal t.said) t.word (decimal c.said ∷ []) t.rest (small_again t.word t.said t.says) (joined (decimal c.said) c.word [] c.rest (small_again c.word c.said c.says) (sym end.0) ∙ sym c.is) ∙ sym t.is)

    done_again : (ws : List Text) (e : Event) → ArePlain ws → done_of names tables shape ws ≡ Some e → event_words names tables e ≡ codes "done" ∷ ws
    done_again ws e p h =
        let t = next small_number ws (λ t rest. then_read (op_front names tables shape rest) (λ op left. then_read (first_word (literal_value names) left) (λ v more. none_left (Done t op v) more))) e p h in
        let o = read (op_front names tables shape t.rest) (λ op left. then_read (first_word (literal_value names) left) (λ v more. none_left (Done t.said op v) more)) e t.more in
        let op : op_words names tables o.said ++ o.rest ≡ t.rest = op_again t.rest o.said o.rest t.others o.is in
        let v = next (literal_value names) o.rest (λ v more. none_left (Done t.said o.said v) more) e (behind (op_words names tables o.said) o.rest t.rest op t.others) o.more in
        let end = no_more (Done t.said o.said v.said) e v.rest v.more in
        ap (event_words names tables) (sym end.1)
        ∙ ap (λ xs. codes "done" ∷ xs) (joined (decimal t.said) t.word (op_words names tables o.said ++ literal_text names v.said ∷ []) t.rest (small_again t.word t.said t.says)
        (ap (λ xs. op_words names tables o.said ++ xs) (joined (literal_text names v.said) v.word [] v.rest (literal_again v.word v.said v.plain v.says).text (sym end.0) ∙ sym v.is) ∙ op) ∙ sym t.is)

    delay_again : (ws : List Text) (e : Event) → ArePlain ws → delay_of names tables shape ws ≡ Some e → event_words names tables e ≡ codes "delay" ∷ ws
    delay_again ws e p h =
        let t = next small_number ws (λ t rest. then_read (op_front names tables shape rest) (λ op left. then_read (first_word small_number left) (λ older last. then_read (symbol_front names tables shape last) (λ s more. none_left (Delay t op older s) more)))) e p h in
        let o = read (op_front names tables shape t.rest) (λ op left. then_read (first_word small_number left) (λ older last. then_read (symbol_front names tables shape last) (λ s more. none_left (Delay t.said op older s) more))) e t.more in
        let op : op_words names tables o.said ++ o.rest ≡ t.rest = op_again t.rest o.said o.rest t.others o.is in
        let b = next small_number o.rest (λ older last. then_read (symbol_front names tables shape last) (λ s more. none_left (Delay t.said o.said older s) more)) e (behind (op_words names tables o.said) o.rest t.rest op t.others) o.more in
        let s = read (symbol_front names tables shape b.rest) (λ s more. none_left (Delay t.said o.said b.said s) more) e b.more in
        let symbol : symbol_words names tables s.said ++ s.rest ≡ b.rest = symbol_again b.rest s.said s.rest b.others s.is in
        let end = no_more (Delay t.said o.said b.said s.said) e s.rest s.more in
        let last : symbol_words names tables s.said ≡ b.rest = sym (append_none (symbol_words names tables s.said)) ∙ ap (λ xs. symbol_words names tables s.said ++ xs) (sym end.0) ∙ symbol in
        ap (event_words names tables) (sym end.1)
        ∙ ap (λ xs. codes "delay" ∷ xs) (joined (decimal t.said) t.word (op_words names tables o.said ++ decimal b.said ∷ symbol_words names tables s.said) t.rest (small_again t.word t.said t.says)
        (ap (λ xs. op_words names tables o.said ++ xs) (joined (decimal b.said) b.word (symbol_words names tables s.said) b.rest (small_again b.word b.said b.says) last ∙ sym b.is) ∙ op) ∙ sym t.is)
      where
        append_none : (xs : List Text) → xs ++ [] ≡ xs
        append_none [] = refl
        append_none (x ∷ xs) = ap (λ ys. x ∷ ys) (append_none xs)

    literals_again : (ws : List Text) (vs : List Value) → ArePlain ws → all_literals names ws ≡ Some vs → map (literal_text names) vs ≡ ws
    literals_again [] vs p h = let none : ◌≡◌ {A = List Value} [] vs = cc in ap (map (literal_text names)) (sym none)
    literals_again (w ∷ ws) vs p h = go (literal_value names w) (all_literals names ws) refl (λ us e. literals_again ws us p.1 e) refl h
      where
        go : (o : Option Value) (q : Option (List Value)) → literal_value names w ≡ o → ((us : List Value) → all_literals names ws ≡ Some us → map (literal_text names) us ≡ ws) → all_literals names ws ≡ q → option_and_then (λ (v : Value). option_map (λ (us : List Value). v ∷ us) q) o ≡ Some vs → map (literal_text names) vs ≡ w ∷ ws
        go None q e again f k = absurd (cc)
        go (Some v) None e again f k = absurd (cc)
        go (Some v) (Some us) e again f k =
            let same : v ∷ us ≡ vs = cc in
            ap (map (literal_text names)) (sym same) ∙ joined (literal_text names v) w (map (literal_text names) us) ws (literal_again w v p.0 e).text (again us f)

    reply_again : (vs : List Value) → (nat_lt 0 (length vs) && nat_le (length vs) 4) ≡ true → values_of (reply_of vs) ≡ vs
    reply_again [] h = absurd (cc)
    reply_again (a ∷ []) h = refl
    reply_again (a ∷ b ∷ []) h = refl
    reply_again (a ∷ b ∷ c ∷ []) h = refl
    reply_again (a ∷ b ∷ c ∷ d ∷ []) h = refl
    reply_again (a ∷ b ∷ c ∷ d ∷ x ∷ xs) h = absurd (omega (arith, leb-true (length (a ∷ b ∷ c ∷ d ∷ x ∷ xs)) 4 (second (nat_lt 0 (length (a ∷ b ∷ c ∷ d ∷ x ∷ xs))) (nat_le (length (a ∷ b ∷ c ∷ d ∷ x ∷ xs)) 4) h)))

    end_again : (ws : List Text) (e : Event) → ArePlain ws → end_of names ws ≡ Some e → event_words names tables e ≡ codes "end" ∷ ws
    end_again ws e p h =
        let t = next small_number ws (λ t rest. option_map (λ (r : Reply). End t r) (option_and_then as_reply (all_literals names rest))) e p h in
        go t (all_literals names t.rest) refl t.more
      where
        made : (t : ℕ) (vs : List Value) (b : Bool) → (nat_lt 0 (length vs) && nat_le (length vs) 4) ≡ b → option_map (λ (r : Reply). End t r) (cond b (Some (reply_of vs)) None) ≡ Some e → event_words names tables e ≡ codes "end" ∷ decimal t ∷ map (literal_text names) vs
        made t vs true is k =
            let same : End t (reply_of vs) ≡ e = cc in
            ap (event_words names tables) (sym same) ∙ ap (λ us. codes "end" ∷ decimal t ∷ map (literal_text names) us) (reply_again vs is)
        made t vs false is k = absurd (cc)

        go : (t : Next small_number ws (λ t rest. option_map (λ (r : Reply). End t r) (option_and_then as_reply (all_literals names rest))) e) (o : Option (List Value)) → all_literals names t.rest ≡ o → option_map (λ (r : Reply). End t.said r) (option_and_then as_reply o) ≡ Some e → event_words names tables e ≡ codes "end" ∷ ws
        go t None f k = absurd (cc)
        go t (Some vs) f k =
            made t.said vs (nat_lt 0 (length vs) && nat_le (length vs) 4) refl k
            ∙ ap (λ xs. codes "end" ∷ xs) (joined (decimal t.said) t.word (map (literal_text names) vs) t.rest (small_again t.word t.said t.says) (literals_again t.rest vs t.others f) ∙ sym t.is)

    first_is : (w text : Text) (ws : List Text) (e : Event) → bytes_eq w text ≡ true → event_words names tables e ≡ text ∷ ws → event_words names tables e ≡ w ∷ ws
    first_is w text ws e is h = h ∙ ap (λ x. x ∷ ws) (sym (same_bytes w text is))

    words_again : (w : Text) (ws : List Text) (e : Event) → ArePlain ws → event_of names tables shape (w ∷ ws) ≡ Some e → event_words names tables e ≡ w ∷ ws
    words_again w ws e p h = go (bytes_eq w (codes "begin")) (bytes_eq w (codes "done")) (bytes_eq w (codes "delay")) (bytes_eq w (codes "end")) refl refl refl refl h
      where
        go : (a b c d : Bool) → bytes_eq w (codes "begin") ≡ a → bytes_eq w (codes "done") ≡ b → bytes_eq w (codes "delay") ≡ c → bytes_eq w (codes "end") ≡ d
            → cond a (begin_of ws) (cond b (done_of names tables shape ws) (cond c (delay_of names tables shape ws) (cond d (end_of names ws) None))) ≡ Some e → event_words names tables e ≡ w ∷ ws
        go true b c d e1 e2 e3 e4 k = first_is w (codes "begin") ws e e1 (begin_again ws e p k)
        go false true c d e1 e2 e3 e4 k = first_is w (codes "done") ws e e2 (done_again ws e p k)
        go false false true d e1 e2 e3 e4 k = first_is w (codes "delay") ws e e3 (delay_again ws e p k)
        go false false false true e1 e2 e3 e4 k = first_is w (codes "end") ws e e4 (end_again ws e p k)
        go false false false false e1 e2 e3 e4 k = absurd (cc)

pub written_again : (names : List Text) (tables : List ℕ) (shape : List TableKind) (ws : List Text) (e : Event) → length shape ≡ length tables → AllByRecursion (IsPlain names) ws → event_of names tables shape ws ≡ Some e → event_words names tables e ≡ ws
written_again names tables shape [] e many p h = absurd (cc)
written_again names tables shape (w ∷ ws) e many p h = words_again names tables shape many w ws e p.1 h
