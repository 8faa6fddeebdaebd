-- The line that says a request has its words, and is one line.
use Rattle.std.proofs.Common.{◌≡◌, ℕ, suc, zero, ◌+◌, ◌*◌, ◌<◌, ◌≤◌, ◌==◌, nat_lt, Bool, true, false, not, ◌&&◌, cond, inl, inr, List, [], ◌∷◌, ◌++◌, length, map, Option, Some, None, slice_get, slice_index, refl, sym, ◌∙◌, ap, subst, arith, length-append, ℤ, pos, negsuc}
use Rattle.std.proofs.lemmas.Bool.Decides.{nat_tests}
use Rattle.std.proofs.lemmas.Fmt.{length-decimal-le}
use Rattle.std.specs.Char.{is_ascii_alphabetic}
use Rattle.std.specs.Fmt.{signed_decimal}
use Rattle.std.specs.List.{AllByRecursion, flat_map, list_all, position_or_len}
use Rattle.session_values.specs.Limits.{max_input, max_variables}
use Rattle.session_values.specs.Names.{AreDistinct, Begins, place_of}
use Rattle.session_values.specs.Values.{IsValue}
use Rattle.session_values.specs.declared.value.Value.TheVariants.{Num}
use Rattle.session_values.proofs.Named.{front_kept}
use Rattle.session_values.proofs.NamesLemmas.{place_is}
use Rattle.std.specs.Option.{unwrap_or}
use Rattle.syntax_trees.specs.declared.file.Handler.{Handler}
use Rattle.syntax_trees.specs.Marks.{declared, name_marks}
use Rattle.syntax_trees.specs.Mentions.{a_name, handler_mentions, table_mentions}
use Rattle.syntax_trees.proofs.Mentions.{all_first}
use Rattle.serve_faults.specs.Language.{HasText, IsNamedFile}
use Rattle.handler_check.specs.File.{File}
use Rattle.handler_check.specs.declared.refusal.CheckRefusal.TheVariants.{Twice}
use Rattle.handler_check.specs.FirstFault.{KeepsRules}
use Rattle.handler_check.proofs.Meaning.{Fresh, fresh_text, one_number}
use Rattle.text_lines.specs.Text.{Text, attach, is_line_byte, is_word_byte, lines, words}
use Rattle.text_lines.specs.Values.{is_symbol}
use Rattle.text_lines.specs.Words.{IsWord, after_spaces}
use Rattle.text_lines.proofs.TextLemmas.{lines_nil}
use Rattle.text_lines.proofs.WholeTexts.{line_on}
use Rattle.text_lines.proofs.WordsBack.{words_back}
use Rattle.request_files.specs.Requests.{AreKnown, handler_of}
use Rattle.live_session.specs.declared.argument.Argument.{Argument}
use Rattle.live_session.specs.declared.argument.Argument.TheVariants as argument
use Rattle.live_session.specs.declared.answers.Answered.{Answered}
use Rattle.live_session.specs.Answers.{AnsweredBy, LinesAnswered, RowAnswered, TextAnswered, WordsAnswered}
use Rattle.live_session.specs.ArgumentWords.{IsHeld, argument_fault, first_fault, name_at, word_of, words_of}
use Rattle.live_session.specs.Invoking.{handler_name, line_given, name_of, row_given}
use Rattle.live_session.specs.Live.{LiveView}
use Rattle.live_session.proofs.ArgumentLemmas.{fine_both, passed_test, words_are, words_long}

-- ---- one line
one_line : (l : Text) → 0 < length l → list_all is_line_byte l ≡ true → lines l ≡ l ∷ []
one_line [] some e = absurd (omega (arith, some))
one_line (b ∷ []) some e = line_on b [] (first_of (is_line_byte b) e) ∙ ap (attach b) lines_nil
  where
    first_of : (x : Bool) → (x && true) ≡ true → x ≡ true
    first_of true e = refl
    first_of false e = e
one_line (b ∷ c ∷ cs) some e = go (λ k. one_line (c ∷ cs) (omega arith) k) (is_line_byte b) refl e
  where
    go : (list_all is_line_byte (c ∷ cs) ≡ true → lines (c ∷ cs) ≡ (c ∷ cs) ∷ []) → (x : Bool) → is_line_byte b ≡ x → (x && list_all is_line_byte (c ∷ cs)) ≡ true → lines (b ∷ c ∷ cs) ≡ (b ∷ c ∷ cs) ∷ []
    go later true is e = line_on b (c ∷ cs) is ∙ ap (attach b) (later e)
    go later false is e = absurd (cc)

line_append : (xs ys : Text) → list_all is_line_byte xs ≡ true → list_all is_line_byte ys ≡ true → list_all is_line_byte (xs ++ ys) ≡ true
line_append [] ys a b = b
line_append (x ∷ xs) ys a b = go (λ k. line_append xs ys k b) (is_line_byte x) refl a
  where
    go : (list_all is_line_byte xs ≡ true → list_all is_line_byte (xs ++ ys) ≡ true) → (t : Bool) → is_line_byte x ≡ t → (t && list_all is_line_byte xs) ≡ true → list_all is_line_byte (x ∷ xs ++ ys) ≡ true
    go later true is e = ap (λ (t : Bool). t && list_all is_line_byte (xs ++ ys)) is ∙ later e
    go later false is e = absurd (cc)

after_line : (ws : List Text) → AllByRecursion IsWord ws → list_all is_line_byte (after_spaces ws) ≡ true
after_line [] all = refl
after_line (w ∷ ws) all = line_append w (after_spaces ws) all.0.line (after_line ws all.1)

-- ---- how long it is
abbrev pub IsShort : Text → Type 0
IsShort w = length w ≤ 64

after_short : (ws : List Text) → AllByRecursion IsShort ws → length (after_spaces ws) ≤ 65 * length ws
after_short [] all = omega arith
after_short (w ∷ ws) all =
    let both = length-append w (after_spaces ws) in
    let more = after_short ws all.1 in
    omega (arith, both, more, all.0)

number_short : (z : ℤ) → IsValue (Num z) → IsShort (signed_decimal z)
number_short (pos n) h = let few = length-decimal-le 19 n (omega arith) (omega (arith, h)) (omega (arith, h)) in omega (arith, few)
number_short (negsuc n) h = let few = length-decimal-le 19 (suc n) (omega arith) (omega (arith, h)) (omega (arith, h)) in omega (arith, few)

symbol_short : (w : Text) → is_symbol w ≡ true → IsShort w
unfolding is_symbol
symbol_short w e = grind (arith, nat_tests, e)

word_short : (names : List Text) (a : Argument) → argument_fault names a ≡ None → IsHeld a → IsShort (word_of names a)
word_short names argument.Nil h held = omega arith
word_short names (argument.Number n) h held = number_short n held
word_short names (argument.Symbol t) h held = symbol_short t.now (passed_test _ _ h)
word_short names (argument.Name n) h held = symbol_short (name_at names n) (passed_test _ _ h)

words_short : (names : List Text) (args : List Argument) → first_fault names args ≡ None → AllByRecursion IsHeld args → AllByRecursion IsShort (words_of names args)
words_short names [] h held = tt
words_short names (a ∷ args) h held =
    let fine = fine_both (argument_fault names a) (first_fault names args) h in
    (word_short names a fine.0 held.0, words_short names args fine.1 held.1)

-- ---- the name of a handler
there : (hs : List Handler) (h : ℕ) → h < length hs → (x : Handler) × (slice_get hs h ≡ Some x)
there [] h l = absurd (omega (arith, l))
there (x ∷ hs) zero l = (x, refl)
there (x ∷ hs) (suc h) l = there hs h (omega (arith, l))

name_all : (q p : ℕ → Bool) (bs : Text) → AllByRecursion (λ (b : ℕ). q b ≡ true) bs → ((b : ℕ) → q b ≡ true → p b ≡ true) → list_all p bs ≡ true
name_all q p [] h each = refl
name_all q p (b ∷ bs) h each = ap (λ (t : Bool). t && list_all p bs) (each b h.0) ∙ name_all q p bs h.1 each

name_some : (w : Text) → is_ascii_alphabetic (slice_index w 0) ≡ true → 0 < length w
name_some [] h = absurd (cc)
name_some (b ∷ bs) h = omega arith

-- a word of at most 64 bytes
pub record IsName (w : Text) : Type 0 where
  pub word : IsWord w
  pub short : IsShort w

name_is : (names : List Text) (place : ℕ) → HasText names (a_name place) → IsName (name_at names place)
name_is names place h = record {
  word = record {
    some = name_some (name_at names place) h.run.letter;
    all = name_all _ is_word_byte (name_at names place) h.run.run (λ b e. grind (arith, nat_tests, e));
    line = name_all _ is_line_byte (name_at names place) h.run.run (λ b e. grind (arith, nat_tests, e));
  };
  short = h.run.short;
}

named_in : (names : List Text) (hs : List Handler) (h : ℕ) (x : Handler) → AllByRecursion (HasText names) (flat_map handler_mentions hs) → slice_get hs h ≡ Some x → IsName (name_at names x.name)
named_in names [] h x all at = absurd (cc)
named_in names (y ∷ hs) zero x all at =
    let same : y ≡ x = cc in
    subst (λ (z : Handler). IsName (name_at names z.name)) same (name_is names y.name (all_first (HasText names) (handler_mentions y) (flat_map handler_mentions hs) all).0.0)
named_in names (y ∷ hs) (suc h) x all at = named_in names hs h x (all_first (HasText names) (handler_mentions y) (flat_map handler_mentions hs) all).1 at

handler_text : (names : List Text) (f : File) (h : ℕ) → h < length f.handlers → IsNamedFile names f → IsName (handler_name names f h)
handler_text names f h low named =
    let x = there f.handlers h low in
    let all = (all_first (HasText names) (flat_map table_mentions f.tables) (flat_map handler_mentions f.handlers) named).1 in
    subst (λ (o : Option Handler). IsName (name_of names o)) (sym x.1) (named_in names f.handlers h x.0 all x.1)

-- ---- the handler of that name
abbrev named : ℕ → Handler → Bool
named n h = h.name == n

handlers_declared : (hs : List Handler) → declared (name_marks hs) ≡ map (λ (h : Handler). h.name) hs
handlers_declared [] = refl
handlers_declared (h ∷ hs) = ap (λ (x : List ℕ). h.name ∷ x) (handlers_declared hs)

name_in : (hs : List Handler) (i : ℕ) (x : Handler) → slice_get hs i ≡ Some x → slice_get (map (λ (h : Handler). h.name) hs) i ≡ Some x.name
name_in [] i x e = absurd (cc)
name_in (y ∷ hs) zero x e = let same : y ≡ x = cc in ap (λ (h : Handler). Some h.name) same
name_in (y ∷ hs) (suc i) x e = name_in hs i x e

one_place : (f : File) → KeepsRules f → (i j : ℕ) (x y : Handler) → slice_get f.handlers i ≡ Some x → slice_get f.handlers j ≡ Some y → x.name ≡ y.name → i ≡ j
one_place f keeps i j x y e g same =
    let fresh : Fresh [] (declared (name_marks f.handlers)) = fresh_text (name_marks f.handlers) [] (name_marks f.handlers) refl (λ p t. keeps (Twice p) (inr (inl t))) in
    one_number (map (λ (h : Handler). h.name) f.handlers) [] i j y.name (subst (Fresh []) (handlers_declared f.handlers) fresh) (name_in f.handlers i x e ∙ ap (λ (n : ℕ). Some n) same) (name_in f.handlers j y g)

first_named : (hs : List Handler) (h n : ℕ) (x : Handler) → slice_get hs h ≡ Some x → x.name ≡ n → ((j : ℕ) (y : Handler) → slice_get hs j ≡ Some y → y.name ≡ n → j ≡ h) → position_or_len (named n) hs ≡ h
first_named [] h n x at is only = absurd (cc)
first_named (y ∷ hs) h n x at is only = go (λ k q more. first_named hs k n x q is more) (y.name == n) refl h at only
  where
    go : ((k : ℕ) → slice_get hs k ≡ Some x → ((j : ℕ) (z : Handler) → slice_get hs j ≡ Some z → z.name ≡ n → j ≡ k) → position_or_len (named n) hs ≡ k)
        → (b : Bool) → (y.name == n) ≡ b → (h : ℕ) → slice_get (y ∷ hs) h ≡ Some x → ((j : ℕ) (z : Handler) → slice_get (y ∷ hs) j ≡ Some z → z.name ≡ n → j ≡ h) → position_or_len (named n) (y ∷ hs) ≡ h
    go later true e h at only = ap (λ (b : Bool). cond (not b) (1 + position_or_len (named n) hs) 0) e ∙ only 0 y refl (grind (arith, nat_tests, e))
    go later false e zero at only = absurd (let same : y ≡ x = cc in let named_so : y.name ≡ n = ap (λ (z : Handler). z.name) same ∙ is in grind (arith, nat_tests, e, named_so))
    go later false e (suc h) at only =
        let rest : position_or_len (named n) hs ≡ h = later h at (λ j z g q. omega (arith, only (suc j) z g q)) in
        ap (λ (b : Bool). cond (not b) (1 + position_or_len (named n) hs) 0) e ∙ omega (arith, rest)

known_at : (m : ℕ) (hs : List Handler) (h : ℕ) (x : Handler) → AllByRecursion (λ (h : Handler). h.name < m) hs → slice_get hs h ≡ Some x → x.name < m
known_at m [] h x all at = absurd (cc)
known_at m (y ∷ hs) zero x all at = let same : y ≡ x = cc in subst (λ (z : Handler). z.name < m) same all.0
known_at m (y ∷ hs) (suc h) x all at = known_at m hs h x all.1 at

text_there : (names : List Text) (i : ℕ) → i < length names → slice_get names i ≡ Some (name_at names i)
text_there [] i h = absurd (omega (arith, h))
text_there (x ∷ xs) zero h = refl
text_there (x ∷ xs) (suc i) h = text_there xs i (omega (arith, h))

pub handler_is : (names : List Text) (f : File) (h : ℕ) → h < length f.handlers → AreDistinct names → AreKnown names f → KeepsRules f → handler_of names f (handler_name names f h) ≡ h
unfolding handler_of
handler_is names f h low apart known keeps =
    let x = there f.handlers h low in
    let text : Text = name_at names x.0.name in
    let at : slice_get names x.0.name ≡ Some text = text_there names x.0.name (known_at (length names) f.handlers h x.0 known x.1) in
    let place : place_of names text ≡ x.0.name = sym (place_is text names x.0.name apart at) in
    ap (λ (o : Option Handler). position_or_len (named (place_of names (name_of names o))) f.handlers) x.1
    ∙ ap (λ (n : ℕ). position_or_len (named n) f.handlers) place
    ∙ first_named f.handlers h x.0.name x.0 x.1 refl (λ j y g q. one_place f keeps j h y x.0 g x.1 q)

pub name_kept_by : (names new : List Text) (f : File) (h : ℕ) → Begins names new → h < length f.handlers → AreKnown names f → handler_name new f h ≡ handler_name names f h
name_kept_by names new f h b low known =
    let x = there f.handlers h low in
    let at = text_there names x.0.name (known_at (length names) f.handlers h x.0 known x.1) in
    let kept : name_at new x.0.name ≡ name_at names x.0.name = ap (λ (ns : List Text). name_at ns x.0.name) b.1 ∙ ap (λ (o : Option Text). unwrap_or o []) (front_kept names b.0 x.0.name (name_at names x.0.name) at) in
    ap (name_of new) x.1 ∙ kept ∙ sym (ap (name_of names) x.1)

-- ---- the whole line
module _ (names : List Text) (f : File) (h : ℕ) (args : List Argument) (low : h < length f.handlers) (named : IsNamedFile names f) (fine : first_fault names args ≡ None) (held : AllByRecursion IsHeld args) where
  abbrev name : Text
  name = handler_name names f h

  abbrev ws : List Text
  ws = words_of names args

  text : IsName name
  text = handler_text names f h low named

  pub line_words : words (line_given names f h args) ≡ name ∷ ws
  line_words = words_back (name ∷ ws) (text.word, words_are names args fine held)

  one : lines (line_given names f h args) ≡ line_given names f h args ∷ []
  one =
      let w = text.word in
      let some = length-append name (after_spaces ws) in
      one_line (line_given names f h args) (omega (arith, some, w.some)) (line_append name (after_spaces ws) w.line (after_line ws (words_are names args fine held)))

  short : length args ≤ max_variables → nat_lt max_input (length (line_given names f h args)) ≡ false
  short few =
      let whole = length-append name (after_spaces ws) in
      let more = after_short ws (words_short names args fine held) in
      let long : length ws ≡ length args = words_long names args in
      let most : length (line_given names f h args) ≤ max_input = omega (arith, whole, more, long, few, text.short) in
      grind (arith, nat_tests, most)

-- what its row is answered is what the line is answered
pub said_text : (v : LiveView) (h : ℕ) (args : List Argument) (low : h < length v.file.handlers) (named : IsNamedFile v.names v.file) (fine : first_fault v.names args ≡ None) (held : AllByRecursion IsHeld args) → length args ≤ max_variables
    → (a : Answered) (text : Text) (w : LiveView) → RowAnswered v (line_given v.names v.file h args) (row_given v.names v.file h args) a text w → TextAnswered v (line_given v.names v.file h args) a text w
said_text v h args low named fine held few a text w answered =
    let line : Text = line_given v.names v.file h args in
    let by_words : WordsAnswered v line (words line) a text w = subst (λ (ws : List Text). WordsAnswered v line ws a text w) (sym (line_words v.names v.file h args low named fine held)) answered in
    let by_length : AnsweredBy (nat_lt max_input (length line)) v line a text w = subst (λ (b : Bool). AnsweredBy b v line a text w) (sym (short v.names v.file h args low named fine held few)) by_words in
    subst (λ (ls : List Text). LinesAnswered v ls a text w) (sym (one v.names v.file h args low named fine held)) by_length
