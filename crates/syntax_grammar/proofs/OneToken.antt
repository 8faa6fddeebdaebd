-- A text has one first token at most.
use Rattle.std.proofs.Common.{◌≡◌, ℕ, zero, suc, ◌<◌, ◌≤◌, ◌⊎◌, inl, inr, Bool, true, false, if◌then◌else◌, List, [], ◌∷◌, length, get_or, take, drop, refl, sym, ap, ◌∙◌, subst, arith, nat_lt, nat_eq, rules}
use Rattle.std.specs.Prelude.{is_some}
use Rattle.std.specs.Char.{is_ascii_digit, is_ascii_alphabetic}
use Rattle.std.proofs.lemmas.Bool.{cases_order, or_parts}
use Rattle.std.proofs.lemmas.Bool.Decides.{nat_tests}
use Rattle.syntax_grammar.specs.declared.token_kind.TokenKind.{TokenKind}
use Rattle.syntax_grammar.specs.declared.token_kind.TokenKind.TheVariants as kind
use Rattle.syntax_grammar.specs.Keyword.{sort_in, keyword_of, sign_of, operation_of, statement_word_of, operations, statement_words}
use Rattle.syntax_grammar.specs.Longest.{IsDigits, IsShape, IsLongest, IsQuotedNil, IsFirstToken}
use Rattle.syntax_grammar.specs.Scan.{char_length, is_single}
use Rattle.syntax_grammar.proofs.Longest.{in_rows, is_pair, in_either, key_letters, sign_form, digit_no_letter, first_digit}

-- ---- one kind

pub not_long : (n : ℕ) → n ≤ 64 → nat_lt 64 n ≡ false
not_long n h = grind (arith, nat_tests)

is_long : (n : ℕ) → 64 < n → nat_lt 64 n ≡ true
is_long n h = grind (arith, nat_tests)

key_long : (t : List ℕ) → is_some (keyword_of t) ≡ true → nat_lt 64 (length t) ≡ false
unfolding keyword_of statement_word_of operation_of
key_long t = in_either (λ t. nat_lt 64 (length t) ≡ false) t (sort_in statement_words t) (sort_in operations t) (in_rows (λ t. nat_lt 64 (length t) ≡ false) statement_words t (search rules)) (in_rows (λ t. nat_lt 64 (length t) ≡ false) operations t (search rules))

abbrev tell : Bool → Bool → Bool → Bool → Bool → Bool → TokenKind
tell true digit quote long key quoted = if long then kind.Long else (if key then kind.Key
    else kind.Name)
tell false true quote long key quoted = kind.Number
tell false false true long key quoted = if quoted then kind.Long else kind.Symbol
tell false false false long key quoted = kind.Sign

-- what is told from the first byte, the lengths and the reserved words
abbrev told : List ℕ → TokenKind
told t = tell (is_ascii_alphabetic (get_or t 0 0)) (is_ascii_digit (get_or t 0 0))
    (nat_eq (get_or t 0 0) 39) (nat_lt 64 (length t)) (is_some (keyword_of t))
    (nat_lt 64 (length (drop 1 t)))

module _ (t : List ℕ) where
  letter_told : is_ascii_alphabetic (get_or t 0 0) ≡ true → (long key : Bool) → nat_lt 64 (length t) ≡ long → is_some (keyword_of t) ≡ key → told t ≡ (if long then kind.Long else (if key then kind.Key else kind.Name))
  letter_told e long key f g =
      ap (λ (x : Bool). tell x (is_ascii_digit (get_or t 0 0)) (nat_eq (get_or t 0 0) 39) (nat_lt 64 (length t)) (is_some (keyword_of t)) (nat_lt 64 (length (drop 1 t)))) e
      ∙ ap (λ (x : Bool). if x then kind.Long else (if is_some (keyword_of t) then kind.Key else kind.Name)) f
      ∙ ap (λ (x : Bool). if long then kind.Long else (if x then kind.Key else kind.Name)) g

  long_told : is_ascii_alphabetic (get_or t 0 0) ≡ true → 64 < length t → told t ≡ kind.Long
  long_told e l = letter_told e true (is_some (keyword_of t)) (is_long (length t) l) refl

  number_told : IsDigits t → told t ≡ kind.Number
  number_told s =
      let d = first_digit t s in
      ap (λ (x : Bool). tell x (is_ascii_digit (get_or t 0 0)) (nat_eq (get_or t 0 0) 39) (nat_lt 64 (length t)) (is_some (keyword_of t)) (nat_lt 64 (length (drop 1 t)))) (digit_no_letter (get_or t 0 0) d)
      ∙ ap (λ (x : Bool). tell false x (nat_eq (get_or t 0 0) 39) (nat_lt 64 (length t)) (is_some (keyword_of t)) (nat_lt 64 (length (drop 1 t)))) d

  quoted_told : (run : List ℕ) → t ≡ 39 ∷ run → (quoted : Bool) → nat_lt 64 (length run) ≡ quoted → told t ≡ (if quoted then kind.Long else kind.Symbol)
  quoted_told run is quoted e = ap told is ∙ ap (λ (x : Bool). if x then kind.Long else kind.Symbol) e

  sign_told : is_some (sign_of t) ≡ true → told t ≡ kind.Sign
  sign_told h =
      let s = sign_form t h in
      ap (λ (x : Bool). tell x (is_ascii_digit (get_or t 0 0)) (nat_eq (get_or t 0 0) 39) (nat_lt 64 (length t)) (is_some (keyword_of t)) (nat_lt 64 (length (drop 1 t)))) (or_parts _ _ s.other).0
      ∙ ap (λ (x : Bool). tell false x (nat_eq (get_or t 0 0) 39) (nat_lt 64 (length t)) (is_some (keyword_of t)) (nat_lt 64 (length (drop 1 t)))) (or_parts _ _ s.other).1
      ∙ ap (λ (x : Bool). tell false false x (nat_lt 64 (length t)) (is_some (keyword_of t)) (nat_lt 64 (length (drop 1 t)))) s.unquoted

  shape_told : (k : TokenKind) → IsShape k t → told t ≡ k
  shape_told kind.Name s = letter_told s.run.letter false false (not_long (length t) s.run.short) (ap is_some s.free)
  shape_told kind.Key s = letter_told (key_letters t s).letter false true (key_long t s) s
  shape_told kind.Symbol s = (let good = s.good in quoted_told s.run s.is false (not_long (length s.run) good.run.short))
  shape_told kind.Number s = number_told s
  shape_told kind.Sign s = sign_told s
  shape_told kind.Long (inl s) = long_told s.letter s.long
  shape_told kind.Long (inr s) = (let good = s.good in quoted_told s.run s.is true (is_long (length s.run) good.long))
  shape_told kind.Bad s = absurd s
  shape_told kind.End s = absurd s

  one_kind : (k l : TokenKind) → IsShape k t → IsShape l t → k ≡ l
  one_kind k l s u = sym (shape_told k s) ∙ shape_told l u

-- ---- one length

sign_some : (t : List ℕ) → ((length t ≡ 1) × (is_single (get_or t 0 0) ≡ true)) ⊎ ((length t ≡ 2) × (is_pair t ≡ true)) → length t ≡ 0 → ⊥
sign_some t (inl f) z = let e = f.0 in absurd (omega (arith, e, z))
sign_some t (inr f) z = let e = f.0 in absurd (omega (arith, e, z))

none_empty : (k : TokenKind) → IsShape k [] → ⊥
none_empty kind.Name s = let e : false ≡ true = s.run.letter in cc
none_empty kind.Key s = let e : false ≡ true = (key_letters [] s).letter in cc
none_empty kind.Symbol s = let e : length {A = ℕ} [] ≡ length (39 ∷ s.run) = ap length s.is in absurd (omega (arith, e))
none_empty kind.Number s = absurd (omega (arith, s.some))
none_empty kind.Sign s = sign_some [] (sign_form [] s).form refl
none_empty kind.Long (inl s) = let e : false ≡ true = s.letter in cc
none_empty kind.Long (inr s) = let e : length {A = ℕ} [] ≡ length (39 ∷ s.run) = ap length s.is in absurd (omega (arith, e))
none_empty kind.Bad s = s
none_empty kind.End s = s

some_length : (text : List ℕ) (k : TokenKind) (n : ℕ) → IsShape k (take n text) → 0 < n
some_length text k zero s = absurd (none_empty k s)
some_length text k (suc n) s = omega arith

-- a shape with the length of the longest
record IsToken (text : List ℕ) (k : TokenKind) (n : ℕ) : Type 0 where
  shape : IsShape k (take n text)
  longest : IsLongest text n
  fits : n ≤ length text

same_token : (text : List ℕ) (k l : TokenKind) (n m : ℕ) → IsToken text k n → IsToken text l m → (k ≡ l) × (n ≡ m)
same_token text k l n m a b = go (cases_order n m)
  where
    go : (n ≡ m) ⊎ ((n < m) ⊎ (m < n)) → (k ≡ l) × (n ≡ m)
    go (inl e) = (one_kind (take m text) k l (subst (λ (i : ℕ). IsShape k (take i text)) e a.shape) b.shape, e)
    go (inr (inl h)) = absurd (a.longest l m h b.fits b.shape)
    go (inr (inr h)) = absurd (b.longest k n h a.fits a.shape)

-- where a token is, no bad character is
no_bad : (text : List ℕ) (k : TokenKind) (n : ℕ) → IsToken text k n → (IsQuotedNil text → ⊥) → IsLongest text 0 ⊎ IsQuotedNil text → ⊥
no_bad text k n a free (inl none) = none k n (some_length text k n a.shape) a.fits a.shape
no_bad text k n a free (inr nil) = free nil

-- the first token is a bad character, or has its kind's shape
abbrev IsEither : List ℕ → TokenKind → ℕ → Type 0
IsEither text k n = ((k ≡ kind.Bad) × (n ≡ char_length (get_or text 0 0)) × (IsLongest text 0 ⊎ IsQuotedNil text))
    ⊎ (IsToken text k n × (IsQuotedNil text → ⊥))

either_of : (text : List ℕ) (k : TokenKind) (n : ℕ) → IsFirstToken text k n → IsEither text k n
either_of text kind.Bad n h = inl (refl, h.0, h.1)
either_of text kind.Name n h = inr (record { shape = h.0; longest = h.1; fits = h.2 }, h.3)
either_of text kind.Key n h = inr (record { shape = h.0; longest = h.1; fits = h.2 }, h.3)
either_of text kind.Symbol n h = inr (record { shape = h.0; longest = h.1; fits = h.2 }, h.3)
either_of text kind.Number n h = inr (record { shape = h.0; longest = h.1; fits = h.2 }, h.3)
either_of text kind.Sign n h = inr (record { shape = h.0; longest = h.1; fits = h.2 }, h.3)
either_of text kind.Long n h = inr (record { shape = h.0; longest = h.1; fits = h.2 }, h.3)
either_of text kind.End n h = absurd h.0

pub one_token : (text : List ℕ) (k l : TokenKind) (n m : ℕ) → IsFirstToken text k n → IsFirstToken text l m → (k ≡ l) × (n ≡ m)
one_token text k l n m a b = go (either_of text k n a) (either_of text l m b)
  where
    go : IsEither text k n → IsEither text l m → (k ≡ l) × (n ≡ m)
    go (inl x) (inl y) = (x.0 ∙ sym y.0, x.1 ∙ sym y.1)
    go (inl x) (inr y) = absurd (no_bad text l m y.0 y.1 x.2)
    go (inr x) (inl y) = absurd (no_bad text k n x.0 x.1 y.2)
    go (inr x) (inr y) = same_token text k l n m x.0 y.0

-- a quote before `nil` is a bad character
pub nil_is_bad : (text : List ℕ) → IsQuotedNil text → IsFirstToken text kind.Bad 1
nil_is_bad text q = (sym (ap char_length q.quote), inr q)
