-- The lines of a made session's requests.
use Rattle.std.proofs.Common.{◌≡◌, ℕ, zero, suc, ◌+◌, ◌*◌, ◌%◌, ◌<◌, ◌≤◌, Bool, true, false, ◌==◌, cond, nat_lt, List, [], ◌∷◌, ◌++◌, length, refl, sym, ap, ◌∙◌, arith, append_assoc, length-append}
use Rattle.std.specs.Prelude.{codes, decimal, IsUtf8}
use Rattle.std.specs.List.{list_all, AllByRecursion}
use Rattle.std.proofs.lemmas.Bool.Decides.{nat_tests}
use Rattle.std.proofs.lemmas.List.Elements.{All-from_recursion}
use Rattle.std.proofs.lemmas.Str.{IsUtf8-from_ascii}
use Rattle.std.proofs.lemmas.Str.Ascii.{IsAscii-from_all}
use Rattle.std.proofs.lemmas.Bool.{and_from, and_parts}
use Rattle.text_lines.specs.Text.{Text, is_line_byte}
use Rattle.text_lines.specs.Values.{is_value}
use Rattle.text_lines.specs.Laws.{with_feeds}
use Rattle.serve_faults.specs.Requests.{handler_of}
use Rattle.serve_faults.specs.Draws.{draw}
use Rattle.serve_faults.specs.ServeSession.{request_line, line_at, lines_of}
use Rattle.serve_faults.proofs.Handlers.{small_at}
use Rattle.serve_faults.proofs.Numbers.{is_plain_byte, IsNumber, small_number, user_value}
use Rattle.serve_faults.proofs.Parts.{all_joined, all_weaker, is_line}
use Rattle.serve_faults.proofs.Phrases.{made_file}
use Rattle.serve_faults.proofs.LightRows.{HasLight}
use Rattle.serve_faults.proofs.Tokens.{made_names}
use Rattle.serve_faults.proofs.Words.{word_then, only_word}

-- ---- one line, by the tests of its first draw and the two numbers

abbrev bare : (x y z : Bool) (user time : Text) → Text
bare true y z u t = codes "login" ++ 32 ∷ (117 ∷ u) ++ 32 ∷ t
bare false true z u t = codes "logout" ++ 32 ∷ 117 ∷ u
bare false false true u t = codes "seen" ++ 32 ∷ 117 ∷ u
bare false false false u t = codes "crowd"

abbrev full : (x y z : Bool) (user time : Text) → Text
full x y z u t = cond x (codes "login u" ++ u ++ codes " " ++ t ++ codes "\n") (cond y (codes "logout u" ++ u ++ codes "\n") (cond z (codes "seen u" ++ u ++ codes "\n") (codes "crowd\n")))

full_is : (x y z : Bool) (u t : Text) → full x y z u t ≡ bare x y z u t ++ 10 ∷ []
full_is true y z u t = ap (λ w. codes "login u" ++ (w ++ 10 ∷ [])) (append_assoc u (32 ∷ []) t)
full_is false true z u t = refl
full_is false false true u t = refl
full_is false false false u t = refl

-- what holds of each line
pub record IsMade (l : Text) : Type 0 where
  pub plain : list_all is_plain_byte l ≡ true
  pub short : length l ≤ 30
  pub row : HasLight made_names made_file l

login_found : handler_of made_names made_file (codes "login") ≡ 0
unfolding handler_of
login_found = refl

logout_found : handler_of made_names made_file (codes "logout") ≡ 1
unfolding handler_of
logout_found = refl

seen_found : handler_of made_names made_file (codes "seen") ≡ 2
unfolding handler_of
seen_found = refl

crowd_found : handler_of made_names made_file (codes "crowd") ≡ 3
unfolding handler_of
crowd_found = refl

one_value : (w : Text) → is_value w ≡ true → list_all is_value (w ∷ []) ≡ true
one_value w h = and_from (is_value w) true h refl

two_values : (v w : Text) → is_value v ≡ true → is_value w ≡ true → list_all is_value (v ∷ w ∷ []) ≡ true
two_values v w h k = and_from (is_value v) (list_all is_value (w ∷ [])) h (one_value w k)

made_line : (x y z : Bool) (u t : Text) → IsNumber u → IsNumber t → is_value (117 ∷ u) ≡ true → IsMade (bare x y z u t)
made_line true y z u t nu nt value = record {
  plain = all_joined is_plain_byte u (32 ∷ t) nu.plain nt.plain;
  short = (let a = nu.short in let b = nt.short in let c = length-append u (32 ∷ t) in omega (arith, a, b, c));
  row = record {
    name = codes "login";
    args = (117 ∷ u) ∷ t ∷ [];
    words_are = word_then 108 (codes "ogin") ((117 ∷ u) ++ 32 ∷ t) refl ∙ ap (λ r. codes "login" ∷ r) (word_then 117 u t nu.word ∙ ap (λ r. (117 ∷ u) ∷ r) (only_word t nt.some nt.word));
    light = λ line. record { number = 0; found = login_found; inside = omega arith; args = refl; values = two_values (117 ∷ u) t value nt.value; calls = (small_at 0 (omega arith)).calls; work = (small_at 0 (omega arith)).work };
  };
}
made_line false true z u t nu nt value = record {
  plain = nu.plain;
  short = (let a = nu.short in omega (arith, a));
  row = record {
    name = codes "logout";
    args = (117 ∷ u) ∷ [];
    words_are = word_then 108 (codes "ogout") (117 ∷ u) refl ∙ ap (λ r. codes "logout" ∷ r) (only_word (117 ∷ u) (omega arith) nu.word);
    light = λ line. record { number = 1; found = logout_found; inside = omega arith; args = refl; values = one_value (117 ∷ u) value; calls = (small_at 1 (omega arith)).calls; work = (small_at 1 (omega arith)).work };
  };
}
made_line false false true u t nu nt value = record {
  plain = nu.plain;
  short = (let a = nu.short in omega (arith, a));
  row = record {
    name = codes "seen";
    args = (117 ∷ u) ∷ [];
    words_are = word_then 115 (codes "een") (117 ∷ u) refl ∙ ap (λ r. codes "seen" ∷ r) (only_word (117 ∷ u) (omega arith) nu.word);
    light = λ line. record { number = 2; found = seen_found; inside = omega arith; args = refl; values = one_value (117 ∷ u) value; calls = (small_at 2 (omega arith)).calls; work = (small_at 2 (omega arith)).work };
  };
}
made_line false false false u t nu nt value = record {
  plain = refl;
  short = omega arith;
  row = record {
    name = codes "crowd";
    args = [];
    words_are = only_word (codes "crowd") (omega arith) refl;
    light = λ line. record { number = 3; found = crowd_found; inside = omega arith; args = refl; values = refl; calls = (small_at 3 (omega arith)).calls; work = (small_at 3 (omega arith)).work };
  };
}

-- ---- the line of a request

abbrev drawn_line : ℕ → ℕ → ℕ → Text
drawn_line a b c = bare (a % 4 == 0) (a % 4 == 1) (a % 4 == 2) (decimal (b % 100)) (decimal (c % 1000))

drawn_made : (a b c : ℕ) → IsMade (drawn_line a b c)
drawn_made a b c =
    made_line (a % 4 == 0) (a % 4 == 1) (a % 4 == 2) (decimal (b % 100)) (decimal (c % 1000)) (small_number (b % 100) (omega arith)) (small_number (c % 1000) (omega arith)) (user_value (b % 100) (omega arith))

drawn_is : (a b c : ℕ) → request_line a b c ≡ drawn_line a b c ++ 10 ∷ []
drawn_is a b c = full_is (a % 4 == 0) (a % 4 == 1) (a % 4 == 2) (decimal (b % 100)) (decimal (c % 1000))

abbrev line_of : ℕ → ℕ → Text
line_of start t = drawn_line (draw start (3 * t)) (draw start (3 * t + 1)) (draw start (3 * t + 2))

-- the lines of the first n requests, without their line feeds
abbrev pub made_lines : ℕ → ℕ → List Text
made_lines start zero = []
made_lines start (suc t) = made_lines start t ++ line_of start t ∷ []

pub lines_count : (start n : ℕ) → length (made_lines start n) ≡ n
lines_count start zero = refl
lines_count start (suc t) = let rest = lines_count start t in omega (arith, rest, length-append (made_lines start t) (line_of start t ∷ []))

all_push : (P : Text → Type 0) (ls : List Text) (l : Text) → AllByRecursion P ls → P l → AllByRecursion P (ls ++ l ∷ [])
all_push P [] l a h = (h, tt)
all_push P (x ∷ ls) l a h = (a.0, all_push P ls l a.1 h)

pub lines_made : (start n : ℕ) → AllByRecursion IsMade (made_lines start n)
lines_made start zero = tt
lines_made start (suc t) = all_push IsMade (made_lines start t) (line_of start t) (lines_made start t) (drawn_made (draw start (3 * t)) (draw start (3 * t + 1)) (draw start (3 * t + 2)))

feeds_push : (ls : List Text) (l : Text) → with_feeds (ls ++ l ∷ []) ≡ with_feeds ls ++ (l ++ 10 ∷ [])
feeds_push [] l = refl
feeds_push (x ∷ ls) l = ap (λ t. x ++ 10 ∷ t) (feeds_push ls l) ∙ sym (append_assoc x (10 ∷ with_feeds ls) (l ++ 10 ∷ []))

pub lines_are : (start n : ℕ) → lines_of start n ≡ with_feeds (made_lines start n)
unfolding lines_of
lines_are start zero = refl
lines_are start (suc t) =
    ap (λ xs. xs ++ line_at start t) (lines_are start t)
    ∙ ap (λ l. with_feeds (made_lines start t) ++ l) (drawn_is (draw start (3 * t)) (draw start (3 * t + 1)) (draw start (3 * t + 2)))
    ∙ sym (feeds_push (made_lines start t) (line_of start t))

-- ---- what follows of all lines

plain_line : (b : ℕ) → is_plain_byte b ≡ true → is_line_byte b ≡ true
plain_line b h = (and_parts (is_line_byte b) (nat_lt b 128) h).0

-- ASCII
abbrev pub is_ascii_byte : ℕ → Bool
is_ascii_byte b = nat_lt b 128

below : (b : ℕ) → nat_lt b 128 ≡ true → b < 128
below b e = grind (arith, nat_tests)

ascii_all : (bs : Text) → list_all is_ascii_byte bs ≡ true → AllByRecursion (λ b. b < 128) bs
ascii_all [] h = tt
ascii_all (b ∷ bs) h = (below b (and_parts (is_ascii_byte b) (list_all is_ascii_byte bs) h).0, ascii_all bs (and_parts (is_ascii_byte b) (list_all is_ascii_byte bs) h).1)

pub utf8_of : (bs : Text) → list_all is_ascii_byte bs ≡ true → IsUtf8 bs
utf8_of bs h = IsUtf8-from_ascii bs (IsAscii-from_all bs (All-from_recursion (λ b. b < 128) bs (ascii_all bs h)))

plain_ascii : (b : ℕ) → is_plain_byte b ≡ true → is_ascii_byte b ≡ true
plain_ascii b h = (and_parts (is_line_byte b) (nat_lt b 128) h).1

pub utf8_plain : (bs : Text) → list_all is_plain_byte bs ≡ true → IsUtf8 bs
utf8_plain bs h = utf8_of bs (all_weaker is_plain_byte is_ascii_byte plain_ascii bs h)

pub are_lines : (ls : List Text) → AllByRecursion IsMade ls → list_all is_line ls ≡ true
are_lines [] a = refl
are_lines (l ∷ ls) a = let made : IsMade l = a.0 in and_from (is_line l) (list_all is_line ls) (all_weaker is_plain_byte is_line_byte plain_line l made.plain) (are_lines ls a.1)

pub have_light : (ls : List Text) → AllByRecursion IsMade ls → AllByRecursion (HasLight made_names made_file) ls
have_light [] a = tt
have_light (l ∷ ls) a = (let made : IsMade l = a.0 in (made.row, have_light ls a.1))

pub feeds_length : (ls : List Text) → AllByRecursion IsMade ls → length (with_feeds ls) ≤ 31 * length ls
feeds_length [] a = omega arith
feeds_length (l ∷ ls) a =
    let made : IsMade l = a.0 in
    let short : length l ≤ 30 = made.short in
    let rest = feeds_length ls a.1 in
    omega (arith, short, rest, length-append l (10 ∷ with_feeds ls))
