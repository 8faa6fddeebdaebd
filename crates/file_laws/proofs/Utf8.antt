-- Whole lines at the front of a text are UTF-8 where the text is.
use Rattle.std.proofs.Common.{◌≡◌, ℕ, true, suc, ◌+◌, ◌<◌, ◌⊎◌, inl, inr, List, [], ◌∷◌, ◌++◌, length, take, get_or, IsUtf8, refl, sym, ap, ◌∙◌, subst, arith, append_assoc, length-append}
use Rattle.std.proofs.lemmas.Str.{IsCharBoundary-after_ascii, IsUtf8-append, IsUtf8-from_ascii, IsUtf8-nil, IsUtf8-take}
use Rattle.std.proofs.ByRecursion.{IsAscii-from_all}
use Rattle.std.specs.List.{AllByRecursion}
use Rattle.std.specs.Str.{IsCharBoundary}
use Rattle.text_lines.specs.Laws.{with_feeds}
use Rattle.text_lines.specs.Text.{Text, lines}
use Rattle.request_files.specs.Laws.{AreParts}
use Rattle.request_files.proofs.WholeParts.{parts_are}
use Rattle.serve_faults.specs.Input.{Parts, is_divided, parts_of}
use Rattle.file_laws.proofs.Dividing.{IsWhole}

take_feed : (front rest : Text) → take (suc (length front)) (front ++ 10 ∷ rest) ≡ front ++ 10 ∷ []
take_feed [] rest = refl
take_feed (x ∷ front) rest = ap (λ (t : Text). x ∷ t) (take_feed front rest)

feed_there : (front rest : Text) → get_or (front ++ 10 ∷ rest) (length front) 0 ≡ 10
feed_there [] rest = refl
feed_there (x ∷ front) rest = feed_there front rest

feed_front : (front rest : Text) → IsUtf8 (front ++ 10 ∷ rest) → IsUtf8 (front ++ 10 ∷ [])
feed_front front rest u =
    let inside : length front < length (front ++ 10 ∷ rest) = omega (arith, length-append front (10 ∷ rest)) in
    let edge : IsCharBoundary (front ++ 10 ∷ rest) (length front + 1) = IsCharBoundary-after_ascii (front ++ 10 ∷ rest) (length front) u inside (omega (arith, feed_there front rest)) in
    let n : length front + 1 ≡ suc (length front) = omega arith in
    subst IsUtf8 (take_feed front rest) (IsUtf8-take (front ++ 10 ∷ rest) (suc (length front)) u (subst (IsCharBoundary (front ++ 10 ∷ rest)) n edge))

-- lines with their line feeds end with one
record EndsFed (text : Text) : Type 0 where
  front : Text
  is : text ≡ front ++ 10 ∷ []

fed : (l : Text) (ls : List Text) → EndsFed (with_feeds (l ∷ ls))
fed l [] = record { front = l; is = refl }
fed l (k ∷ ls) = let rest = fed k ls in record { front = l ++ 10 ∷ rest.front; is = ap (λ (t : Text). l ++ 10 ∷ t) rest.is ∙ sym (append_assoc l (10 ∷ rest.front) (10 ∷ [])) }

feeds_front : (ls : List Text) (rest : Text) → IsUtf8 (with_feeds ls ++ rest) → IsUtf8 (with_feeds ls)
feeds_front [] rest u = IsUtf8-nil
feeds_front (l ∷ ls) rest u =
    let e = fed l ls in
    let whole : with_feeds (l ∷ ls) ++ rest ≡ e.front ++ 10 ∷ rest = ap (λ (t : Text). t ++ rest) e.is ∙ append_assoc e.front (10 ∷ []) rest in
    subst IsUtf8 (sym e.is) (feed_front e.front rest (subst IsUtf8 whole u))

whole_front : (head rest : Text) → IsWhole head → IsUtf8 (head ++ rest) → IsUtf8 head
whole_front head rest w u = subst IsUtf8 w (feeds_front (lines head) rest (subst (λ (t : Text). IsUtf8 (t ++ rest)) (sym w) u))

half_utf8 : (text head line tail : Text) → IsWhole head → ((text ≡ head ++ line ++ 10 ∷ tail) ⊎ ((text ≡ head ++ line) × (tail ≡ []))) → IsUtf8 text → IsUtf8 head
half_utf8 text head line tail w (inl k) u = whole_front head (line ++ 10 ∷ tail) w (subst IsUtf8 (k ∙ append_assoc head line (10 ∷ tail)) u)
half_utf8 text head line tail w (inr k) u = whole_front head line w (subst IsUtf8 k.0 u)

parts_utf8 : (input handlers tables requests : Text) (first_table first : ℕ) → AreParts input handlers tables requests first_table first → IsUtf8 input → IsUtf8 handlers
parts_utf8 input handlers tables requests first_table first a u =
    let front : IsUtf8 a.front = half_utf8 input a.front a.divided.line requests a.divided.head_lines a.divided.whole u in
    elim a.opened [
      | inl h ↦ half_utf8 a.front handlers h.line tables h.head_lines h.whole front
      | inr e ↦ subst IsUtf8 (sym e.head_is) front
    ]

-- the handlers of a session file
pub handlers_utf8 : (input : Text) → is_divided input ≡ true → IsUtf8 input → IsUtf8 (parts_of input).handlers
handlers_utf8 input marked u =
    let p : Parts = parts_of input in
    parts_utf8 input p.handlers p.tables p.requests p.first_table p.first (parts_are input p.handlers p.tables p.requests p.first_table p.first (record {
      marked = marked;
      handlers_are = refl;
      tables_are = refl;
      requests_are = refl;
      first_table_is = refl;
      first_is = refl;
    })) u

pub ascii_behind : (front back : Text) → IsUtf8 front → AllByRecursion (λ b. b < 128) back → IsUtf8 (front ++ back)
ascii_behind front back u a = IsUtf8-append front back u (IsUtf8-from_ascii back (IsAscii-from_all back a))
