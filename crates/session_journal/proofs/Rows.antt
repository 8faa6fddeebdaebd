-- The rows of a list of tickets, when operations and symbols come behind the last ones.
use Rattle.std.proofs.Common.{◌≡◌, ℕ, zero, suc, ◌+◌, ◌<◌, ◌≤◌, List, [], ◌∷◌, ◌++◌, length, take, drop, get_or, refl, sym, ◌∙◌, ap, subst, arith}
use mathlib.Core.List.{map}
use Rattle.std.proofs.Math.ListN.{set}
use Rattle.std.proofs.lemmas.List.{take-append-drop}
use Rattle.std.specs.List.{AllByRecursion}
use Rattle.session_values.specs.declared.op.Op.{Op}
use Rattle.symbolic_ops.specs.declared.symbol.Symbol.{Symbol}
use Rattle.session_journal.specs.declared.list_script.Row.{Row}
use Rattle.session_journal.specs.Lists.{Ticket, ticket_at, last_ticket, with_last}
use Rattle.session_journal.specs.ListRows.{ticket_of_row, tickets_of, Follow}
use Rattle.session_journal.proofs.ListLawful.{total}

-- ---- pieces of a list that grows behind
pub front_stays : {X : Type 0} (xs ys : List X) (from n : ℕ) → from + n ≤ length xs → take n (drop from (xs ++ ys)) ≡ take n (drop from xs)
front_stays xs ys from zero h = refl
front_stays [] ys from (suc n) h = absurd (omega (arith, h))
front_stays (x ∷ xs) ys zero (suc n) h = ap (λ l. x ∷ l) (front_stays xs ys zero n (omega (arith, h)))
front_stays (x ∷ xs) ys (suc from) (suc n) h = front_stays xs ys from (suc n) (omega (arith, h))

pub last_grows : {X : Type 0} (xs : List X) (y : X) (from n : ℕ) → from + n ≡ length xs → take (suc n) (drop from (xs ++ y ∷ [])) ≡ take n (drop from xs) ++ y ∷ []
last_grows [] y zero zero h = refl
last_grows [] y zero (suc n) h = absurd (omega (arith, h))
last_grows [] y (suc from) n h = absurd (omega (arith, h))
last_grows (x ∷ xs) y zero zero h = absurd (omega (arith, h))
last_grows (x ∷ xs) y zero (suc n) h = ap (λ l. x ∷ l) (last_grows xs y zero n (omega (arith, h)))
last_grows (x ∷ xs) y (suc from) n h = last_grows xs y from n (omega (arith, h))

none_dropped : {X : Type 0} (n : ℕ) → ◌≡◌ {A = List X} (drop n []) []
none_dropped zero = refl
none_dropped (suc n) = refl

none_taken : {X : Type 0} (n : ℕ) → ◌≡◌ {A = List X} (take n []) []
none_taken zero = refl
none_taken (suc n) = refl

pub whole_piece : {X : Type 0} (xs : List X) (o n : ℕ) → take n (drop o xs) ++ drop (o + n) xs ≡ drop o xs
whole_piece {X} [] o n = ap (λ (l : List X). take n l ++ drop (o + n) []) (none_dropped o) ∙ ap (λ (l : List X). l ++ drop (o + n) []) (none_taken n) ∙ none_dropped (o + n) ∙ sym (none_dropped o)
whole_piece (x ∷ xs) zero zero = refl
whole_piece (x ∷ xs) zero (suc n) = let e : zero + suc n ≡ suc n = omega arith in ap (λ j. x ∷ take n xs ++ drop j (x ∷ xs)) e ∙ take-append-drop (suc n) (x ∷ xs)
whole_piece (x ∷ xs) (suc o) n = let e : suc o + n ≡ suc (o + n) = omega arith in ap (λ j. take n (drop o xs) ++ drop j (x ∷ xs)) e ∙ whole_piece xs o n

-- ---- rows that follow one another
pub follow_le : (o s : ℕ) (rows : List Row) (p q : ℕ) → Follow o s rows p q → (o ≤ p) × (s ≤ q)
follow_le o s [] p q f = (omega (arith, f.0), omega (arith, f.1))
follow_le o s (r ∷ rows) p q f = let h : (o + r.ops ≤ p) × (s + r.symbols ≤ q) = follow_le (o + r.ops) (s + r.symbols) rows p q f.1.1 in (omega (arith, h.0), omega (arith, h.1))

-- the last row leaves off where the lists do
pub last_end : (o s : ℕ) (rows : List Row) (p q k : ℕ) (r : Row) → Follow o s rows p q → suc k ≡ length rows → r ≡ get_or rows k r → (r.first_op + r.ops ≡ p) × (r.first_symbol + r.symbols ≡ q)
last_end o s [] p q k r f l e = absurd (omega (arith, l))
last_end o s (x ∷ []) p q zero r f l e =
    let P : Row → Type 0 = λ y. (y.first_op + y.ops ≡ p) × (y.first_symbol + y.symbols ≡ q) in
    subst P (sym e) (omega (arith, f.0, f.1.1.0), omega (arith, f.1.0, f.1.1.1))
last_end o s (x ∷ []) p q (suc k) r f l e = absurd (omega (arith, l))
last_end o s (x ∷ y ∷ rows) p q zero r f l e = absurd (omega (arith, l))
last_end o s (x ∷ y ∷ rows) p q (suc k) r f l e = last_end (o + x.ops) (s + x.symbols) (y ∷ rows) p q k r f.1.1 (omega (arith, l)) e

-- the last row replaced by one that has more
pub follow_more : (o s : ℕ) (rows : List Row) (p q k dp dq : ℕ) (r z : Row) → Follow o s rows p q → suc k ≡ length rows → r ≡ get_or rows k r → z.first_op ≡ r.first_op → z.first_symbol ≡ r.first_symbol → z.ops ≡ r.ops + dp → z.symbols ≡ r.symbols + dq → Follow o s (set rows k z) (p + dp) (q + dq)
follow_more o s [] p q k dp dq r z f l e a b c d = absurd (omega (arith, l))
follow_more o s (x ∷ []) p q zero dp dq r z f l e a b c d =
    let fo : r.first_op ≡ x.first_op = ap (λ (y : Row). y.first_op) e in
    let fs : r.first_symbol ≡ x.first_symbol = ap (λ (y : Row). y.first_symbol) e in
    let no : r.ops ≡ x.ops = ap (λ (y : Row). y.ops) e in
    let ns : r.symbols ≡ x.symbols = ap (λ (y : Row). y.symbols) e in
    let u : z.first_op ≡ o = omega (arith, a, fo, f.0) in
    let v : z.first_symbol ≡ s = omega (arith, b, fs, f.1.0) in
    let w : o + z.ops ≡ p + dp = omega (arith, c, no, f.1.1.0) in
    let y : s + z.symbols ≡ q + dq = omega (arith, d, ns, f.1.1.1) in
    (u, (v, (w, y)))
follow_more o s (x ∷ []) p q (suc k) dp dq r z f l e a b c d = absurd (omega (arith, l))
follow_more o s (x ∷ y ∷ rows) p q zero dp dq r z f l e a b c d = absurd (omega (arith, l))
follow_more o s (x ∷ y ∷ rows) p q (suc k) dp dq r z f l e a b c d = (f.0, (f.1.0, follow_more (o + x.ops) (s + x.symbols) (y ∷ rows) p q k dp dq r z f.1.1 (omega (arith, l)) e a b c d))

-- a row behind the last one
pub follow_push : (o s : ℕ) (rows : List Row) (p q : ℕ) (z : Row) → Follow o s rows p q → z.first_op ≡ p → z.first_symbol ≡ q → z.ops ≡ 0 → z.symbols ≡ 0 → Follow o s (rows ++ z ∷ []) p q
follow_push o s [] p q z f a b c d =
    let u : z.first_op ≡ o = omega (arith, a, f.0) in
    let v : z.first_symbol ≡ s = omega (arith, b, f.1) in
    let w : o + z.ops ≡ p = omega (arith, c, f.0) in
    let y : s + z.symbols ≡ q = omega (arith, d, f.1) in
    (u, (v, (w, y)))
follow_push o s (x ∷ rows) p q z f a b c d = (f.0, (f.1.0, follow_push (o + x.ops) (s + x.symbols) rows p q z f.1.1 a b c d))

-- ---- their tickets
-- each piece of a list is one of another list
abbrev pub Holds : {X : Type 0} → List X → List X → Type 0
Holds {X} xs ys = (from n : ℕ) → from + n ≤ length xs → take n (drop from ys) ≡ take n (drop from xs)

-- what is in the lists' old part stays as it is
pub rows_stay : (ops ops2 : List Op) (symbols symbols2 : List Symbol) → Holds ops ops2 → Holds symbols symbols2 → (o s : ℕ) (rows : List Row) (p q : ℕ) → Follow o s rows p q → p ≤ length ops → q ≤ length symbols → AllByRecursion (λ r. ticket_of_row ops2 symbols2 r ≡ ticket_of_row ops symbols r) rows
rows_stay ops ops2 symbols symbols2 u v o s [] p q f a b = tt
rows_stay ops ops2 symbols symbols2 u v o s (r ∷ rows) p q f a b =
    let h : (o + r.ops ≤ p) × (s + r.symbols ≤ q) = follow_le (o + r.ops) (s + r.symbols) rows p q f.1.1 in (
      λ i. record {
        ops = u r.first_op r.ops (omega (arith, f.0, h.0, a)) i;
        reply = r.reply;
        entry = v r.first_symbol r.symbols (omega (arith, f.1.0, h.1, b)) i;
      },
      rows_stay ops ops2 symbols symbols2 u v (o + r.ops) (s + r.symbols) rows p q f.1.1 a b,
    )

pub map_stays : (f g : Row → Ticket) (rows : List Row) → AllByRecursion (λ r. g r ≡ f r) rows → map g rows ≡ map f rows
map_stays f g [] a = refl
map_stays f g (r ∷ rows) a = λ i. a.0 i ∷ map_stays f g rows a.1 i

pub last_set : (f g : Row → Ticket) (rows : List Row) (k : ℕ) (z : Row) → suc k ≡ length rows → AllByRecursion (λ r. g r ≡ f r) rows → map g (set rows k z) ≡ with_last (map f rows) (g z)
last_set f g [] k z l a = absurd (omega (arith, l))
last_set f g (x ∷ []) zero z l a = refl
last_set f g (x ∷ []) (suc k) z l a = absurd (omega (arith, l))
last_set f g (x ∷ y ∷ rows) zero z l a = absurd (omega (arith, l))
last_set f g (x ∷ y ∷ rows) (suc k) z l a = λ i. a.0 i ∷ last_set f g (y ∷ rows) k z (omega (arith, l)) a.1 i

-- each row lies within the lists
pub row_within : (o s : ℕ) (rows : List Row) (p q t : ℕ) (r : Row) → Follow o s rows p q → t < length rows → r ≡ get_or rows t r → (r.first_op + r.ops ≤ p) × (r.first_symbol + r.symbols ≤ q)
row_within o s [] p q t r f l e = absurd (omega (arith, l))
row_within o s (x ∷ rows) p q zero r f l e =
    let h : (o + x.ops ≤ p) × (s + x.symbols ≤ q) = follow_le (o + x.ops) (s + x.symbols) rows p q f.1.1 in
    let P : Row → Type 0 = λ y. (y.first_op + y.ops ≤ p) × (y.first_symbol + y.symbols ≤ q) in
    subst P (sym e) (omega (arith, f.0, h.0), omega (arith, f.1.0, h.1))
row_within o s (x ∷ rows) p q (suc t) r f l e = row_within (o + x.ops) (s + x.symbols) rows p q t r f.1.1 (omega (arith, l)) e

pub ticket_is : (f : Row → Ticket) (rows : List Row) (t : ℕ) (r : Row) → t < length rows → r ≡ get_or rows t r → ticket_at (map f rows) t ≡ f r
ticket_is f [] t r l e = absurd (omega (arith, l))
ticket_is f (x ∷ rows) zero r l e = ap f (sym e)
ticket_is f (x ∷ rows) (suc t) r l e = ticket_is f rows t r (omega (arith, l)) e

pub last_is : (f : Row → Ticket) (rows : List Row) (k : ℕ) (r : Row) → suc k ≡ length rows → r ≡ get_or rows k r → last_ticket (map f rows) ≡ f r
last_is f [] k r l e = absurd (omega (arith, l))
last_is f (x ∷ []) zero r l e = ap f (sym e)
last_is f (x ∷ []) (suc k) r l e = absurd (omega (arith, l))
last_is f (x ∷ y ∷ rows) zero r l e = absurd (omega (arith, l))
last_is f (x ∷ y ∷ rows) (suc k) r l e = last_is f (y ∷ rows) k r (omega (arith, l)) e

pub length-rows : (f : Row → Ticket) (rows : List Row) → length (map f rows) ≡ length rows
length-rows f [] = refl
length-rows f (r ∷ rows) = ap suc (length-rows f rows)

-- what adds up over the tickets adds up over the list of their operations
pub total_is : (g : List Op → ℕ) → g [] ≡ 0 → ((xs ys : List Op) → g (xs ++ ys) ≡ g xs + g ys) → (ops : List Op) (symbols : List Symbol) (o s : ℕ) (rows : List Row) (q : ℕ) → Follow o s rows (length ops) q → total (λ x. g x.ops) (tickets_of ops symbols rows) ≡ g (drop o ops)
total_is g nil app ops symbols o s [] q f = sym nil ∙ ap g (sym (drop_all ops o (omega (arith, f.0))))
  where
    drop_all : {X : Type 0} (xs : List X) (o : ℕ) → length xs ≤ o → drop o xs ≡ []
    drop_all [] zero h = refl
    drop_all [] (suc o) h = refl
    drop_all (x ∷ xs) zero h = absurd (omega (arith, h))
    drop_all (x ∷ xs) (suc o) h = drop_all xs o (omega (arith, h))
total_is g nil app ops symbols o s (r ∷ rows) q f =
    ap (λ (n : ℕ). g (take r.ops (drop r.first_op ops)) + n) (total_is g nil app ops symbols (o + r.ops) (s + r.symbols) rows q f.1.1)
    ∙ ap (λ (j : ℕ). g (take r.ops (drop j ops)) + g (drop (o + r.ops) ops)) f.0
    ∙ sym (app (take r.ops (drop o ops)) (drop (o + r.ops) ops))
    ∙ ap g (whole_piece ops o r.ops)
