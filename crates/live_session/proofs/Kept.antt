-- Names that are kept, by their flags.
use Rattle.std.proofs.Common.{◌≡◌, ℕ, zero, suc, ◌+◌, ◌<◌, ◌≤◌, ◌⊎◌, inl, inr, Bool, true, false, ◌||◌, cond, List, [], ◌∷◌, ◌++◌, length, take, replicate, Some, slice_get, refl, sym, ◌∙◌, ap, subst, arith}
use Rattle.std.specs.Prelude.{slice_index_or, slice_set}
use Rattle.std.proofs.lemmas.Bool.{false≢true, or_right}
use Rattle.std.specs.List.{list_any}
use Rattle.session_values.specs.declared.value.Value.{Value}
use Rattle.session_values.specs.declared.value.Value.TheVariants.{Nil, Num, Sym}
use Rattle.session_values.specs.Opening.{Pair}
use Rattle.std.specs.Str.{bytes_eq}
use Rattle.session_values.specs.Names.{AreDistinct, with_text}
use Rattle.session_values.proofs.NamesLemmas.{with_new}
use Rattle.text_lines.specs.Text.{Text}
use Rattle.live_session.specs.Moving.{HasName, flag, kept, marked, marked_by, marked_by_all, marked_first, place_in, set_before}
use Rattle.live_session.proofs.Seeds.{not_before}

-- ---- the names that are kept
-- a name that is kept has its text at its new place
pub kept_at : (fs : List Bool) (ts : List Text) (i : ℕ) (t : Text) → flag fs i ≡ true → slice_get ts i ≡ Some t → slice_get (kept fs ts) (set_before i fs) ≡ Some t
kept_at [] ts i t f h = absurd (false≢true f)
kept_at (b ∷ fs) [] i t f h = absurd (cc)
kept_at (true ∷ fs) (x ∷ ts) zero t f h = h
kept_at (false ∷ fs) (x ∷ ts) zero t f h = absurd (false≢true f)
kept_at (true ∷ fs) (x ∷ ts) (suc i) t f h = kept_at fs ts i t f h
kept_at (false ∷ fs) (x ∷ ts) (suc i) t f h = kept_at fs ts i t f h

-- each new place is that of a name that is kept
pub record Comes (fs : List Bool) (ts : List Text) (j : ℕ) : Type 0 where
  pub from : ℕ
  pub within : from < length ts
  pub set : flag fs from ≡ true
  pub is : set_before from fs ≡ j

pub comes : (fs : List Bool) (ts : List Text) (j : ℕ) → j < length (kept fs ts) → Comes fs ts j
comes [] ts j l = absurd (omega (arith, l))
comes (b ∷ fs) [] j l = absurd (omega (arith, l))
comes (true ∷ fs) (x ∷ ts) zero l = record { from = 0; within = omega arith; set = refl; is = refl }
comes (true ∷ fs) (x ∷ ts) (suc j) l =
    let c = comes fs ts j (omega (arith, l)) in
    record { from = suc c.from; within = omega (arith, c.within); set = c.set; is = ap suc c.is }
comes (false ∷ fs) (x ∷ ts) j l =
    let c = comes fs ts j l in
    record { from = suc c.from; within = omega (arith, c.within); set = c.set; is = c.is }

pub kept_few : (fs : List Bool) (ts : List Text) → length (kept fs ts) ≤ length ts
kept_few [] ts = omega arith
kept_few (b ∷ fs) [] = omega arith
kept_few (true ∷ fs) (x ∷ ts) = omega (arith, kept_few fs ts)
kept_few (false ∷ fs) (x ∷ ts) = omega (arith, kept_few fs ts)

-- where the first flags are set, their names keep their places
pub first_same : (n : ℕ) (fs : List Bool) → ((i : ℕ) → i < n → flag fs i ≡ true) → set_before n fs ≡ n
first_same zero fs h = refl
first_same (suc n) [] h = absurd (false≢true (h 0 (omega arith)))
first_same (suc n) (true ∷ fs) h = ap suc (first_same n fs (λ i l. h (suc i) (omega (arith, l))))
first_same (suc n) (false ∷ fs) h = absurd (false≢true (h 0 (omega arith)))

-- and the names that are kept are those at first
pub first_kept : (n : ℕ) (fs : List Bool) (ts : List Text) → ((i : ℕ) → i < n → flag fs i ≡ true) → take n (kept fs ts) ≡ take n ts
first_kept zero fs ts h = refl
first_kept (suc n) [] ts h = absurd (false≢true (h 0 (omega arith)))
first_kept (suc n) (b ∷ fs) [] h = refl
first_kept (suc n) (true ∷ fs) (x ∷ ts) h = ap (λ (l : List Text). x ∷ l) (first_kept n fs ts (λ i l. h (suc i) (omega (arith, l))))
first_kept (suc n) (false ∷ fs) (x ∷ ts) h = absurd (false≢true (h 0 (omega arith)))

-- ---- one name after another
pub kept_nil : (fs : List Bool) → kept fs [] ≡ []
kept_nil [] = refl
kept_nil (b ∷ fs) = refl

pub set_few : (i : ℕ) (fs : List Bool) → set_before i fs ≤ i
set_few zero fs = omega arith
set_few (suc i) [] = omega arith
set_few (suc i) (true ∷ fs) = omega (arith, set_few i fs)
set_few (suc i) (false ∷ fs) = omega (arith, set_few i fs)

pub set_more : (i : ℕ) (fs : List Bool) → flag fs i ≡ true → set_before (i + 1) fs ≡ set_before i fs + 1
set_more i fs h = subst (λ (n : ℕ). set_before n fs ≡ set_before i fs + 1) (let e : suc i ≡ i + 1 = omega arith in e) (go i fs h)
  where
    go : (i : ℕ) (fs : List Bool) → flag fs i ≡ true → set_before (suc i) fs ≡ set_before i fs + 1
    go i [] h = absurd (false≢true h)
    go zero (true ∷ fs) h = refl
    go zero (false ∷ fs) h = absurd (false≢true h)
    go (suc i) (true ∷ fs) h = omega (arith, go i fs h)
    go (suc i) (false ∷ fs) h = go i fs h

pub kept_more : (fs : List Bool) (ts : List Text) (i : ℕ) (t : Text) → flag fs i ≡ true → slice_get ts i ≡ Some t → kept fs (take (i + 1) ts) ≡ kept fs (take i ts) ++ t ∷ []
kept_more fs ts i t f h = subst (λ (n : ℕ). kept fs (take n ts) ≡ kept fs (take i ts) ++ t ∷ []) (let e : suc i ≡ i + 1 = omega arith in e) (go fs ts i f h)
  where
    go : (fs : List Bool) (ts : List Text) (i : ℕ) → flag fs i ≡ true → slice_get ts i ≡ Some t → kept fs (take (suc i) ts) ≡ kept fs (take i ts) ++ t ∷ []
    go [] ts i f h = absurd (false≢true f)
    go (b ∷ fs) [] i f h = absurd (cc)
    go (true ∷ fs) (x ∷ ts) zero f h = let e : x ≡ t = cc in ap (λ (l : List Text). x ∷ l) (kept_nil fs) ∙ ap (λ (y : Text). y ∷ []) e
    go (false ∷ fs) (x ∷ ts) zero f h = absurd (false≢true f)
    go (true ∷ fs) (x ∷ ts) (suc i) f h = ap (λ (l : List Text). x ∷ l) (go fs ts i f h)
    go (false ∷ fs) (x ∷ ts) (suc i) f h = go fs ts i f h

pub kept_same : (fs : List Bool) (ts : List Text) (i : ℕ) → flag fs i ≡ false → i < length fs → kept fs (take (i + 1) ts) ≡ kept fs (take i ts)
kept_same fs ts i f l = subst (λ (n : ℕ). kept fs (take n ts) ≡ kept fs (take i ts)) (let e : suc i ≡ i + 1 = omega arith in e) (go fs ts i f l)
  where
    go : (fs : List Bool) (ts : List Text) (i : ℕ) → flag fs i ≡ false → i < length fs → kept fs (take (suc i) ts) ≡ kept fs (take i ts)
    go [] ts i f l = absurd (omega (arith, l))
    go (b ∷ fs) [] zero f l = refl
    go (b ∷ fs) [] (suc i) f l = refl
    go (true ∷ fs) (x ∷ ts) zero f l = absurd (false≢true (sym f))
    go (false ∷ fs) (x ∷ ts) zero f l = kept_nil fs
    go (true ∷ fs) (x ∷ ts) (suc i) f l = ap (λ (k : List Text). x ∷ k) (go fs ts i f (omega (arith, l)))
    go (false ∷ fs) (x ∷ ts) (suc i) f l = go fs ts i f (omega (arith, l))

pub kept_long : (fs : List Bool) (ts : List Text) (i : ℕ) → i ≤ length ts → length (kept fs (take i ts)) ≡ set_before i fs
kept_long [] ts zero l = refl
kept_long [] ts (suc i) l = refl
kept_long (b ∷ fs) ts zero l = refl
kept_long (b ∷ fs) [] (suc i) l = absurd (omega (arith, l))
kept_long (true ∷ fs) (x ∷ ts) (suc i) l = ap suc (kept_long fs ts i (omega (arith, l)))
kept_long (false ∷ fs) (x ∷ ts) (suc i) l = kept_long fs ts i (omega (arith, l))

-- what passes none of the names passes none that are kept
pub none_kept : (p : Text → Bool) (fs : List Bool) (ts : List Text) → list_any p ts ≡ false → list_any p (kept fs ts) ≡ false
none_kept p [] ts h = refl
none_kept p (b ∷ fs) [] h = refl
none_kept p (true ∷ fs) (x ∷ ts) h = let q = parts (p x) (list_any p ts) h in ap (λ (b : Bool). b || list_any p (kept fs ts)) q.0 ∙ none_kept p fs ts q.1
  where
    parts : (a b : Bool) → (a || b) ≡ false → (a ≡ false) × (b ≡ false)
    parts true b e = absurd (false≢true (sym e))
    parts false b e = (refl, e)
none_kept p (false ∷ fs) (x ∷ ts) h = none_kept p fs ts (second (p x) (list_any p ts) h)
  where
    second : (a b : Bool) → (a || b) ≡ false → b ≡ false
    second true b e = absurd (false≢true (sym e))
    second false b e = e

-- as many as at first, where the first flags are set
pub first_few : (n : ℕ) (fs : List Bool) (ts : List Text) → ((i : ℕ) → i < n → flag fs i ≡ true) → n ≤ length ts → n ≤ length (kept fs ts)
first_few zero fs ts h l = omega arith
first_few (suc n) [] ts h l = absurd (false≢true (h 0 (omega arith)))
first_few (suc n) (b ∷ fs) [] h l = absurd (omega (arith, l))
first_few (suc n) (true ∷ fs) (x ∷ ts) h l = omega (arith, first_few n fs ts (λ i m. h (suc i) (omega (arith, m))) (omega (arith, l)))
first_few (suc n) (false ∷ fs) (x ∷ ts) h l = absurd (false≢true (h 0 (omega arith)))

-- ---- flags
set_long : (fs : List Bool) (p : ℕ) → length (slice_set fs p true) ≡ length fs
set_long [] p = refl
set_long (b ∷ fs) zero = refl
set_long (b ∷ fs) (suc p) = ap suc (set_long fs p)

set_here : (fs : List Bool) (p : ℕ) → p < length fs → flag (slice_set fs p true) p ≡ true
set_here [] p l = absurd (omega (arith, l))
set_here (b ∷ fs) zero l = refl
set_here (b ∷ fs) (suc p) l = set_here fs p (omega (arith, l))

set_stays : (fs : List Bool) (p i : ℕ) → flag fs i ≡ true → flag (slice_set fs p true) i ≡ true
set_stays [] p i h = absurd (false≢true h)
set_stays (b ∷ fs) zero zero h = refl
set_stays (b ∷ fs) zero (suc i) h = h
set_stays (b ∷ fs) (suc p) zero h = h
set_stays (b ∷ fs) (suc p) (suc i) h = set_stays fs p i h

set_by : (fs : List Bool) (p i : ℕ) → flag (slice_set fs p true) i ≡ true → (flag fs i ≡ true) ⊎ (p ≡ i)
set_by [] p i h = absurd (false≢true h)
set_by (b ∷ fs) zero zero h = inr refl
set_by (b ∷ fs) zero (suc i) h = inl h
set_by (b ∷ fs) (suc p) zero h = inl h
set_by (b ∷ fs) (suc p) (suc i) h = elim (set_by fs p i h) [ inl a ↦ inl a | inr e ↦ inr (ap suc e) ]

one_long : (fs : List Bool) (v : Value) → length (marked fs v) ≡ length fs
one_long fs Nil = refl
one_long fs (Num n) = refl
one_long fs (Sym p) = set_long fs p

one_stays : (fs : List Bool) (v : Value) (i : ℕ) → flag fs i ≡ true → flag (marked fs v) i ≡ true
one_stays fs Nil i h = h
one_stays fs (Num n) i h = h
one_stays fs (Sym p) i h = set_stays fs p i h

one_here : (fs : List Bool) (v : Value) (i : ℕ) → v ≡ Sym i → i < length fs → flag (marked fs v) i ≡ true
one_here fs v i e l = subst (λ (x : Value). flag (marked fs x) i ≡ true) (sym e) (set_here fs i l)

one_by : (fs : List Bool) (v : Value) (i : ℕ) → flag (marked fs v) i ≡ true → (flag fs i ≡ true) ⊎ (v ≡ Sym i)
one_by fs Nil i h = inl h
one_by fs (Num n) i h = inl h
one_by fs (Sym p) i h = elim (set_by fs p i h) [ inl a ↦ inl a | inr e ↦ inr (ap Sym e) ]

pair_stays : (fs : List Bool) (e : Pair) (i : ℕ) → flag fs i ≡ true → flag (marked (marked fs e.0) e.1) i ≡ true
pair_stays fs e i h = one_stays (marked fs e.0) e.1 i (one_stays fs e.0 i h)

pair_long : (fs : List Bool) (e : Pair) → length (marked (marked fs e.0) e.1) ≡ length fs
pair_long fs e = one_long (marked fs e.0) e.1 ∙ one_long fs e.0

by_long : (fs : List Bool) (es : List Pair) → length (marked_by fs es) ≡ length fs
by_long fs [] = refl
by_long fs (e ∷ es) = by_long (marked (marked fs e.0) e.1) es ∙ pair_long fs e

by_stays : (fs : List Bool) (es : List Pair) (i : ℕ) → flag fs i ≡ true → flag (marked_by fs es) i ≡ true
by_stays fs [] i h = h
by_stays fs (e ∷ es) i h = by_stays (marked (marked fs e.0) e.1) es i (pair_stays fs e i h)

by_here : (fs : List Bool) (es : List Pair) (i : ℕ) → HasName es i → i < length fs → flag (marked_by fs es) i ≡ true
by_here fs [] i h l = absurd h
by_here fs (e ∷ es) i (inl (inl k)) l = by_stays (marked (marked fs e.0) e.1) es i (one_stays (marked fs e.0) e.1 i (one_here fs e.0 i k l))
by_here fs (e ∷ es) i (inl (inr k)) l = let same = one_long fs e.0 in by_stays (marked (marked fs e.0) e.1) es i (one_here (marked fs e.0) e.1 i k (omega (arith, same, l)))
by_here fs (e ∷ es) i (inr k) l = let same = pair_long fs e in by_here (marked (marked fs e.0) e.1) es i k (omega (arith, same, l))

by_from : (fs : List Bool) (es : List Pair) (i : ℕ) → flag (marked_by fs es) i ≡ true → (flag fs i ≡ true) ⊎ HasName es i
by_from fs [] i h = inl h
by_from fs (e ∷ es) i h = elim (by_from (marked (marked fs e.0) e.1) es i h) [
  | inl a ↦ elim (one_by (marked fs e.0) e.1 i a) [
    | inl b ↦ elim (one_by fs e.0 i b) [ inl c ↦ inl c | inr c ↦ inr (inl (inl c)) ]
    | inr b ↦ inr (inl (inr b))
  ]
  | inr k ↦ inr (inr k)
]

-- one of some lists has the name
abbrev pub HasNameIn : List (List Pair) → ℕ → Type 0
HasNameIn [] i = ⊥
HasNameIn (es ∷ lists) i = HasName es i ⊎ HasNameIn lists i

all_long : (fs : List Bool) (lists : List (List Pair)) → length (marked_by_all fs lists) ≡ length fs
all_long fs [] = refl
all_long fs (es ∷ lists) = all_long (marked_by fs es) lists ∙ by_long fs es

all_stays : (fs : List Bool) (lists : List (List Pair)) (i : ℕ) → flag fs i ≡ true → flag (marked_by_all fs lists) i ≡ true
all_stays fs [] i h = h
all_stays fs (es ∷ lists) i h = all_stays (marked_by fs es) lists i (by_stays fs es i h)

first_long : (fs : List Bool) (n : ℕ) → length (marked_first fs n) ≡ length fs
first_long fs zero = refl
first_long fs (suc n) = set_long (marked_first fs n) n ∙ first_long fs n

first_here : (fs : List Bool) (n i : ℕ) → i < n → i < length fs → flag (marked_first fs n) i ≡ true
first_here fs zero i l m = absurd (omega (arith, l))
first_here fs (suc n) i l m = go (λ a. first_here fs n i a m) (nat_cases i n l)
  where
    nat_cases : (i n : ℕ) → i < suc n → (i < n) ⊎ (i ≡ n)
    nat_cases zero zero l = inr refl
    nat_cases zero (suc n) l = inl (omega arith)
    nat_cases (suc i) zero l = absurd (omega (arith, l))
    nat_cases (suc i) (suc n) l = elim (nat_cases i n (omega (arith, l))) [ inl a ↦ inl (omega (arith, a)) | inr e ↦ inr (ap suc e) ]

    go : (i < n → flag (marked_first fs n) i ≡ true) → (i < n) ⊎ (i ≡ n) → flag (marked_first fs (suc n)) i ≡ true
    go more (inl a) = set_stays (marked_first fs n) n i (more a)
    go more (inr e) =
        let same = first_long fs n in
        subst (λ (k : ℕ). flag (slice_set (marked_first fs n) n true) k ≡ true) (sym e) (set_here (marked_first fs n) n (omega (arith, same, m, e)))

first_from : (fs : List Bool) (n i : ℕ) → flag (marked_first fs n) i ≡ true → (flag fs i ≡ true) ⊎ (i < n)
first_from fs zero i h = inl h
first_from fs (suc n) i h = elim (set_by (marked_first fs n) n i h) [
  | inl a ↦ elim (first_from fs n i a) [ inl b ↦ inl b | inr b ↦ inr (omega (arith, b)) ]
  | inr e ↦ inr (omega (arith, e))
]

none_set : (n i : ℕ) → flag (replicate n false) i ≡ true → ⊥
none_set zero i h = false≢true h
none_set (suc n) zero h = false≢true h
none_set (suc n) (suc i) h = none_set n i h

replicate_long : (n : ℕ) → length (replicate n false) ≡ n
replicate_long zero = refl
replicate_long (suc n) = ap suc (replicate_long n)

module _ (count first : ℕ) (lists : List (List Pair)) where
  abbrev flags : List Bool
  flags = marked_by_all (marked_first (replicate count false) first) lists

  pub flags_long : length flags ≡ count
  flags_long = all_long (marked_first (replicate count false) first) lists ∙ first_long (replicate count false) first ∙ replicate_long count

  pub flag_first : (i : ℕ) → i < first → i < count → flag flags i ≡ true
  flag_first i l m = let long = replicate_long count in all_stays (marked_first (replicate count false) first) lists i (first_here (replicate count false) first i l (omega (arith, long, m)))

  pub flag_held : (i : ℕ) → HasNameIn lists i → i < count → flag flags i ≡ true
  flag_held i h m = let long = first_long (replicate count false) first in let r = replicate_long count in go (marked_first (replicate count false) first) lists h (omega (arith, long, r, m))
    where
      go : (fs : List Bool) (ls : List (List Pair)) → HasNameIn ls i → i < length fs → flag (marked_by_all fs ls) i ≡ true
      go fs [] h l = absurd h
      go fs (es ∷ ls) (inl k) l = all_stays (marked_by fs es) ls i (by_here fs es i k l)
      go fs (es ∷ ls) (inr k) l = let same = by_long fs es in go (marked_by fs es) ls k (omega (arith, same, l))

  pub flag_from : (i : ℕ) → flag flags i ≡ true → (i < first) ⊎ HasNameIn lists i
  flag_from i h = elim (go (marked_first (replicate count false) first) lists h) [
    | inl a ↦ elim (first_from (replicate count false) first i a) [ inl b ↦ absurd (none_set count i b) | inr b ↦ inl b ]
    | inr k ↦ inr k
  ]
    where
      go : (fs : List Bool) (ls : List (List Pair)) → flag (marked_by_all fs ls) i ≡ true → (flag fs i ≡ true) ⊎ HasNameIn ls i
      go fs [] h = inl h
      go fs (es ∷ ls) h = elim (go (marked_by fs es) ls h) [
        | inl a ↦ elim (by_from fs es i a) [ inl b ↦ inl b | inr b ↦ inr (inl b) ]
        | inr k ↦ inr (inr k)
      ]

-- ---- entry by entry, and table by table
pub by_more : (fs : List Bool) (es : List Pair) (i : ℕ) (e : Pair) → slice_get es i ≡ Some e → marked_by fs (take (i + 1) es) ≡ marked (marked (marked_by fs (take i es)) e.0) e.1
by_more fs es i e h = subst (λ (n : ℕ). marked_by fs (take n es) ≡ marked (marked (marked_by fs (take i es)) e.0) e.1) (let n : suc i ≡ i + 1 = omega arith in n) (go fs es i h)
  where
    go : (fs : List Bool) (es : List Pair) (i : ℕ) → slice_get es i ≡ Some e → marked_by fs (take (suc i) es) ≡ marked (marked (marked_by fs (take i es)) e.0) e.1
    go fs [] i h = absurd (cc)
    go fs (x ∷ es) zero h = let same : x ≡ e = cc in ap (λ (y : Pair). marked (marked fs y.0) y.1) same
    go fs (x ∷ es) (suc i) h = go (marked (marked fs x.0) x.1) es i h

pub all_push : (fs : List Bool) (lists : List (List Pair)) (es : List Pair) → marked_by_all fs (lists ++ es ∷ []) ≡ marked_by (marked_by_all fs lists) es
all_push fs [] es = refl
all_push fs (x ∷ lists) es = all_push (marked_by fs x) lists es

-- ---- names that are placed
-- the next name that is kept is placed behind those before it
pub placed_kept : (fs : List Bool) (ns : List Text) (i : ℕ) (t : Text) (new : List Text) → new ≡ kept fs (take i ns) → AreDistinct ns → flag fs i ≡ true → slice_get ns i ≡ Some t → with_text new t ≡ kept fs (take (i + 1) ns)
placed_kept fs ns i t new is d f h =
    ap (λ (l : List Text). with_text l t) is
    ∙ with_new (kept fs (take i ns)) t (none_kept (bytes_eq t) fs (take i ns) (not_before ns i t d h))
    ∙ sym (kept_more fs ns i t f h)

push_at : (xs : List ℕ) (n i : ℕ) → slice_index_or (xs ++ n ∷ []) (length xs) 0 ≡ n
push_at [] n i = refl
push_at (x ∷ xs) n i = push_at xs n i

push_before : (xs : List ℕ) (n i : ℕ) → i < length xs → slice_index_or (xs ++ n ∷ []) i 0 ≡ slice_index_or xs i 0
push_before [] n i l = absurd (omega (arith, l))
push_before (x ∷ xs) n zero l = refl
push_before (x ∷ xs) n (suc i) l = push_before xs n i (omega (arith, l))

pub place_pushed : (fs : List Bool) (n : ℕ) (xs ys : List ℕ) (x : ℕ) → ys ≡ xs ++ x ∷ [] → ((i : ℕ) → i < n → place_in xs i ≡ set_before i fs) → length xs ≡ n → x ≡ set_before n fs → (i : ℕ) → i < n + 1 → place_in ys i ≡ set_before i fs
place_pushed fs n xs ys x is before long here i l = ap (λ (zs : List ℕ). slice_index_or zs i 0) is ∙ go (nat_cases i n (omega (arith, l)))
  where
    nat_cases : (i n : ℕ) → i < suc n → (i < n) ⊎ (i ≡ n)
    nat_cases zero zero l = inr refl
    nat_cases zero (suc n) l = inl (omega arith)
    nat_cases (suc i) zero l = absurd (omega (arith, l))
    nat_cases (suc i) (suc n) l = elim (nat_cases i n (omega (arith, l))) [ inl a ↦ inl (omega (arith, a)) | inr e ↦ inr (ap suc e) ]

    go : (i < n) ⊎ (i ≡ n) → slice_index_or (xs ++ x ∷ []) i 0 ≡ set_before i fs
    go (inl a) = push_before xs x i (omega (arith, a, long)) ∙ before i a
    go (inr e) = ap (λ (k : ℕ). slice_index_or (xs ++ x ∷ []) k 0) (e ∙ sym long) ∙ push_at xs x i ∙ here ∙ ap (λ (k : ℕ). set_before k fs) (sym e)
