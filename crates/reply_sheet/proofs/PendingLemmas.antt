-- Replies that wait, as they are stored.
use Rattle.std.proofs.Common.{◌≡◌, ℕ, zero, suc, ◌+◌, ◌-◌, ◌<◌, ◌≤◌, Bool, true, false, List, [], ◌∷◌, ◌++◌, Option, Some, None, is_some, drop, take, length, length-append, nat_lt, if◌then◌else◌, replicate, slice_index_or, slice_set, refl, sym, ap, ◌∙◌, arith}
use Rattle.std.proofs.lemmas.List.{drop-set-add, length-drop}
use Rattle.std.proofs.lemmas.Bool.{le-ltb}
use Rattle.std.proofs.Math.Seq.{take-nil}
use Rattle.session_values.specs.declared.reply.Reply.{Reply}
use Rattle.reply_sheet.specs.Pending.{PendingView, waiting_of, with_kept, with_reply}

abbrev pub Kept : Type 0
Kept = List (Option Reply)

abbrev pub nothing : ℕ → Kept
nothing n = replicate n None

abbrev pub padded : Kept → ℕ → Kept
padded ks room = ks ++ nothing (room - length ks)

-- ---- nothing kept, in two parts
nothing_long : (n : ℕ) → length (nothing n) ≡ n
nothing_long zero = refl
nothing_long (suc n) = ap suc (nothing_long n)

nothing_more : (n room : ℕ) → n ≤ room → nothing n ++ nothing (room - n) ≡ nothing room
nothing_more zero room h = let all : room - 0 ≡ room = omega arith in ap nothing all
nothing_more (suc n) zero h = absurd (omega (arith, h))
nothing_more (suc n) (suc room) h =
    let e : suc room - suc n ≡ room - n = omega arith in
    ap (λ (k : ℕ). nothing (suc n) ++ nothing k) e ∙ ap (λ (ks : Kept). None ∷ ks) (nothing_more n room (omega (arith, h)))

pad_step : (k : Option Reply) (ks : Kept) (room : ℕ) → padded (k ∷ ks) (suc room) ≡ k ∷ padded ks room
pad_step k ks room = let e : suc room - suc (length ks) ≡ room - length ks = omega arith in ap (λ (m : ℕ). k ∷ (ks ++ nothing m)) e

-- filled up, a list waits as before
pub filled_same : (ks : Kept) (n room : ℕ) → length ks ≤ n → n ≤ room → padded (take n ks ++ nothing (n - length ks)) room ≡ padded ks room
filled_same [] n room low high =
    let all : n - 0 ≡ n = omega arith in
    let whole : room ≡ room - 0 = omega arith in
    ap (λ (k : ℕ). padded (take n [] ++ nothing k) room) all ∙ ap (λ (xs : Kept). padded (xs ++ nothing n) room) (take-nil n)
    ∙ ap (λ (k : ℕ). nothing n ++ nothing (room - k)) (nothing_long n) ∙ nothing_more n room high ∙ ap nothing whole
filled_same (k ∷ ks) zero room low high = absurd (omega (arith, low))
filled_same (k ∷ ks) (suc n) zero low high = absurd (omega (arith, high))
filled_same (k ∷ ks) (suc n) (suc room) low high =
    let e : suc n - suc (length ks) ≡ n - length ks = omega arith in
    ap (λ (m : ℕ). padded (take (suc n) (k ∷ ks) ++ nothing m) (suc room)) e ∙ pad_step k (take n ks ++ nothing (n - length ks)) room
    ∙ ap (λ (xs : Kept). k ∷ xs) (filled_same ks n room (omega (arith, low)) (omega (arith, high))) ∙ sym (pad_step k ks room)

pub waiting_long : (ks : Kept) (taken room : ℕ) → length ks ≤ room → length (waiting_of ks taken room) ≡ room - taken
waiting_long ks taken room few = omega (arith, length-drop taken (padded ks room), length-append ks (nothing (room - length ks)), nothing_long (room - length ks), few)

-- ---- places
index_nothing : (n i : ℕ) → slice_index_or (nothing n) i None ≡ None
index_nothing zero zero = refl
index_nothing zero (suc i) = refl
index_nothing (suc n) zero = refl
index_nothing (suc n) (suc i) = index_nothing n i

index_behind : (ks : Kept) (i m : ℕ) → slice_index_or (ks ++ nothing m) i None ≡ slice_index_or ks i None
index_behind [] zero m = index_nothing m zero
index_behind [] (suc i) m = index_nothing m (suc i)
index_behind (k ∷ ks) zero m = refl
index_behind (k ∷ ks) (suc i) m = index_behind ks i m

index_drop : (m i : ℕ) (ks : Kept) → slice_index_or (drop m ks) i None ≡ slice_index_or ks (m + i) None
index_drop zero i ks = let same : i ≡ 0 + i = omega arith in ap (λ (n : ℕ). slice_index_or ks n None) same
index_drop (suc m) zero [] = refl
index_drop (suc m) (suc i) [] = refl
index_drop (suc m) i (k ∷ ks) = let e : suc (m + i) ≡ suc m + i = omega arith in index_drop m i ks ∙ ap (λ (n : ℕ). slice_index_or (k ∷ ks) n None) e

set_long : (ks : Kept) (i : ℕ) (x : Option Reply) → length (slice_set ks i x) ≡ length ks
set_long [] zero x = refl
set_long [] (suc i) x = refl
set_long (k ∷ ks) zero x = refl
set_long (k ∷ ks) (suc i) x = ap suc (set_long ks i x)

set_behind : (ks : Kept) (i m : ℕ) (x : Option Reply) → i < length ks → slice_set ks i x ++ nothing m ≡ slice_set (ks ++ nothing m) i x
set_behind [] i m x low = absurd (omega (arith, low))
set_behind (k ∷ ks) zero m x low = refl
set_behind (k ∷ ks) (suc i) m x low = ap (λ (xs : Kept). k ∷ xs) (set_behind ks i m x (omega (arith, low)))

set_padded : (ks : Kept) (i room : ℕ) (x : Option Reply) → i < length ks → padded (slice_set ks i x) room ≡ slice_set (padded ks room) i x
set_padded ks i room x low = ap (λ (l : ℕ). slice_set ks i x ++ nothing (room - l)) (set_long ks i x) ∙ set_behind ks i (room - length ks) x low

-- ---- one more is kept
with_none : (o : Option Reply) (w : Kept) (i : ℕ) (r : Reply) → o ≡ None → slice_set w i (Some r) ≡ elim o [ None ↦ slice_set w i (Some r) | Some _ ↦ w ]
with_none None w i r e = refl
with_none (Some y) w i r e = cc

unless_taken : (b : Bool) (w v : Kept) → b ≡ false → v ≡ if b then w else v
unless_taken true w v e = cc
unless_taken false w v e = refl

pub missing_there : (ks : Kept) (i : ℕ) (x : Option Reply) → x ≡ slice_index_or ks i x → is_some x ≡ false → slice_index_or ks i None ≡ None
missing_there ks i None e none = sym e
missing_there ks i (Some y) e none = cc

module _ (ks ls : Kept) (first next tickets t : ℕ) (r : Reply) (low : first ≤ next) (high : next ≤ t) (within : t - first < length ls) (same : padded ls (tickets - first) ≡ padded ks (tickets - first)) (missing : slice_index_or ls (t - first) None ≡ None) where
  place : t - first ≡ (next - first) + (t - next)
  place = omega (arith, low, high)

  none_waits : slice_index_or (waiting_of ks (next - first) (tickets - first)) (t - next) None ≡ None
  none_waits =
      index_drop (next - first) (t - next) (padded ks (tickets - first))
      ∙ ap (λ (i : ℕ). slice_index_or (padded ks (tickets - first)) i None) (sym place)
      ∙ ap (λ (xs : Kept). slice_index_or xs (t - first) None) (sym same)
      ∙ index_behind ls (t - first) (tickets - first - length ls) ∙ missing

  set_there : waiting_of (slice_set ls (t - first) (Some r)) (next - first) (tickets - first) ≡ slice_set (waiting_of ks (next - first) (tickets - first)) (t - next) (Some r)
  set_there =
      ap (drop (next - first)) (set_padded ls (t - first) (tickets - first) (Some r) within)
      ∙ ap (λ (xs : Kept). drop (next - first) (slice_set xs (t - first) (Some r))) same
      ∙ ap (λ (i : ℕ). drop (next - first) (slice_set (padded ks (tickets - first)) i (Some r))) place
      ∙ drop-set-add (next - first) (padded ks (tickets - first)) (t - next) (Some r)

  pub kept_there : ◌≡◌ {A = PendingView} (record { next = next; waiting = waiting_of (slice_set ls (t - first) (Some r)) (next - first) (tickets - first) })
      (with_kept (record { next = next; waiting = waiting_of ks (next - first) (tickets - first) }) t r)
  kept_there =
      let all = set_there
      ∙ with_none (slice_index_or (waiting_of ks (next - first) (tickets - first)) (t - next) None) (waiting_of ks (next - first) (tickets - first)) (t - next) r none_waits
      ∙ unless_taken (nat_lt t next) (waiting_of ks (next - first) (tickets - first)) (with_reply (waiting_of ks (next - first) (tickets - first)) (t - next) r) (le-ltb t next high) in
      λ i. record { next = next; waiting = all i }
