-- What a sheet keeps, and what was written of it.
use Rattle.std.proofs.Common.{◌≡◌, ℕ, zero, suc, ◌+◌, ◌<◌, ◌≤◌, ◌-◌, List, [], ◌∷◌, ◌++◌, ◌⊎◌, inl, inr, Bool, true, false, if◌then◌else◌, nat_lt, not, true≢false, Option, Some, None, take, drop, length, replicate, slice_get, slice_set, slice_index_or, refl, sym, ap, ◌∙◌, subst, arith}
use Rattle.std.proofs.lemmas.List.{take_all, take-append-drop, length-take-le, length-drop}
use Rattle.std.proofs.lemmas.Bool.Decides.{nat_tests}
use Rattle.std.proofs.Math.Seq.{take-add}
use Rattle.std.proofs.lemmas.Bool.{ltb-true, not-false, not-true, cases_lt}
use Rattle.std.specs.List.{AllByRecursion}
use Rattle.session_values.specs.declared.reply.Reply.{Reply}
use Rattle.session_values.specs.Reply.{values_of}
use Rattle.session_values.specs.ReplyText.{IsPrintable, reply_text}
use Rattle.byte_ends.specs.Ends.{Counted, Appended, AppendedPrefix}
use Rattle.byte_ends.proofs.EndsLemmas.{grew_nothing, grew_more, grew_front, grew_front_within, rose_since, counted_since}
use Rattle.reply_sheet.specs.Pending.{PendingView, with_kept, with_reply}
use Rattle.reply_sheet.specs.Printable.{ArePrintableReplies}
use Rattle.reply_sheet.specs.Ready.{AreKeptPrintable, first_kept}
use Rattle.reply_sheet.proofs.TextLemmas.{no_text, text_cut}
use Rattle.hall_writing.specs.Sheets.{IsKept, Keeps, Progress, Written, GoesOn, Ends}

take_none : {X : Type 0} (xs : List X) → take 0 xs ≡ []
take_none [] = refl
take_none (x ∷ xs) = refl

most_of : (m : ℕ) (xs : List Reply) → length (take m xs) ≡ m → m ≤ length xs
most_of zero xs e = omega arith
most_of (suc m) [] e = absurd (omega (arith, e))
most_of (suc m) (x ∷ xs) e = let rest = most_of m xs (omega (arith, e)) in omega (arith, rest)

pub take_rest : (k : ℕ) (rs : List Reply) → take (length rs - k) (drop k rs) ≡ drop k rs
take_rest k rs = take_all (length rs - k) (drop k rs) (omega (arith, length-drop k rs))

-- ---- before and behind a ticket
not_before : (t n : ℕ) → nat_lt t n ≡ false → n + (t - n) ≡ t
not_before t n e = let l : n ≤ t = grind (arith, nat_tests, e) in omega (arith, l)

-- ---- what is kept
abbrev none_kept : ℕ → List (Option Reply)
none_kept n = replicate n None

none_at : (n t : ℕ) (r : Reply) → slice_get (none_kept n) t ≡ Some (Some r) → ⊥
none_at zero t r e = cc
none_at (suc n) zero r e = cc
none_at (suc n) (suc t) r e = none_at n t r e

none_length : (n : ℕ) → length (none_kept n) ≡ n
none_length zero = refl
none_length (suc n) = ap suc (none_length n)

pub keeps_none : (replies : List Reply) (p : PendingView) (n : ℕ) → p ≡ record { next = 0; waiting = replicate n None } → length replies ≡ n → Keeps replies p
keeps_none replies p n none len =
    let start : Keeps replies (record { next = 0; waiting = replicate n None }) = record {
      room = omega (arith, none_length n, len);
      spoken = λ t r e. absurd (none_at n t r e);
    } in
    subst (Keeps replies) (sym none) start

set_spoken : (ks : List (Option Reply)) (f : ℕ → Option Reply) (t : ℕ) (r : Reply) → f t ≡ Some r → ((u : ℕ) (x : Reply) → slice_get ks u ≡ Some (Some x) → f u ≡ Some x)
    → (u : ℕ) (x : Reply) → slice_get (slice_set ks t (Some r)) u ≡ Some (Some x) → f u ≡ Some x
set_spoken [] f zero r there spoken u x e = spoken u x e
set_spoken [] f (suc t) r there spoken u x e = spoken u x e
set_spoken (k ∷ ks) f zero r there spoken zero x e = cc
set_spoken (k ∷ ks) f zero r there spoken (suc u) x e = spoken (suc u) x e
set_spoken (k ∷ ks) f (suc t) r there spoken zero x e = spoken zero x e
set_spoken (k ∷ ks) f (suc t) r there spoken (suc u) x e = set_spoken ks (λ v. f (suc v)) t r there (λ v y. spoken (suc v) y) u x e

with_spoken : (o : Option Reply) (ks : List (Option Reply)) (f : ℕ → Option Reply) (t : ℕ) (r : Reply) → f t ≡ Some r → ((u : ℕ) (x : Reply) → slice_get ks u ≡ Some (Some x) → f u ≡ Some x)
    → (u : ℕ) (x : Reply) → slice_get (elim o [ None ↦ slice_set ks t (Some r) | Some _ ↦ ks ]) u ≡ Some (Some x) → f u ≡ Some x
with_spoken None ks f t r there spoken u x e = set_spoken ks f t r there spoken u x e
with_spoken (Some y) ks f t r there spoken u x e = spoken u x e

unless_spoken : (b : Bool) (p : PendingView) (replies : List Reply) (t : ℕ) (r : Reply) → nat_lt t p.next ≡ b → slice_get replies t ≡ Some r → ((u : ℕ) (x : Reply) → slice_get p.waiting u ≡ Some (Some x) → slice_get replies (p.next + u) ≡ Some x)
    → (u : ℕ) (x : Reply) → slice_get (if b then p.waiting else with_reply p.waiting (t - p.next) r) u ≡ Some (Some x) → slice_get replies (p.next + u) ≡ Some x
unless_spoken true p replies t r is there spoken u x e = spoken u x e
unless_spoken false p replies t r is there spoken u x e =
    let at : p.next + (t - p.next) ≡ t = not_before t p.next is in
    with_spoken (slice_index_or p.waiting (t - p.next) None) p.waiting (λ v. slice_get replies (p.next + v)) (t - p.next) r (ap (slice_get replies) at ∙ there) spoken u x e

-- one more reply is kept
pub keeps_more : (replies : List Reply) (p q : PendingView) (t : ℕ) (r : Reply) → Keeps replies p → slice_get replies t ≡ Some r → q ≡ with_kept p t r → length q.waiting ≡ length p.waiting → Keeps replies q
keeps_more replies p q t r k there is long =
    let same : q.next ≡ p.next = ap (λ (v : PendingView). v.next) is in
    record {
      room = (let room = k.room in omega (arith, room, long, same));
      spoken = λ u x e. ap (λ (n : ℕ). slice_get replies (n + u)) same
          ∙ unless_spoken (nat_lt t p.next) p replies t r refl there k.spoken u x (ap (λ (v : PendingView). slice_get v.waiting u) (sym is) ∙ e);
    }

pub next_kept : (p q : PendingView) (t : ℕ) (r : Reply) → q ≡ with_kept p t r → q.next ≡ p.next
next_kept p q t r is = ap (λ (v : PendingView). v.next) is

-- ---- what stays kept
abbrev IsThere : List (Option Reply) → ℕ → Type 0
IsThere ks i = (r : Reply) × (slice_get ks i ≡ Some (Some r))

set_still : (ks : List (Option Reply)) (t : ℕ) (r : Reply) (u : ℕ) → IsThere ks u → IsThere (slice_set ks t (Some r)) u
set_still [] zero r u h = h
set_still [] (suc t) r u h = h
set_still (k ∷ ks) zero r zero h = (r, refl)
set_still (k ∷ ks) zero r (suc u) h = h
set_still (k ∷ ks) (suc t) r zero h = h
set_still (k ∷ ks) (suc t) r (suc u) h = set_still ks t r u h

with_still : (o : Option Reply) (ks : List (Option Reply)) (t : ℕ) (r : Reply) (u : ℕ) → IsThere ks u → IsThere (elim o [ None ↦ slice_set ks t (Some r) | Some _ ↦ ks ]) u
with_still None ks t r u h = set_still ks t r u h
with_still (Some y) ks t r u h = h

unless_still : (b : Bool) (p : PendingView) (t : ℕ) (r : Reply) (u : ℕ) → IsThere p.waiting u → IsThere (if b then p.waiting else with_reply p.waiting (t - p.next) r) u
unless_still true p t r u h = h
unless_still false p t r u h = with_still (slice_index_or p.waiting (t - p.next) None) p.waiting (t - p.next) r u h

pub keeps_still : (p q : PendingView) (t : ℕ) (r : Reply) → q ≡ with_kept p t r → (u : ℕ) → IsKept p u → IsKept q u
keeps_still p q t r is u (inl ltb-true) = inl (omega (arith, ltb-true, ap (λ (v : PendingView). v.next) is))
keeps_still p q t r is u (inr at) =
    let h = unless_still (nat_lt t p.next) p t r at.0 (at.1, at.3) in
    let P : PendingView → Type 0 = λ v. IsThere v.waiting at.0 in
    let there = subst P (sym is) h in
    inr (at.0, there.0, at.2 ∙ ap (λ (v : PendingView). v.next + at.0) (sym is), there.1)

set_own : (ks : List (Option Reply)) (t : ℕ) (r : Reply) → t < length ks → IsThere (slice_set ks t (Some r)) t
set_own [] t r low = absurd (omega (arith, low))
set_own (k ∷ ks) zero r low = (r, refl)
set_own (k ∷ ks) (suc t) r low = set_own ks t r (omega (arith, low))

at_own : (ks : List (Option Reply)) (t : ℕ) (y : Reply) → slice_index_or ks t None ≡ Some y → IsThere ks t
at_own [] zero y e = cc
at_own [] (suc t) y e = cc
at_own (k ∷ ks) zero y e = (y, ap Some e)
at_own (k ∷ ks) (suc t) y e = at_own ks t y e

own_by : (o : Option Reply) (ks : List (Option Reply)) (t : ℕ) (r : Reply) → slice_index_or ks t None ≡ o → t < length ks → IsThere (elim o [ None ↦ slice_set ks t (Some r) | Some _ ↦ ks ]) t
own_by None ks t r e low = set_own ks t r low
own_by (Some y) ks t r e low = at_own ks t y e

own_unless : (b : Bool) (p : PendingView) (t : ℕ) (r : Reply) → nat_lt t p.next ≡ b → t < p.next + length p.waiting → IsKept (record { next = p.next; waiting = if b then p.waiting else with_reply p.waiting (t - p.next) r }) t
own_unless true p t r is low = inl (ltb-true t p.next is)
own_unless false p t r is low =
    let at : p.next + (t - p.next) ≡ t = not_before t p.next is in
    let own = own_by (slice_index_or p.waiting (t - p.next) None) p.waiting (t - p.next) r refl (omega (arith, at, low)) in
    inr (t - p.next, own.0, sym at, own.1)

pub keeps_own : (p q : PendingView) (t : ℕ) (r : Reply) → q ≡ with_kept p t r → t < p.next + length p.waiting → IsKept q t
keeps_own p q t r is low = let P : PendingView → Type 0 = λ v. IsKept v t in subst P (sym is) (own_unless (nat_lt t p.next) p t r refl low)

-- ---- what was taken
get_drop : {X : Type 0} (n i : ℕ) (xs : List X) → slice_get (drop n xs) i ≡ slice_get xs (n + i)
get_drop zero i xs = let same : i ≡ 0 + i = omega arith in ap (slice_get xs) same
get_drop (suc n) zero [] = refl
get_drop (suc n) (suc i) [] = refl
get_drop (suc n) i (x ∷ xs) = let e : suc (n + i) ≡ suc n + i = omega arith in get_drop n i xs ∙ ap (slice_get (x ∷ xs)) e

pub keeps_behind : (replies : List Reply) (p q : PendingView) (n : ℕ) → q.next ≡ p.next + n → q.waiting ≡ drop n p.waiting → n ≤ length p.waiting → Keeps replies p → Keeps replies q
keeps_behind replies p q n next is low k = record {
  room = (let room = k.room in omega (arith, room, next, low, ap (λ (ks : List (Option Reply)). length ks) is, length-drop n p.waiting));
  spoken = λ i r e.
      let at : p.next + (n + i) ≡ q.next + i = omega (arith, next) in
      ap (slice_get replies) (sym at) ∙ k.spoken (n + i) r (sym (get_drop n i p.waiting) ∙ ap (λ (ks : List (Option Reply)). slice_get ks i) (sym is) ∙ e);
}

pub kept_behind : (p q : PendingView) (n : ℕ) → q.next ≡ p.next + n → q.waiting ≡ drop n p.waiting → (t : ℕ) → IsKept p t → IsKept q t
kept_behind p q n next is t (inl low) = inl (omega (arith, low, next))
kept_behind p q n next is t (inr at) = by (cases_lt at.0 n)
  where
    by : (at.0 < n) ⊎ (n ≤ at.0) → IsKept q t
    by (inl l) = let same = at.2 in inl (omega (arith, same, l, next))
    by (inr g) =
        let e : n + (at.0 - n) ≡ at.0 = omega (arith, g) in
        let same = at.2 in
        inr (at.0 - n, at.1, omega (arith, same, next, g), ap (λ (ks : List (Option Reply)). slice_get ks (at.0 - n)) is ∙ get_drop n (at.0 - n) p.waiting ∙ ap (slice_get p.waiting) e ∙ at.3)

-- behind those that are next, none is
none_behind : (ks : List (Option Reply)) → first_kept (drop (length (first_kept ks)) ks) ≡ []
none_behind [] = refl
none_behind (None ∷ ks) = refl
none_behind (Some r ∷ ks) = none_behind ks

pub stops_behind : (p q : PendingView) (n : ℕ) → q.next ≡ p.next + n → q.waiting ≡ drop n p.waiting → q.next ≡ p.next + length (first_kept p.waiting) → first_kept q.waiting ≡ []
stops_behind p q n next is all =
    let same : n ≡ length (first_kept p.waiting) = omega (arith, next, all) in
    ap first_kept is ∙ ap (λ (k : ℕ). first_kept (drop k p.waiting)) same ∙ none_behind p.waiting

-- ---- what is printable
-- what is kept is printable where the replies are
printable_at : (names : List (List ℕ)) (rs : List Reply) (t : ℕ) (r : Reply) → ArePrintableReplies names rs → slice_get rs t ≡ Some r → AllByRecursion (IsPrintable names) (values_of r)
printable_at names [] t r p e = cc
printable_at names (x ∷ rs) zero r p e = let same : x ≡ r = cc in subst (λ (y : Reply). AllByRecursion (IsPrintable names) (values_of y)) same p.0
printable_at names (x ∷ rs) (suc t) r p e = printable_at names rs t r p.1 e

pub kept_printable : (names : List (List ℕ)) (replies : List Reply) (p : PendingView) → ArePrintableReplies names replies → Keeps replies p → AreKeptPrintable names p.waiting
kept_printable names replies p all k i r e = printable_at names replies (p.next + i) r all (k.spoken i r e)

pub printable_rest : (names : List (List ℕ)) (rs : List Reply) (n : ℕ) → ArePrintableReplies names rs → ArePrintableReplies names (drop n rs)
printable_rest names [] zero p = p
printable_rest names [] (suc n) p = p
printable_rest names (x ∷ rs) zero p = p
printable_rest names (x ∷ rs) (suc n) p = printable_rest names rs n p.1

-- ---- the replies that are next are those of the list
first_of : (ks : List (Option Reply)) (rs : List Reply) → ((u : ℕ) (x : Reply) → slice_get ks u ≡ Some (Some x) → slice_get rs u ≡ Some x) → first_kept ks ≡ take (length (first_kept ks)) rs
first_of [] rs spoken = sym (take_none rs)
first_of (None ∷ ks) rs spoken = sym (take_none rs)
first_of (Some r ∷ ks) [] spoken = let no = spoken 0 r refl in cc
first_of (Some r ∷ ks) (x ∷ rs) spoken =
    let here : Some x ≡ Some r = spoken 0 r refl in
    let same : r ≡ x = cc in
    ap (λ (y : Reply). y ∷ first_kept ks) same ∙ ap (λ (l : List Reply). x ∷ l) (first_of ks rs (λ u y. spoken (suc u) y))

first_at : (n : ℕ) (ks : List (Option Reply)) (rs : List Reply) → ((u : ℕ) (x : Reply) → slice_get ks u ≡ Some (Some x) → slice_get rs (n + u) ≡ Some x)
    → first_kept ks ≡ take (length (first_kept ks)) (drop n rs)
first_at n ks rs spoken = first_of ks (drop n rs) (λ u x e. get_drop n u rs ∙ spoken u x e)

-- ---- what was written
pub stays : (replies : List Reply) (names : List (List ℕ)) (p : Progress) → GoesOn replies names p p
stays replies names p = record { on = λ first faults w. w }

pub goes_through : (replies : List Reply) (names : List (List ℕ)) (p q r : Progress) → GoesOn replies names p q → GoesOn replies names q r → GoesOn replies names p r
goes_through replies names p q r a b = record { on = λ first faults w. b.on first faults (a.on first faults w) }

module _ (replies : List Reply) (names : List (List ℕ)) where
  front_cut : (n m : ℕ) → n ≤ length replies → reply_text names 0 (take (n + m) replies) ≡ reply_text names 0 (take n replies) ++ reply_text names n (take m (drop n replies))
  front_cut n m low =
      ap (reply_text names 0) (take-add n m replies) ∙ text_cut names 0 (take n replies) (take m (drop n replies))
      ∙ ap (λ k. reply_text names 0 (take n replies) ++ reply_text names k (take m (drop n replies))) (let k = length-take-le n replies low in omega (arith, k))

  rest_cut : (n : ℕ) → n ≤ length replies → reply_text names 0 replies ≡ reply_text names 0 (take n replies) ++ reply_text names n (drop n replies)
  rest_cut n low =
      ap (reply_text names 0) (sym (take-append-drop n replies)) ∙ text_cut names 0 (take n replies) (drop n replies)
      ∙ ap (λ k. reply_text names 0 (take n replies) ++ reply_text names k (drop n replies)) (let k = length-take-le n replies low in omega (arith, k))

  all_cut : (n m : ℕ) → n ≤ length replies → reply_text names 0 replies ≡ reply_text names 0 (take n replies) ++ (reply_text names n (take m (drop n replies)) ++ reply_text names (n + length (take m (drop n replies))) (drop m (drop n replies)))
  all_cut n m low =
      rest_cut n low
      ∙ ap (λ b. reply_text names 0 (take n replies) ++ b) (ap (reply_text names n) (sym (take-append-drop m (drop n replies))) ∙ text_cut names n (take m (drop n replies)) (drop m (drop n replies)))

  -- the lines that are next were written, or a fault broke them off
  pub writes_next : (waiting : List (Option Reply)) (p : Progress) (held : Option (List ℕ)) (now_faults next : ℕ) (whole : Bool) → Keeps replies (record { next = p.next; waiting = waiting }) → p.failed ≡ false
      → (whole ≡ true → next ≡ p.next + length (first_kept waiting))
      → (whole ≡ true → Appended p.held held (reply_text names p.next (first_kept waiting)))
      → Counted whole p.faults now_faults
      → (whole ≡ false → AppendedPrefix p.held held (reply_text names p.next (first_kept waiting)))
      → GoesOn replies names p (record { held = held; faults = now_faults; next = next; failed = not whole })
  writes_next waiting p held now_faults next whole keeps sound is_next grew counted front = record {
    on = λ first faults w.
        let m : ℕ = length (first_kept waiting) in
        let low = w.within sound in
        let same : first_kept waiting ≡ take m (drop p.next replies) = first_at p.next waiting replies keeps.spoken in
        let few : m ≤ length (drop p.next replies) = most_of m (drop p.next replies) (sym (ap (λ (l : List Reply). length l) same)) in
        let left = length-drop p.next replies in
        record {
          well = λ ok. counted.0 (not-false whole ok) ∙ w.well sound;
          within = λ ok. let n = is_next (not-false whole ok) in omega (arith, n, low, few, left);
          so_far = λ ok. subst (λ k. Appended first held (reply_text names 0 (take k replies))) (sym (is_next (not-false whole ok)))
              (subst (Appended first held) (sym (front_cut p.next m low)) (grew_more first p.held held (reply_text names 0 (take p.next replies)) (reply_text names p.next (take m (drop p.next replies))) (w.so_far sound)
              (subst (λ l. Appended p.held held (reply_text names p.next l)) same (grew (not-false whole ok)))));
          rose = λ no. rose_since faults p.faults now_faults (w.well sound) (counted.1 (not-true whole no));
          front = λ no. subst (AppendedPrefix first held) (sym (all_cut p.next m low)) (grew_front_within first p.held held (reply_text names 0 (take p.next replies)) (reply_text names p.next (take m (drop p.next replies))) _ (w.so_far sound)
              (subst (λ l. AppendedPrefix p.held held (reply_text names p.next l)) same (front (not-true whole no))));
        };
  }

  -- what is left was written, or a fault broke it off
  pub writes_rest : (p : Progress) (now : Option (List ℕ)) (now_faults : ℕ) (whole : Bool) → p.failed ≡ false
      → (whole ≡ true → Appended p.held now (reply_text names p.next (drop p.next replies)))
      → Counted whole p.faults now_faults
      → (whole ≡ false → AppendedPrefix p.held now (reply_text names p.next (drop p.next replies)))
      → Ends replies names p now now_faults whole
  writes_rest p now now_faults whole sound grew counted front = record {
    on = λ first faults w.
        let low = w.within sound in record {
          all = λ ok. subst (Appended first now) (sym (rest_cut p.next low)) (grew_more first p.held now (reply_text names 0 (take p.next replies)) (reply_text names p.next (drop p.next replies)) (w.so_far sound) (grew ok));
          faults = counted_since whole faults p.faults now_faults (w.well sound) counted;
          front = λ no. subst (AppendedPrefix first now) (sym (rest_cut p.next low)) (grew_front first p.held now (reply_text names 0 (take p.next replies)) (reply_text names p.next (drop p.next replies)) (w.so_far sound) (front no));
        };
  }

  -- nothing more is written after a fault
  pub had_failed : (p : Progress) → p.failed ≡ true → Ends replies names p p.held p.faults false
  had_failed p failed = record {
    on = λ first faults w. record {
      all = λ no. absurd (true≢false (sym no));
      faults = (λ no. absurd (true≢false (sym no)), λ _. w.rose failed);
      front = λ _. w.front failed;
    };
  }

  pub written_none : (p : Progress) → p.next ≡ 0 → p.failed ≡ false → Written replies names p.held p.faults p
  written_none p start sound = record {
    well = λ _. refl;
    within = λ _. omega (arith, start);
    so_far = λ _. subst (λ k. Appended p.held p.held (reply_text names 0 (take k replies))) (sym start)
        (subst (λ l. Appended p.held p.held (reply_text names 0 l)) (sym (take_none replies)) (subst (Appended p.held p.held) (sym (no_text names 0)) (grew_nothing p.held p.held refl)));
    rose = λ no. absurd (true≢false (sym no ∙ sound));
    front = λ no. absurd (true≢false (sym no ∙ sound));
  }
