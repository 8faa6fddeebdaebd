-- Each move keeps the rule of a lane, and what follows from the rule.
use Rattle.std.proofs.Common.{◌≡◌, ◌≢◌, ℕ, zero, suc, ◌+◌, ◌-◌, ◌<◌, ◌≤◌, ◌==◌, cond, List, [], ◌∷◌, ◌++◌, set, sym, refl, ap, ◌∙◌, subst, ⊎_elim, append_assoc, arith}
use Rattle.std.specs.List.{AllByRecursion}
use mathlib.Core.Option.{some, some-injective, some-ne-none}
use lib.ListN.{get_elem?}
use Rattle.crossbeam_queue.specs.Fifo.{Pushes, Pops, Forks, Learns}
use Rattle.crossbeam_queue.proofs.Lists.{at_set, at_snoc}
use Rattle.session_values.specs.declared.reply.Reply.{Reply}
use Rattle.hall_writing.specs.declared.rule.Spoken.{Spoken}
use Rattle.hall_writing.specs.declared.rule.EndState.{EndState}
use Rattle.hall_writing.specs.Lanes.{lane_room, IsSpoken, IsAlone, end_state, total, times, Carries, IsMoment, HasPut, HasTaken}

-- ---- what lists amount to
total_snoc : {A : Type 0} (f : A → ℕ) (xs : List A) (x : A) → total f (xs ++ x ∷ []) ≡ total f xs + f x
total_snoc f [] x = omega arith
total_snoc f (y ∷ xs) x = let rest = total_snoc f xs x in omega (arith, rest)

-- one end's number changes
total_set : (f : EndState → ℕ) (vs : List EndState) (i : ℕ) (v w : EndState) → get_elem? vs i ≡ some v → total f (set vs i w) + f v ≡ total f vs + f w
total_set f [] zero v w e = absurd (some-ne-none v (sym e))
total_set f [] (suc i) v w e = absurd (some-ne-none v (sym e))
total_set f (x ∷ xs) zero v w e = let same : f x ≡ f v = ap f (some-injective x v e) in omega (arith, same)
total_set f (x ∷ xs) (suc i) v w e = let rest = total_set f xs i v w e in omega (arith, rest)

set_there : (vs : List EndState) (i : ℕ) (v w : EndState) → get_elem? vs i ≡ some v → get_elem? (set vs i w) i ≡ some w
set_there [] zero v w e = absurd (some-ne-none v (sym e))
set_there [] (suc i) v w e = absurd (some-ne-none v (sym e))
set_there (x ∷ vs) zero v w e = refl
set_there (x ∷ vs) (suc i) v w e = set_there vs i v w e

spoken_snoc : (P : Spoken → Type 0) (ms : List Spoken) (m : Spoken) → AllByRecursion P ms → P m → AllByRecursion P (ms ++ m ∷ [])
spoken_snoc P [] m all p = (p, tt)
spoken_snoc P (x ∷ ms) m all p = (all.0, spoken_snoc P ms m all.1 p)

pub learns : (i : ℕ) (v : EndState) → Learns Carries i v (IsMoment v)
learns i v items ends h at = record { ends = ends; place = i; own = at; rule = h }

-- two ends stand for no more callers than all ends do
share_most : (vs : List EndState) (i : ℕ) (v : EndState) → get_elem? vs i ≡ some v → v.share ≤ total (λ (x : EndState). x.share) vs
share_most [] zero v e = absurd (some-ne-none v (sym e))
share_most [] (suc i) v e = absurd (some-ne-none v (sym e))
share_most (x ∷ vs) zero v e = let same : x.share ≡ v.share = ap (λ (y : EndState). y.share) (some-injective x v e) in omega (arith, same)
share_most (x ∷ vs) (suc i) v e = let rest = share_most vs i v e in omega (arith, rest)

two_shares : (vs : List EndState) (i j : ℕ) (v u : EndState) → j ≢ i → get_elem? vs i ≡ some v → get_elem? vs j ≡ some u → v.share + u.share ≤ total (λ (x : EndState). x.share) vs
two_shares [] zero j v u n e f = absurd (some-ne-none v (sym e))
two_shares [] (suc i) j v u n e f = absurd (some-ne-none v (sym e))
two_shares (x ∷ vs) zero zero v u n e f = absurd (n refl)
two_shares (x ∷ vs) zero (suc j) v u n e f =
    let same : x.share ≡ v.share = ap (λ (y : EndState). y.share) (some-injective x v e) in
    let rest = share_most vs j u f in
    omega (arith, same, rest)
two_shares (x ∷ vs) (suc i) zero v u n e f =
    let same : x.share ≡ u.share = ap (λ (y : EndState). y.share) (some-injective x u f) in
    let rest = share_most vs i v e in
    omega (arith, same, rest)
two_shares (x ∷ vs) (suc i) (suc j) v u n e f = let rest = two_shares vs i j v u (λ q. n (ap suc q)) e f in omega (arith, rest)

-- beside an end that stands for a caller, none is alone
not_alone : (items : List Spoken) (ends : List EndState) → Carries items ends → (i j : ℕ) (v u : EndState) → j ≢ i → get_elem? ends i ≡ some v → get_elem? ends j ≡ some u → 0 < v.share → IsAlone u → ⊥
not_alone items ends h i j v u n e f may a =
    let all : u.callers ≡ h.callers = (h.known j u f a.0).1 in
    let both = two_shares ends i j v u n e f in
    let sum = h.shares in
    let mine = a.1 in
    absurd (omega (arith, all, both, sum, mine, may))

-- ---- an end that stands for a caller goes on
module _ (items : List Spoken) (ends : List EndState) (i : ℕ) (v w : EndState) (h : Carries items ends) (at : get_elem? ends i ≡ some v) (may : 0 < v.share) (list : w.known ≡ v.known) (part : w.share ≡ v.share) (all : w.callers ≡ v.callers) where
  shares_still : total (λ (x : EndState). x.share) (set ends i w) ≡ h.callers
  shares_still =
      let now : total (λ (x : EndState). x.share) (set ends i w) + v.share ≡ total (λ (x : EndState). x.share) ends + w.share = total_set (λ (x : EndState). x.share) ends i v w at in
      let was = h.shares in
      omega (arith, now, was, part)

  known_still : (j : ℕ) (u : EndState) → get_elem? (set ends i w) j ≡ some u → 0 < u.share → (u.known ≡ h.replies) × (u.callers ≡ h.callers)
  known_still j u e t = ⊎_elim mine (λ (x : (j ≢ i) × (get_elem? ends j ≡ some u)). h.known j u x.1 t) (at_set ends i j w u e)
    where
      mine : (j ≡ i) × (w ≡ u) → (u.known ≡ h.replies) × (u.callers ≡ h.callers)
      mine is = (ap (λ (y : EndState). y.known) (sym is.1) ∙ list ∙ (h.known i v at may).0, ap (λ (y : EndState). y.callers) (sym is.1) ∙ all ∙ (h.known i v at may).1)

  idle_still : (j : ℕ) (u : EndState) → get_elem? (set ends i w) j ≡ some u → u.share ≡ 0 → (u.put ≡ []) × (u.taken ≡ [])
  idle_still j u e n = ⊎_elim mine (λ (x : (j ≢ i) × (get_elem? ends j ≡ some u)). h.idle j u x.1 n) (at_set ends i j w u e)
    where
      mine : (j ≡ i) × (w ≡ u) → (u.put ≡ []) × (u.taken ≡ [])
      mine is = let same : w.share ≡ u.share = ap (λ (y : EndState). y.share) is.1 in absurd (omega (arith, same, part, may, n))

  order_still : (now : List Spoken) → (v.taken ++ items ≡ v.put → w.taken ++ now ≡ w.put) → (j : ℕ) (u : EndState) → get_elem? (set ends i w) j ≡ some u → IsAlone u → u.taken ++ now ≡ u.put
  order_still now more j u e a = ⊎_elim mine others (at_set ends i j w u e)
    where
      mine : (j ≡ i) × (w ≡ u) → u.taken ++ now ≡ u.put
      mine is =
          let P : EndState → Type 0 = λ x. x.taken ++ now ≡ x.put in
          let share : v.share ≡ u.share = sym part ∙ ap (λ (y : EndState). y.share) is.1 in
          let callers : v.callers ≡ u.callers = sym all ∙ ap (λ (y : EndState). y.callers) is.1 in
          subst P is.1 (more (h.order i v at (may, share ∙ a.1 ∙ sym callers)))

      others : (j ≢ i) × (get_elem? ends j ≡ some u) → u.taken ++ now ≡ u.put
      others is = absurd (not_alone items ends h i j v u is.0 at is.1 may a)

pub puts_in : (n : ℕ) → n ≡ lane_room → (i : ℕ) (v : EndState) (m : Spoken) → 0 < v.share → IsSpoken v.known m → Pushes Carries n i v m (HasPut v m)
puts_in n many i v m may spoken items ends short h at = (
  w,
  rule,
  record {
    is = refl;
    items = items;
    room = omega (arith, short, many);
    before = record { ends = ends; place = i; own = at; rule = h };
    after = record { ends = set ends i w; place = i; own = set_there ends i v w at; rule = rule };
  },
)
  where
    w : EndState
    w = end_state (v.put ++ m ∷ []) v.taken v.share v.callers v.known

    balance : (f : Spoken → ℕ) → total (λ (x : EndState). total f x.taken) (set ends i w) + total f (items ++ m ∷ []) ≡ total (λ (x : EndState). total f x.put) (set ends i w)
    balance f =
        let taken : total (λ (x : EndState). total f x.taken) (set ends i w) + total f v.taken ≡ total (λ (x : EndState). total f x.taken) ends + total f v.taken = total_set (λ (x : EndState). total f x.taken) ends i v w at in
        let put : total (λ (x : EndState). total f x.put) (set ends i w) + total f v.put ≡ total (λ (x : EndState). total f x.put) ends + total f (v.put ++ m ∷ []) = total_set (λ (x : EndState). total f x.put) ends i v w at in
        let mine : total f (v.put ++ m ∷ []) ≡ total f v.put + f m = total_snoc f v.put m in
        let there : total f (items ++ m ∷ []) ≡ total f items + f m = total_snoc f items m in
        let was = h.balance f in
        omega (arith, taken, put, mine, there, was)

    more : v.taken ++ items ≡ v.put → v.taken ++ (items ++ m ∷ []) ≡ v.put ++ m ∷ []
    more e = sym (append_assoc v.taken items (m ∷ [])) ∙ ap (λ (l : List Spoken). l ++ m ∷ []) e

    rule : Carries (items ++ m ∷ []) (set ends i w)
    rule =
        let P : List Reply → Type 0 = λ l. IsSpoken l m in
        record {
          replies = h.replies;
          callers = h.callers;
          spoken = spoken_snoc (IsSpoken h.replies) items m h.spoken (subst P (h.known i v at may).0 spoken);
          balance = balance;
          shares = shares_still items ends i v w h at may refl refl refl;
          known = known_still items ends i v w h at may refl refl refl;
          idle = idle_still items ends i v w h at may refl refl refl;
          order = order_still items ends i v w h at may refl refl refl (items ++ m ∷ []) more;
        }

pub takes_out : (i : ℕ) (v : EndState) → 0 < v.share → Pops Carries i v (HasTaken v)
takes_out i v may m items ends h at = (
  w,
  rule,
  record {
    is = refl;
    spoken = let P : List Reply → Type 0 = λ l. IsSpoken l m in subst P (sym (h.known i v at may).0) h.spoken.0;
    rest = items;
    before = record { ends = ends; place = i; own = at; rule = h };
    after = record { ends = set ends i w; place = i; own = set_there ends i v w at; rule = rule };
  },
)
  where
    w : EndState
    w = end_state v.put (v.taken ++ m ∷ []) v.share v.callers v.known

    balance : (f : Spoken → ℕ) → total (λ (x : EndState). total f x.taken) (set ends i w) + total f items ≡ total (λ (x : EndState). total f x.put) (set ends i w)
    balance f =
        let taken : total (λ (x : EndState). total f x.taken) (set ends i w) + total f v.taken ≡ total (λ (x : EndState). total f x.taken) ends + total f (v.taken ++ m ∷ []) = total_set (λ (x : EndState). total f x.taken) ends i v w at in
        let put : total (λ (x : EndState). total f x.put) (set ends i w) + total f v.put ≡ total (λ (x : EndState). total f x.put) ends + total f v.put = total_set (λ (x : EndState). total f x.put) ends i v w at in
        let mine : total f (v.taken ++ m ∷ []) ≡ total f v.taken + f m = total_snoc f v.taken m in
        let was : total (λ (x : EndState). total f x.taken) ends + (f m + total f items) ≡ total (λ (x : EndState). total f x.put) ends = h.balance f in
        omega (arith, taken, put, mine, was)

    more : v.taken ++ (m ∷ items) ≡ v.put → (v.taken ++ m ∷ []) ++ items ≡ v.put
    more e = append_assoc v.taken (m ∷ []) items ∙ e

    rule : Carries items (set ends i w)
    rule = record {
      replies = h.replies;
      callers = h.callers;
      spoken = h.spoken.1;
      balance = balance;
      shares = shares_still (m ∷ items) ends i v w h at may refl refl refl;
      known = known_still (m ∷ items) ends i v w h at may refl refl refl;
      idle = idle_still (m ∷ items) ends i v w h at may refl refl refl;
      order = order_still (m ∷ items) ends i v w h at may refl refl refl items more;
    }

-- ---- the first end
only : (x v : EndState) (i : ℕ) → get_elem? (x ∷ []) i ≡ some v → (i ≡ 0) × (x ≡ v)
only x v zero e = (refl, some-injective x v e)
only x v (suc zero) e = absurd (some-ne-none v (sym e))
only x v (suc (suc i)) e = absurd (some-ne-none v (sym e))

pub begins : Carries [] (end_state [] [] 1 1 [] ∷ [])
begins = record {
  replies = [];
  callers = 1;
  spoken = tt;
  balance = λ f. refl;
  shares = refl;
  known = λ i v e t. let is = (only (end_state [] [] 1 1 []) v i e).1 in (ap (λ (x : EndState). x.known) (sym is), ap (λ (x : EndState). x.callers) (sym is));
  idle = λ i v e n. let is = (only (end_state [] [] 1 1 []) v i e).1 in (ap (λ (x : EndState). x.put) (sym is), ap (λ (x : EndState). x.taken) (sym is));
  order = λ i v e a. let P : EndState → Type 0 = λ x. x.taken ++ [] ≡ x.put in subst P (only (end_state [] [] 1 1 []) v i e).1 refl;
}

-- where one end becomes another, and a new one is made
module _ (f : EndState → ℕ) (ends : List EndState) (i : ℕ) (was now new : EndState) (at : get_elem? ends i ≡ some was) where
  total_split : total f (set ends i now ++ new ∷ []) + f was ≡ total f ends + (f now + f new)
  total_split =
      let changed : total f (set ends i now) + f was ≡ total f ends + f now = total_set f ends i was now at in
      let longer : total f (set ends i now ++ new ∷ []) ≡ total f (set ends i now) + f new = total_snoc f (set ends i now) new in
      omega (arith, changed, longer)

module _ (ends : List EndState) (i j : ℕ) (now new u : EndState) (P : Type 0) where
  each_split : ((j ≡ i) × (now ≡ u) → P) → ((j ≢ i) × (get_elem? ends j ≡ some u) → P) → (new ≡ u → P) → get_elem? (set ends i now ++ new ∷ []) j ≡ some u → P
  each_split mine other added e = ⊎_elim (λ (x : get_elem? (set ends i now) j ≡ some u). ⊎_elim mine other (at_set ends i j now u x)) added (at_snoc (set ends i now) new u j e)

-- ---- the first end is told the list, and a spare one stands for nobody
pub is_told : (i n : ℕ) (replies : List Reply) → 1 ≤ n → Forks Carries i (end_state [] [] 1 1 []) (end_state [] [] n n replies) (end_state [] [] 0 0 [])
is_told i n replies some_of items ends h at = record {
  replies = replies;
  callers = n;
  spoken = let P : List Spoken → Type 0 = λ l. AllByRecursion (IsSpoken replies) l in subst P (sym none) tt;
  balance = balance;
  shares = shares;
  known = told;
  idle = nothing;
  order = ordered;
}
  where
    was : EndState
    was = end_state [] [] 1 1 []

    now : EndState
    now = end_state [] [] n n replies

    spare : EndState
    spare = end_state [] [] 0 0 []

    none : items ≡ []
    none = h.order i was at (omega arith, refl)

    one : 1 ≡ h.callers
    one = (h.known i was at (omega arith)).1

    no_other : (j : ℕ) (u : EndState) → j ≢ i → get_elem? ends j ≡ some u → u.share ≡ 0
    no_other j u n e = let both : 1 + u.share ≤ total (λ (x : EndState). x.share) ends = two_shares ends i j was u n at e in let sum = h.shares in omega (arith, both, sum, one)

    balance : (f : Spoken → ℕ) → total (λ (x : EndState). total f x.taken) (set ends i now ++ spare ∷ []) + total f items ≡ total (λ (x : EndState). total f x.put) (set ends i now ++ spare ∷ [])
    balance f =
        let taken : total (λ (x : EndState). total f x.taken) (set ends i now ++ spare ∷ []) + 0 ≡ total (λ (x : EndState). total f x.taken) ends + (0 + 0) = total_split (λ (x : EndState). total f x.taken) ends i was now spare at in
        let put : total (λ (x : EndState). total f x.put) (set ends i now ++ spare ∷ []) + 0 ≡ total (λ (x : EndState). total f x.put) ends + (0 + 0) = total_split (λ (x : EndState). total f x.put) ends i was now spare at in
        let before = h.balance f in
        omega (arith, taken, put, before)

    shares : total (λ (x : EndState). x.share) (set ends i now ++ spare ∷ []) ≡ n
    shares =
        let split : total (λ (x : EndState). x.share) (set ends i now ++ spare ∷ []) + 1 ≡ total (λ (x : EndState). x.share) ends + (n + 0) = total_split (λ (x : EndState). x.share) ends i was now spare at in
        let before = h.shares in
        omega (arith, split, before, one)

    told : (j : ℕ) (u : EndState) → get_elem? (set ends i now ++ spare ∷ []) j ≡ some u → 0 < u.share → (u.known ≡ replies) × (u.callers ≡ n)
    told j u e t = each_split ends i j now spare u ((u.known ≡ replies) × (u.callers ≡ n))
        (λ is. (ap (λ (z : EndState). z.known) (sym is.1), ap (λ (z : EndState). z.callers) (sym is.1)))
        (λ is. let no = no_other j u is.0 is.1 in absurd (omega (arith, no, t)))
        (λ is. let no : 0 ≡ u.share = ap (λ (z : EndState). z.share) is in absurd (omega (arith, no, t)))
        e

    nothing : (j : ℕ) (u : EndState) → get_elem? (set ends i now ++ spare ∷ []) j ≡ some u → u.share ≡ 0 → (u.put ≡ []) × (u.taken ≡ [])
    nothing j u e z = each_split ends i j now spare u ((u.put ≡ []) × (u.taken ≡ []))
        (λ is. (ap (λ (z : EndState). z.put) (sym is.1), ap (λ (z : EndState). z.taken) (sym is.1)))
        (λ is. h.idle j u is.1 z)
        (λ is. (ap (λ (z : EndState). z.put) (sym is), ap (λ (z : EndState). z.taken) (sym is)))
        e

    ordered : (j : ℕ) (u : EndState) → get_elem? (set ends i now ++ spare ∷ []) j ≡ some u → IsAlone u → u.taken ++ items ≡ u.put
    ordered j u e a = each_split ends i j now spare u (u.taken ++ items ≡ u.put)
        (λ is. let P : EndState → Type 0 = λ z. z.taken ++ items ≡ z.put in subst P is.1 none)
        (λ is. let no = no_other j u is.0 is.1 in let some_share = a.0 in absurd (omega (arith, no, some_share)))
        (λ is. let no : 0 ≡ u.share = ap (λ (z : EndState). z.share) is in let some_share = a.0 in absurd (omega (arith, no, some_share)))
        e

-- ---- another end, for one of the callers for whom this one stands
pub forks : (i : ℕ) (v : EndState) → 2 ≤ v.share → Forks Carries i v (end_state v.put v.taken (v.share - 1) v.callers v.known) (end_state [] [] 1 v.callers v.known)
forks i v may items ends h at = record {
  replies = h.replies;
  callers = h.callers;
  spoken = h.spoken;
  balance = balance;
  shares = shares;
  known = told;
  idle = nothing;
  order = λ j u e a. absurd (nobody j u e a);
}
  where
    now : EndState
    now = end_state v.put v.taken (v.share - 1) v.callers v.known

    new : EndState
    new = end_state [] [] 1 v.callers v.known

    stands : 0 < v.share
    stands = omega (arith, may)

    own : (v.known ≡ h.replies) × (v.callers ≡ h.callers)
    own = h.known i v at stands

    within : v.share ≤ h.callers
    within = let most = share_most ends i v at in let sum = h.shares in omega (arith, most, sum)

    balance : (f : Spoken → ℕ) → total (λ (x : EndState). total f x.taken) (set ends i now ++ new ∷ []) + total f items ≡ total (λ (x : EndState). total f x.put) (set ends i now ++ new ∷ [])
    balance f =
        let taken : total (λ (x : EndState). total f x.taken) (set ends i now ++ new ∷ []) + total f v.taken ≡ total (λ (x : EndState). total f x.taken) ends + (total f v.taken + 0) = total_split (λ (x : EndState). total f x.taken) ends i v now new at in
        let put : total (λ (x : EndState). total f x.put) (set ends i now ++ new ∷ []) + total f v.put ≡ total (λ (x : EndState). total f x.put) ends + (total f v.put + 0) = total_split (λ (x : EndState). total f x.put) ends i v now new at in
        let before = h.balance f in
        omega (arith, taken, put, before)

    shares : total (λ (x : EndState). x.share) (set ends i now ++ new ∷ []) ≡ h.callers
    shares =
        let split : total (λ (x : EndState). x.share) (set ends i now ++ new ∷ []) + v.share ≡ total (λ (x : EndState). x.share) ends + (v.share - 1 + 1) = total_split (λ (x : EndState). x.share) ends i v now new at in
        let before = h.shares in
        omega (arith, split, before, may)

    told : (j : ℕ) (u : EndState) → get_elem? (set ends i now ++ new ∷ []) j ≡ some u → 0 < u.share → (u.known ≡ h.replies) × (u.callers ≡ h.callers)
    told j u e t = each_split ends i j now new u ((u.known ≡ h.replies) × (u.callers ≡ h.callers))
        (λ is. (ap (λ (z : EndState). z.known) (sym is.1) ∙ own.0, ap (λ (z : EndState). z.callers) (sym is.1) ∙ own.1))
        (λ is. h.known j u is.1 t)
        (λ is. (ap (λ (z : EndState). z.known) (sym is) ∙ own.0, ap (λ (z : EndState). z.callers) (sym is) ∙ own.1))
        e

    nothing : (j : ℕ) (u : EndState) → get_elem? (set ends i now ++ new ∷ []) j ≡ some u → u.share ≡ 0 → (u.put ≡ []) × (u.taken ≡ [])
    nothing j u e z = each_split ends i j now new u ((u.put ≡ []) × (u.taken ≡ []))
        (λ is. let same : v.share - 1 ≡ u.share = ap (λ (y : EndState). y.share) is.1 in absurd (omega (arith, same, may, z)))
        (λ is. h.idle j u is.1 z)
        (λ is. let same : 1 ≡ u.share = ap (λ (y : EndState). y.share) is in absurd (omega (arith, same, z)))
        e

    nobody : (j : ℕ) (u : EndState) → get_elem? (set ends i now ++ new ∷ []) j ≡ some u → IsAlone u → ⊥
    nobody j u e a = each_split ends i j now new u ⊥
        (λ is.
        let share : v.share - 1 ≡ u.share = ap (λ (y : EndState). y.share) is.1 in
        let callers : v.callers ≡ u.callers = ap (λ (y : EndState). y.callers) is.1 in
        let mine = a.1 in
        let all = own.1 in
        absurd (omega (arith, share, callers, mine, all, within, may)))
        (λ is. not_alone items ends h i j v u is.0 at is.1 stands a)
        (λ is.
        let share : 1 ≡ u.share = ap (λ (y : EndState). y.share) is in
        let callers : v.callers ≡ u.callers = ap (λ (y : EndState). y.callers) is in
        let mine = a.1 in
        let all = own.1 in
        absurd (omega (arith, share, callers, mine, all, within, may)))
        e

-- ---- what follows from the rule
pub most_taken : (items : List Spoken) (ends : List EndState) (t most : ℕ) → Carries items ends → total (λ (v : EndState). times t v.put) ends ≤ most → total (λ (v : EndState). times t v.taken) ends ≤ most
most_taken items ends t most h few =
    let is : total (λ (v : EndState). times t v.taken) ends + times t items ≡ total (λ (v : EndState). times t v.put) ends = h.balance (λ m. cond (m.ticket == t) 1 0) in
    omega (arith, is, few)

pub spoken_known : (v : EndState) (items : List Spoken) → IsMoment v items → 0 < v.share → AllByRecursion (IsSpoken v.known) items
spoken_known v items h may =
    let P : List Reply → Type 0 = λ l. AllByRecursion (IsSpoken l) items in
    subst P (sym (h.rule.known h.place v h.own may).0) h.rule.spoken
