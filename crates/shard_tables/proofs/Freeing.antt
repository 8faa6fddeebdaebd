-- A slot is freed: what it holds changes places with later slots until no search passes it.
use Rattle.std.proofs.Common.{◌≡◌, ◌≢◌, ℕ, ◌+◌, ◌-◌, ◌<◌, ◌≤◌, ◌^◌, inl, inr, List, length, get_or, refl, sym, ◌∙◌, ap, subst, arith}
use Rattle.std.proofs.Math.ListN.{set}
use Rattle.std.proofs.lemmas.Bool.{cases_lt, cases_eq}
use Rattle.std.proofs.lemmas.List.{get_or-set_same, get_or-set_other, length-set}
use Rattle.std.proofs.lemmas.List.Sums.{sum_by-set}
use Rattle.session_values.specs.declared.value.Value.{Value}
use Rattle.session_values.specs.declared.value.Value.TheVariants.{Nil}
use Rattle.shard_tables.specs.Slots.{distance, after, start_in, HoldsPlaces, IsIndex, IsIndexBut}
use Rattle.shard_tables.proofs.Distances.{distance-self, same_distance, after-lt, distance-after, distance_through, distance_back}
use Rattle.shard_tables.proofs.Masks.{start-lt}
use Rattle.shard_tables.proofs.Changes.{one, taken_in, goes_on, other_is, Changed, changed_holds}
use Rattle.shard_tables.proofs.Entries.{changed_taken}

-- the slots from the freed one up to `next` are taken, and no search for what stands between passes `hole`
pub record IsFreeing (factor bits : ℕ) (keys : List Value) (from : ℕ) (xs : List ℕ) (hole next : ℕ) : Type 0 where
  pub but : IsIndexBut factor bits keys xs hole
  pub next_in : next < 2 ^ bits
  pub inside : distance (2 ^ bits) from hole + distance (2 ^ bits) hole next ≡ distance (2 ^ bits) from next
  pub apart : 0 < distance (2 ^ bits) hole next
  pub passed : (u : ℕ) → u < 2 ^ bits → distance (2 ^ bits) from u < distance (2 ^ bits) from next → 0 < get_or xs u 0
  pub clear : (s : ℕ) → s ≢ hole → 0 < get_or xs s 0 → distance (2 ^ bits) hole s < distance (2 ^ bits) hole next → distance (2 ^ bits) (start_in factor bits keys (get_or xs s 0)) s < distance (2 ^ bits) hole s

pub same_freeing : (factor b c : ℕ) (keys : List Value) (from : ℕ) (xs ys : List ℕ) (h i n o : ℕ) → c ≡ b → ys ≡ xs → i ≡ h → o ≡ n → IsFreeing factor b keys from xs h n → IsFreeing factor c keys from ys i o
same_freeing factor b c keys from xs ys h i n o e f g k s =
    let P : ℕ → Type 0 = λ v. IsFreeing factor v keys from xs h n in
    let Q : List ℕ → Type 0 = λ v. IsFreeing factor c keys from v h n in
    let R : ℕ → Type 0 = λ v. IsFreeing factor c keys from ys v n in
    let S : ℕ → Type 0 = λ v. IsFreeing factor c keys from ys i v in
    subst S (sym k) (subst R (sym g) (subst Q (sym f) (subst P (sym e) s)))

start_in-lt : (factor bits : ℕ) (keys : List Value) (x : ℕ) → bits ≤ 64 → start_in factor bits keys x < 2 ^ bits
start_in-lt factor bits keys x small = start-lt factor (get_or keys (x - 1) Nil) bits small

pub slot_in : (bits n : ℕ) (xs : List ℕ) (s : ℕ) → HoldsPlaces (2 ^ bits) n xs → 0 < get_or xs s 0 → s < 2 ^ bits
slot_in bits n xs s holds h = omega (arith, taken_in xs s h, holds.long)

pub hole_in : (factor bits : ℕ) (keys : List Value) (xs : List ℕ) (hole : ℕ) → IsIndexBut factor bits keys xs hole → hole < 2 ^ bits
hole_in factor bits keys xs hole but = slot_in bits (length keys + 1) xs hole but.places (omega (arith, but.last))

pub began : (factor bits : ℕ) (keys : List Value) (xs : List ℕ) (from : ℕ) → IsIndexBut factor bits keys xs from → length keys + 1 < 2 ^ bits → IsFreeing factor bits keys from xs from (after (2 ^ bits) from)
began factor bits keys xs from but few =
    let m = 2 ^ bits in
    let f_in = hole_in factor bits keys xs from but in
    let self : distance m from from ≡ 0 = distance-self m from in
    let step : distance m from (after m from) ≡ distance m from from + 1 = distance-after m from from f_in f_in (omega arith) in
    record {
      but = but;
      next_in = after-lt m from f_in;
      inside = omega arith;
      apart = omega arith;
      passed = λ u l b.
          let is : from ≡ u = same_distance m from from u f_in f_in l (omega arith) in
          omega (arith, ap (λ (v : ℕ). get_or xs v 0) is, but.last);
      clear = λ s n taken b. absurd (n (same_distance m from s from f_in (slot_in bits (length keys + 1) xs s but.places taken) f_in (omega arith)));
    }

module _ (factor bits : ℕ) (keys : List Value) (from : ℕ) (xs : List ℕ) (hole next : ℕ) (small : bits ≤ 64) (few : length keys + 1 < 2 ^ bits) (from_in : from < 2 ^ bits) (freeing : IsFreeing factor bits keys from xs hole next) where
  apart_from : next ≢ hole
  apart_from i = omega (arith, ap (λ (v : ℕ). distance (2 ^ bits) hole v) i, distance-self (2 ^ bits) hole, freeing.apart)

  -- there is a free slot still
  pub more : 0 < get_or xs next 0 → distance (2 ^ bits) from next + 1 < 2 ^ bits
  more taken = goes_on (2 ^ bits) (length keys + 1) xs from next freeing.but.places few from_in freeing.next_in freeing.passed taken

  -- what stands in the next slot is a key's place
  pub next_few : get_or xs next 0 ≤ length keys
  next_few = elim (cases_lt (length keys) (get_or xs next 0)) [
    | inl b ↦
        let full : get_or xs next 0 ≡ get_or xs hole 0 = omega (arith, freeing.but.places.few next, freeing.but.last, b) in
        absurd (apart_from (freeing.but.places.once next hole (omega arith) full))
    | inr b ↦ b
  ]

  pub kept : 0 < get_or xs next 0 → distance (2 ^ bits) (start_in factor bits keys (get_or xs next 0)) next < distance (2 ^ bits) hole next → IsFreeing factor bits keys from xs hole (after (2 ^ bits) next)
  kept taken stays =
      let m = 2 ^ bits in
      let h_in = hole_in factor bits keys xs hole freeing.but in
      let on = more taken in
      let step : distance m from (after m next) ≡ distance m from next + 1 = distance-after m from next from_in freeing.next_in on in
      let step_hole : distance m hole (after m next) ≡ distance m hole next + 1 = distance-after m hole next h_in freeing.next_in (omega (arith, on, freeing.inside)) in
      record {
        but = freeing.but;
        next_in = after-lt m next freeing.next_in;
        inside = omega (arith, freeing.inside);
        apart = omega arith;
        passed = λ u l b. elim (cases_lt (distance m from u) (distance m from next)) [
          | inl c ↦ freeing.passed u l c
          | inr c ↦
              let is : next ≡ u = same_distance m from next u from_in freeing.next_in l (omega arith) in
              omega (arith, ap (λ (v : ℕ). get_or xs v 0) is, taken)
        ];
        clear = λ s n there b. elim (cases_lt (distance m hole s) (distance m hole next)) [
          | inl c ↦ freeing.clear s n there c
          | inr c ↦
              let is : next ≡ s = same_distance m hole next s h_in freeing.next_in (slot_in bits (length keys + 1) xs s freeing.but.places there) (omega arith) in
              let P : ℕ → Type 0 = λ v. distance m (start_in factor bits keys (get_or xs v 0)) v < distance m hole v in
              subst P is stays
        ];
      }

  pub moved : (ys : List ℕ) → 0 < get_or xs next 0 → distance (2 ^ bits) hole next ≤ distance (2 ^ bits) (start_in factor bits keys (get_or xs next 0)) next → Changed xs ys hole next
      → IsFreeing factor bits keys from ys next (after (2 ^ bits) next)
  moved ys taken moves ch =
      let m = 2 ^ bits in
      let n = length keys + 1 in
      let h_in = hole_in factor bits keys xs hole freeing.but in
      let on = more taken in
      let hole_taken : 0 < get_or xs hole 0 = omega (arith, freeing.but.last) in
      let still = λ (t : ℕ) (h : 0 < get_or xs t 0). changed_taken xs ys hole next t ch hole_taken taken h in
      let self : distance m next next ≡ 0 = distance-self m next in
      let step : distance m from (after m next) ≡ distance m from next + 1 = distance-after m from next from_in freeing.next_in on in
      let step_next : distance m next (after m next) ≡ distance m next next + 1 = distance-after m next next freeing.next_in freeing.next_in (omega arith) in
      let holds = changed_holds m n xs ys hole next freeing.but.places ch in
      record {
        but = record {
          places = holds;
          last = elim (other_is hole next next) [
            | inl h ↦ absurd (apart_from h.0)
            | inr h ↦ elim h [
              | inl g ↦ ch.at next ∙ ap (λ (v : ℕ). get_or xs v 0) g.2 ∙ freeing.but.last
              | inr g ↦ absurd (g.1 refl)
            ]
          ];
          reached = λ s n there t t_in w. elim (other_is hole next s) [
            | inl h ↦
                let now : get_or ys s 0 ≡ get_or xs next 0 = ch.at s ∙ ap (λ (v : ℕ). get_or xs v 0) h.1 in
                let H = start_in factor bits keys (get_or xs next 0) in
                let P : ℕ → Type 0 = λ x. distance m (start_in factor bits keys x) t < distance m (start_in factor bits keys x) s in
                let Q : ℕ → Type 0 = λ v. distance m H t < distance m H v in
                let nearer : distance m H t < distance m H hole = subst Q h.0 (subst P now w) in
                let whole : distance m H next ≡ distance m H hole + distance m hole next = distance_back m H hole next (start_in-lt factor bits keys (get_or xs next 0) small) h_in freeing.next_in moves in
                still t (freeing.but.reached next apart_from taken t t_in (omega arith))
            | inr h ↦ elim h [
              | inl g ↦ absurd (n g.1)
              | inr g ↦
                  let now : get_or ys s 0 ≡ get_or xs s 0 = ch.at s ∙ ap (λ (v : ℕ). get_or xs v 0) g.2 in
                  let P : ℕ → Type 0 = λ x. distance m (start_in factor bits keys x) t < distance m (start_in factor bits keys x) s in
                  still t (freeing.but.reached s g.0 (omega (arith, now, there)) t t_in (subst P now w))
            ]
          ];
        };
        next_in = after-lt m next freeing.next_in;
        inside = omega arith;
        apart = omega arith;
        passed = λ u l b. elim (cases_lt (distance m from u) (distance m from next)) [
          | inl c ↦ still u (freeing.passed u l c)
          | inr c ↦
              let is : next ≡ u = same_distance m from next u from_in freeing.next_in l (omega arith) in
              let P : ℕ → Type 0 = λ v. 0 < get_or ys v 0 in
              subst P is (still next taken)
        ];
        clear = λ s n there b. absurd (n (same_distance m next s next freeing.next_in (slot_in bits (length keys + 1) ys s holds there) freeing.next_in (omega arith)));
      }

  -- no search passes the hole once the next slot is free
  not_passed : (s : ℕ) → get_or xs next 0 ≡ 0 → s ≢ hole → 0 < get_or xs s 0 → distance (2 ^ bits) (start_in factor bits keys (get_or xs s 0)) hole < distance (2 ^ bits) (start_in factor bits keys (get_or xs s 0)) s → ⊥
  not_passed s free n taken through =
      let m = 2 ^ bits in
      let H = start_in factor bits keys (get_or xs s 0) in
      let H_in : H < m = start_in-lt factor bits keys (get_or xs s 0) small in
      let h_in = hole_in factor bits keys xs hole freeing.but in
      let s_in = slot_in bits (length keys + 1) xs s freeing.but.places taken in
      let whole : distance m H s ≡ distance m H hole + distance m hole s = distance_through m H hole s H_in h_in s_in (omega arith) in
      elim (cases_lt (distance m hole s) (distance m hole next)) [
        | inl b ↦ let c = freeing.clear s n taken b in omega arith
        | inr b ↦ elim (cases_lt (distance m hole next) (distance m hole s)) [
          | inl c ↦
              let rest : distance m hole s ≡ distance m hole next + distance m next s = distance_through m hole next s h_in freeing.next_in s_in b in
              let P : ℕ → Type 0 = λ v. 0 < get_or xs v 0 in
              let back : distance m H s ≡ distance m H next + distance m next s = distance_back m H next s H_in freeing.next_in s_in (omega arith) in
              let met : 0 < get_or xs next 0 = freeing.but.reached s n taken next freeing.next_in (omega (arith, not_next s free taken)) in
              omega arith
          | inr c ↦
              let is : next ≡ s = same_distance m hole next s h_in freeing.next_in s_in (omega arith) in
              omega (arith, ap (λ (v : ℕ). get_or xs v 0) is)
        ]
      ]
    where
      not_next : (s : ℕ) → get_or xs next 0 ≡ 0 → 0 < get_or xs s 0 → 0 < distance (2 ^ bits) next s
      not_next s free taken = elim (cases_lt 0 (distance (2 ^ bits) next s)) [
        | inl l ↦ l
        | inr g ↦
            let s_in = slot_in bits (length keys + 1) xs s freeing.but.places taken in
            let is : next ≡ s = same_distance (2 ^ bits) next next s freeing.next_in freeing.next_in s_in (omega (arith, distance-self (2 ^ bits) next)) in
            absurd (omega (arith, ap (λ (v : ℕ). get_or xs v 0) is))
      ]

  pub ended : get_or xs next 0 ≡ 0 → IsIndex factor bits keys (set xs hole 0)
  ended free =
      let m = 2 ^ bits in
      let n = length keys in
      let ys = set xs hole 0 in
      let h_in = hole_in factor bits keys xs hole freeing.but in
      let holds = freeing.but.places in
      let within : hole < length xs = omega (arith, h_in, holds.long) in
      let here : get_or ys hole 0 ≡ 0 = get_or-set_same xs hole 0 0 within in
      let else = λ (s : ℕ) (i : s ≢ hole). get_or-set_other xs hole s 0 0 i in
      let not_hole = λ (s : ℕ) (h : 0 < get_or ys s 0) (i : s ≡ hole). let z : get_or ys s 0 ≡ 0 = ap (λ (v : ℕ). get_or ys v 0) i ∙ here in let bad : ⊥ = omega (arith, z, h) in bad in
      record {
        places = record {
          long = length-set xs hole 0 ∙ holds.long;
          taken = omega (arith, sum_by-set one xs hole 0 0 within, holds.taken, freeing.but.last);
          few = λ s. elim (cases_eq s hole) [
            | inl i ↦ omega (arith, ap (λ (v : ℕ). get_or ys v 0) i, here)
            | inr i ↦ elim (cases_eq (get_or xs s 0) (n + 1)) [
              | inl f ↦ absurd (i (holds.once s hole (omega (arith, f)) (f ∙ sym freeing.but.last)))
              | inr f ↦ omega (arith, else s i, f, holds.few s)
            ]
          ];
          once = λ s t h e.
              let i = not_hole s h in
              let j : t ≢ hole = not_hole t (omega (arith, e, h)) in
              holds.once s t (omega (arith, else s i, h)) (sym (else s i) ∙ e ∙ else t j);
          there = λ p l.
              let w = holds.there p (omega arith) in
              let i : w.0 ≢ hole = λ i. omega (arith, ap (λ (v : ℕ). get_or xs v 0) i, w.1, freeing.but.last, l) in
              (w.0, else w.0 i ∙ w.1);
        };
        reached = λ s taken t t_in w.
            let i = not_hole s taken in
            let now = else s i in
            let there : 0 < get_or xs s 0 = omega (arith, now, taken) in
            let P : ℕ → Type 0 = λ x. distance m (start_in factor bits keys x) t < distance m (start_in factor bits keys x) s in
            let nearer = subst P now w in
            let j : t ≢ hole = λ j. (let Q : ℕ → Type 0 = λ v. distance m (start_in factor bits keys (get_or xs s 0)) v < distance m (start_in factor bits keys (get_or xs s 0)) s in not_passed s free i there (subst Q j nearer)) in
            omega (arith, else t j, freeing.but.reached s i there t t_in nearer);
      }
