-- The ways from the first tickets with the largest count are the longest chains.
use Rattle.std.proofs.Common.{◌≡◌, ℕ, zero, suc, ◌+◌, ◌<◌, ◌≤◌, ◌⊎◌, inl, inr, ⊎_elim, List, [], ◌∷◌, length, map, get_or, refl, sym, ap, ◌∙◌, subst, arith}
use Rattle.std.specs.List.{All, Contains}
use Rattle.std.specs.List.Sorted.{IsPermutation, IsStrictlyIncreasing}
use Rattle.std.proofs.lemmas.List.{get_or-map, length-map}
use Rattle.waiting_pairs.specs.declared.delay.Delay.{Delay}
use Rattle.waiting_pairs.specs.declared.links.Link.{Link}
use Rattle.waiting_pairs.specs.declared.links.Step.{Step}
use Rattle.waiting_pairs.specs.Chains.{AreLinked, AreLongest, IsChain, IsLongest, IsTold, Waited, head_of, most_chains}
use Rattle.waiting_pairs.specs.Heads.{AreHeads, AreWays, IsMost}
use Rattle.waiting_pairs.specs.Steps.{IsSettled, IsTable, link_at, links, rest_of, step_at, way}
use Rattle.waiting_pairs.proofs.LinkLemmas.{from_link, to_link}

-- ---- ways

rest_long : (table : List Step) (n t : ℕ) → length (rest_of table n t) ≡ n
rest_long table zero t = refl
rest_long table (suc n) t = ap (λ (k : ℕ). suc k) (rest_long table n (step_at table t).next)

heads_of_ways : (table : List Step) (ts : List ℕ) → map head_of (map (way table) ts) ≡ ts
heads_of_ways table [] = refl
heads_of_ways table (t ∷ ts) = ap (λ (us : List ℕ). t ∷ us) (heads_of_ways table ts)

-- ---- chains, as a ticket and those that follow it
pub record Opened (n : ℕ) (ds : List Delay) (c : List ℕ) : Type 0 where
  pub first : ℕ
  pub others : List ℕ
  pub is : c ≡ first ∷ others
  pub some : 0 < length others
  pub linked : AreLinked n ds first others

opened : (n : ℕ) (ds : List Delay) (c : List ℕ) → IsChain n ds c → Opened n ds c
opened n ds [] h = absurd h
opened n ds (t ∷ []) h = absurd h
opened n ds (t ∷ u ∷ us) h = record { first = t; others = u ∷ us; is = refl; some = omega arith; linked = h }

closed : (n : ℕ) (ds : List Delay) (t : ℕ) (us : List ℕ) → 0 < length us → AreLinked n ds t us → IsChain n ds (t ∷ us)
closed n ds t [] more h = absurd (omega (arith, more))
closed n ds t (u ∷ us) more h = h

begins : (n : ℕ) (ds : List Delay) (t : ℕ) (us : List ℕ) → 0 < length us → AreLinked n ds t us → t < n
begins n ds t [] more h = absurd (omega (arith, more))
begins n ds t (u ∷ us) more h = h.0.is_request

module _ (n : ℕ) (ds : List Delay) (ls : List Link) (same : IsPermutation (links n ds) ls) (table : List Step) (fits : IsTable n table) (settled : IsSettled ls (length ls) table) where
  -- no more follow a ticket than its count
  bounded : (t : ℕ) (us : List ℕ) → AreLinked n ds t us → length us ≤ (step_at table t).count
  bounded t [] h = omega arith
  bounded t (u ∷ us) h =
      let found = to_link n ds ls same t u h.0 in
      let less = settled.above found.0 found.1 in
      let t_is : (step_at table (link_at ls found.0).ticket).count ≡ (step_at table t).count = ap (λ (l : Link). (step_at table l.ticket).count) found.2 in
      let u_is : (step_at table (link_at ls found.0).older).count ≡ (step_at table u).count = ap (λ (l : Link). (step_at table l.older).count) found.2 in
      omega (arith, bounded u us h.1, less, t_is, u_is)

  -- and as many do
  linked : (k t : ℕ) → (step_at table t).count ≡ k → AreLinked n ds t (rest_of table k t)
  linked zero t e = tt
  linked (suc k) t e =
      let s = settled.steps t (omega (arith, e)) in
      let w : Waited n ds t (step_at table t).next = subst (λ (l : Link). Waited n ds l.ticket l.older) s.link (from_link n ds ls same s.at s.before) in
      (w, linked k (step_at table t).next (omega (arith, e, s.less)))

  way_long : (t : ℕ) → length (way table t) ≡ (step_at table t).count + 1
  way_long t = omega (arith, rest_long table (step_at table t).count t)

  way_chain : (t : ℕ) → 0 < (step_at table t).count → IsChain n ds (way table t)
  way_chain t more = closed n ds t (rest_of table (step_at table t).count t) (omega (arith, more, rest_long table (step_at table t).count t)) (linked (step_at table t).count t refl)

  module _ (most : ℕ) (is_most : IsMost table most) where
    no_more : (c : List ℕ) → (o : Opened n ds c) → (step_at table o.first).count ≤ most
    no_more c o = is_most.above o.first (omega (arith, begins n ds o.first o.others o.some o.linked, fits.sized))

    short : (c : List ℕ) (o : Opened n ds c) → length c ≤ (step_at table o.first).count + 1
    short c o = omega (arith, ap length o.is, bounded o.first o.others o.linked)

    way_longest : (t : ℕ) → 0 < most → (step_at table t).count ≡ most → IsLongest n ds (way table t)
    way_longest t more e = (way_chain t (omega (arith, more, e)), λ c h. let o = opened n ds c h in omega (arith, short c o, no_more c o, way_long t, e))

    -- where there is a chain a count is above 0, and the longest begin with tickets that have it
    has_most : (c : List ℕ) → IsLongest n ds c → (o : Opened n ds c) → 0 < most × ((step_at table o.first).count ≡ most)
    has_most c h o =
        let some : 0 < most = omega (arith, o.some, bounded o.first o.others o.linked, no_more c o) in
        ⊎_elim (λ (none : most ≡ 0). absurd (omega (arith, none, some)))
        (λ (w : (t : ℕ) × (t < length table) × ((step_at table t).count ≡ most)).
        (some, omega (arith, h.1 (way table w.0) (way_chain w.0 (omega (arith, some, w.2))), way_long w.0, w.2, short c o, no_more c o)))
        is_most.reached

    module _ (heads : List ℕ) where
      told : (are : AreHeads table most (length table) heads) (c : List ℕ) → IsLongest n ds c → IsTold (map (way table) heads) c
      told are c h =
          let o = opened n ds c h.0 in
          let has = has_most c h o in
          let first : head_of c ≡ o.first = ap head_of o.is in
          let inside : o.first < length table = omega (arith, begins n ds o.first o.others o.some o.linked, fits.sized) in
          let P : ℕ → Type 0 = λ (s : ℕ). Contains (map head_of (map (way table) heads)) s ⊎ ((length (map (way table) heads) ≡ most_chains) × All (λ (d : List ℕ). head_of d < s) (map (way table) heads)) in
          subst P (sym first) (⊎_elim
          (λ (among : Contains heads o.first). inl (subst (λ (ts : List ℕ). Contains ts o.first) (sym (heads_of_ways table heads)) among))
          (λ (full : (length heads ≡ most_chains) × All (λ (h : ℕ). h < o.first) heads). inr (length-map heads (way table) ∙ full.0, below o.first full.1))
          (are.no_others o.first inside has.1 has.0))
        where
          below : (s : ℕ) → All (λ (h : ℕ). h < s) heads → All (λ (d : List ℕ). head_of d < s) (map (way table) heads)
          below s all k d lt =
              let there : k < length heads = omega (arith, lt, length-map heads (way table)) in
              subst (λ (z : List ℕ). head_of z < s) (sym (get_or-map (way table) heads k 0 d there)) (all k 0 there)

      all_longest : AreHeads table most (length table) heads → All (IsLongest n ds) (map (way table) heads)
      all_longest are k d lt =
          let there : k < length heads = omega (arith, lt, length-map heads (way table)) in
          let has = are.have k 0 there in
          subst (IsLongest n ds) (sym (get_or-map (way table) heads k 0 d there)) (way_longest (get_or heads k 0) has.2 has.1)

      all_told : AreHeads table most (length table) heads → AreLongest n ds (map (way table) heads)
      all_told are = record {
        longest = all_longest are;
        rising = subst IsStrictlyIncreasing (sym (heads_of_ways table heads)) are.rising;
        few = omega (arith, are.few, length-map heads (way table));
        no_others = told are;
      }

  ways_longest : (chains : List (List ℕ)) → AreWays table chains → AreLongest n ds chains
  ways_longest chains w = subst (AreLongest n ds) (sym w.are_ways) (all_told w.most w.is_most w.heads w.are_heads)

-- so they are over lists that are the same
pub chains_longest : (n : ℕ) (ds : List Delay) (ls seen : List Link) (table steps : List Step) → IsPermutation (links n ds) ls → seen ≡ ls → IsTable n table → IsSettled seen (length seen) table → steps ≡ table
    → (chains : List (List ℕ)) → AreWays steps chains → AreLongest n ds chains
chains_longest n ds ls seen table steps same e fits settled f chains w =
    ways_longest n ds seen (subst (IsPermutation (links n ds)) (sym e) same) table fits settled chains (subst (λ (t : List Step). AreWays t chains) f w)

pub fits_itself : (n : ℕ) (table steps : List Step) → steps ≡ table → IsTable n table → IsTable (length steps) steps
fits_itself n table steps e fits =
    subst (λ (t : List Step). IsTable (length t) t) (sym e) (subst (λ (k : ℕ). IsTable k table) (sym fits.sized) fits)
