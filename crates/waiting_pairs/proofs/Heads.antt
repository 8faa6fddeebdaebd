-- The largest count of a table, and the first tickets that have it.
use Rattle.std.proofs.Common.{◌≡◌, ℕ, ◌+◌, ◌<◌, ◌≤◌, inl, inr, ⊎_elim, Bool, true, false, cond, eqb, ltb, ◌&&◌, List, [], ◌∷◌, ◌++◌, length, get_or, refl, sym, ap, subst, arith, below_more}
use Rattle.std.specs.List.{All, Contains}
use Rattle.std.proofs.lemmas.Bool.{and_cases, and_from, and_parts, both_ways, cases_lt, eq-eqb, eqb-true, lt-ltb, ltb-false, ltb-true}
use Rattle.std.proofs.lemmas.List.{get_or_default, get_or_read, get_or_append_left, get_or_push, length_push}
use Rattle.std.proofs.lemmas.List.Elements.{All-push, Contains-append_left, Contains-push}
use Rattle.waiting_pairs.specs.declared.links.Step.{Step}
use Rattle.waiting_pairs.specs.Chains.{most_chains}
use Rattle.waiting_pairs.specs.Heads.{AreHeads, IsHead, IsMostOf, is_due}
use Rattle.waiting_pairs.specs.Steps.{no_step, step_at}

-- ---- the largest count
module _ (table : List Step) (i : ℕ) (step : Step) (lt : i < length table) (is : step ≡ get_or table i step) (old : ℕ) (so_far : IsMostOf table i old) where
  here : step ≡ step_at table i
  here = get_or_read table i step lt is no_step

  most_kept : step.count ≤ old → IsMostOf table (i + 1) old
  most_kept le = record {
    above = below_more (λ (t : ℕ). (step_at table t).count ≤ old) i so_far.above (omega (arith, le, ap (λ (s : Step). s.count) here));
    reached = ⊎_elim (λ (e : old ≡ 0). inl e) (λ (w : (t : ℕ) × (t < i) × ((step_at table t).count ≡ old)). inr (w.0, omega (arith, w.1), w.2)) so_far.reached;
  }

  most_raised : old < step.count → IsMostOf table (i + 1) step.count
  most_raised more = record {
    above = below_more (λ (t : ℕ). (step_at table t).count ≤ step.count) i (λ t h. omega (arith, so_far.above t h, more)) (omega (arith, ap (λ (s : Step). s.count) here));
    reached = inr (i, omega arith, ap (λ (s : Step). s.count) (sym here));
  }

  most_by : (new : ℕ) (b : Bool) → ltb old step.count ≡ b → new ≡ cond b step.count old → IsMostOf table (i + 1) new
  most_by new true h e = subst (IsMostOf table (i + 1)) (sym e) (most_raised (ltb-true old step.count h))
  most_by new false h e = subst (IsMostOf table (i + 1)) (sym e) (most_kept (ltb-false old step.count h))

pub most_more : (table : List Step) (i old new : ℕ) (d : Step) → i < length table → new ≡ cond (ltb old (get_or table i d).count) (get_or table i d).count old → IsMostOf table i old → IsMostOf table (i + 1) new
most_more table i old new d lt e so_far =
    most_by table i (get_or table i d) lt (get_or_default table i d (get_or table i d) lt) old so_far new (ltb old (get_or table i d).count) refl e

pub no_most : (table : List Step) → IsMostOf table 0 0
no_most table = record { above = λ t lt. absurd (omega (arith, lt)); reached = inl refl }

-- ---- the first tickets
module _ (table : List Step) (most t : ℕ) (heads : List ℕ) (so_far : AreHeads table most t heads) where
  has_below : All (λ h. (h < t + 1) × ((step_at table h).count ≡ most) × (0 < most)) heads
  has_below k d lt = (omega (arith, (so_far.have k d lt).0), (so_far.have k d lt).1, (so_far.have k d lt).2)

  head_skipped : ((step_at table t).count ≡ most → 0 < most → most_chains ≤ length heads) → AreHeads table most (t + 1) heads
  head_skipped why = record {
    have = has_below;
    rising = so_far.rising;
    few = so_far.few;
    no_others = below_more (λ (s : ℕ). (step_at table s).count ≡ most → 0 < most → IsHead heads s) t so_far.no_others
        (λ (e : (step_at table t).count ≡ most) (more : 0 < most). inr (omega (arith, why e more, so_far.few), λ k d lt. (so_far.have k d lt).0));
  }

  module _ (e : (step_at table t).count ≡ most) (more : 0 < most) (room : length heads < most_chains) where
    last_rises : (k : ℕ) → k + 1 < length (heads ++ t ∷ []) → get_or (heads ++ t ∷ []) k 0 < get_or (heads ++ t ∷ []) (k + 1) 0
    last_rises k lt = ⊎_elim
        (λ (near : k + 1 < length heads). omega (arith, so_far.rising k near, get_or_append_left heads (t ∷ []) 0 k (omega (arith, near)), get_or_append_left heads (t ∷ []) 0 (k + 1) near))
        (λ (far : length heads ≤ k + 1).
        let n : length heads ≡ k + 1 = omega (arith, lt, far, length_push heads t) in
        omega (arith, (so_far.have k 0 (omega (arith, n))).0, get_or_append_left heads (t ∷ []) 0 k (omega (arith, n)), get_or_push heads t 0 (k + 1) n))
        (cases_lt (k + 1) (length heads))

    no_others_more : (s : ℕ) → s < t → (step_at table s).count ≡ most → 0 < most → IsHead (heads ++ t ∷ []) s
    no_others_more s lt h m = ⊎_elim (λ (c : Contains heads s). inl (Contains-append_left heads (t ∷ []) s c))
        (λ (full : (length heads ≡ most_chains) × All (λ h. h < s) heads). absurd (omega (arith, full.0, room))) (so_far.no_others s lt h m)

    head_pushed : AreHeads table most (t + 1) (heads ++ t ∷ [])
    head_pushed = record {
      have = All-push (λ (h : ℕ). (h < t + 1) × ((step_at table h).count ≡ most) × (0 < most)) heads t has_below (omega arith, e, more);
      rising = last_rises;
      few = omega (arith, length_push heads t, room);
      no_others = below_more (λ (s : ℕ). (step_at table s).count ≡ most → 0 < most → IsHead (heads ++ t ∷ []) s) t no_others_more (λ h m. inl (Contains-push heads t));
    }

  pub due_pushed : (new : List ℕ) → is_due table t most heads ≡ true → new ≡ heads ++ t ∷ [] → AreHeads table most (t + 1) new
  due_pushed new h is =
      let both = and_parts (eqb (step_at table t).count most && ltb 0 most) (ltb (length heads) most_chains) h in
      let first = and_parts (eqb (step_at table t).count most) (ltb 0 most) both.0 in
      subst (AreHeads table most (t + 1)) (sym is)
      (head_pushed (eqb-true (step_at table t).count most first.0) (ltb-true 0 most first.1) (ltb-true (length heads) most_chains both.1))

  pub due_skipped : is_due table t most heads ≡ false → AreHeads table most (t + 1) heads
  due_skipped h = head_skipped (λ (e : (step_at table t).count ≡ most) (more : 0 < most).
      ltb-false (length heads) most_chains (⊎_elim
      (λ (f : (eqb (step_at table t).count most && ltb 0 most) ≡ false). absurd (both_ways (eqb (step_at table t).count most && ltb 0 most) f
      (and_from (eqb (step_at table t).count most) (ltb 0 most) (eq-eqb (step_at table t).count most e) (lt-ltb 0 most more))))
      (λ (f : ltb (length heads) most_chains ≡ false). f)
      (and_cases (eqb (step_at table t).count most && ltb 0 most) (ltb (length heads) most_chains) h)))

pub no_heads : (table : List Step) (most : ℕ) (heads : List ℕ) → heads ≡ [] → AreHeads table most 0 heads
no_heads table most heads is = subst (AreHeads table most 0) (sym is) (record {
  have = λ k d lt. absurd (omega (arith, lt));
  rising = λ k lt. absurd (omega (arith, lt));
  few = omega arith;
  no_others = λ t lt e m. absurd (omega (arith, lt));
})

pub heads_within : (table : List Step) (most n : ℕ) (heads hs : List ℕ) → hs ≡ heads → AreHeads table most n heads → All (λ t. t < n) hs
heads_within table most n heads hs is are = subst (All (λ (t : ℕ). t < n)) (sym is) (λ k d lt. (are.have k d lt).0)
