-- A table of steps behind one more link.
use Rattle.std.proofs.Common.{◌≡◌, ℕ, ◌+◌, ◌<◌, ◌≤◌, ⊎_elim, Bool, true, false, cond, ltb, List, ◌++◌, length, get_or, set, take, drop, append-nil, refl, sym, ap, ◌∙◌, subst, arith, below_more}
use Rattle.std.specs.List.{All}
use Rattle.std.specs.List.Sorted.{IsNonDecreasingBy}
use Rattle.std.proofs.lemmas.Bool.{cases_eq, ltb-true, ltb-false}
use Rattle.std.proofs.lemmas.List.{drop_all, get_or-set_same, get_or-set_other, get_or_default, get_or_read, length-set, take_all}
use Rattle.waiting_pairs.specs.declared.links.Link.{Link}
use Rattle.waiting_pairs.specs.declared.links.Step.{Step}
use Rattle.waiting_pairs.specs.Steps.{IsSettled, IsStep, IsTable, link_at, no_link, no_step, raised, step_at}

-- the link from a ticket by its step
abbrev linked_by : ℕ → Step → Link
linked_by t s = record { ticket = t; older = s.next }

later : (ls : List Link) (i : ℕ) (table : List Step) (t : ℕ) → IsStep ls i table t → IsStep ls (i + 1) table t
later ls i table t s = record { at = s.at; before = omega (arith, s.before); link = s.link; less = s.less }

module _ (n : ℕ) (ls : List Link) (inside : All (λ (l : Link). (l.older < l.ticket) × (l.ticket < n)) ls) (sorted : IsNonDecreasingBy (λ (l : Link). l.ticket) ls)
    (i : ℕ) (lt : i < length ls) (l : Link) (at : link_at ls i ≡ l) (table : List Step) (fits : IsTable n table) (settled : IsSettled ls i table) where
  kept : (step_at table l.older).count < (step_at table l.ticket).count → IsSettled ls (i + 1) table
  kept h = record {
    above = below_more (λ k. (step_at table (link_at ls k).older).count < (step_at table (link_at ls k).ticket).count) i settled.above
        (subst (λ (z : Link). (step_at table z.older).count < (step_at table z.ticket).count) (sym at) h);
    steps = λ t more. later ls i table t (settled.steps t more);
  }

  own_older : l.older < l.ticket
  own_older = subst (λ (z : Link). z.older < z.ticket) at (inside i no_link lt).0

  own_ticket : l.ticket < n
  own_ticket = subst (λ (z : Link). z.ticket < n) at (inside i no_link lt).1

  -- the older tickets of the first links are less than the last one's ticket
  lower : (k : ℕ) → k < i + 1 → (link_at ls k).older < l.ticket
  lower k h = omega (arith, (inside k no_link (omega (arith, h, lt))).0, sorted k i no_link (omega (arith, h)) lt, ap (λ (z : Link). z.ticket) at)

  module _ (new : List Step) (is_new : new ≡ set table l.ticket (record { count = (step_at table l.older).count + 1; next = l.older }))
      (ge : (step_at table l.ticket).count ≤ (step_at table l.older).count) where
    other : (t : ℕ) → (t ≡ l.ticket → ⊥) → step_at new t ≡ step_at table t
    other t ne = ap (λ (z : List Step). step_at z t) is_new ∙ get_or-set_other table l.ticket t (record { count = (step_at table l.older).count + 1; next = l.older }) no_step ne

    own : step_at new l.ticket ≡ record { count = (step_at table l.older).count + 1; next = l.older }
    own = ap (λ (z : List Step). step_at z l.ticket) is_new
        ∙ get_or-set_same table l.ticket (record { count = (step_at table l.older).count + 1; next = l.older }) no_step (omega (arith, fits.sized, own_ticket))

    own_at : (t : ℕ) → t ≡ l.ticket → step_at new t ≡ record { count = (step_at table l.older).count + 1; next = l.older }
    own_at t e = ap (step_at new) e ∙ own

    older_same : (k : ℕ) → k < i + 1 → (step_at new (link_at ls k).older).count ≡ (step_at table (link_at ls k).older).count
    older_same k h = ap (λ (s : Step). s.count) (other (link_at ls k).older (λ e. absurd (omega (arith, e, lower k h))))

    -- ---- above
    above_before : (k : ℕ) → k < i → (step_at new (link_at ls k).older).count < (step_at new (link_at ls k).ticket).count
    above_before k h = ⊎_elim
        (λ (e : (link_at ls k).ticket ≡ l.ticket). omega (arith, older_same k (omega (arith, h)), settled.above k h, ap (λ (z : ℕ). (step_at table z).count) e, ge, ap (λ (s : Step). s.count) (own_at (link_at ls k).ticket e)))
        (λ (ne : (link_at ls k).ticket ≡ l.ticket → ⊥). omega (arith, older_same k (omega (arith, h)), settled.above k h, ap (λ (s : Step). s.count) (other (link_at ls k).ticket ne)))
        (cases_eq (link_at ls k).ticket l.ticket)

    above_here : (step_at new (link_at ls i).older).count < (step_at new (link_at ls i).ticket).count
    above_here = omega (arith, older_same i (omega arith), ap (λ (z : Link). (step_at table z.older).count) at, ap (λ (s : Step). s.count) (own_at (link_at ls i).ticket (ap (λ (z : Link). z.ticket) at)))

    -- ---- steps
    step_own : (t : ℕ) → t ≡ l.ticket → IsStep ls (i + 1) new t
    step_own t e = record {
      at = i;
      before = omega arith;
      link = at ∙ own_link;
      less = ap (λ (s : Step). s.count) (own_at t e) ∙ ap (λ (z : ℕ). z + 1) (sym (ap (λ (z : ℕ). (step_at new z).count) (ap (λ (s : Step). s.next) (own_at t e)) ∙ same_older));
    }
      where
        own_link : l ≡ record { ticket = t; older = (step_at new t).next }
        own_link = λ j. record { ticket = sym e j; older = sym (ap (λ (s : Step). s.next) (own_at t e)) j }

        same_older : (step_at new l.older).count ≡ (step_at table l.older).count
        same_older = ap (λ (s : Step). s.count) (other l.older (λ q. absurd (omega (arith, q, own_older))))

    step_other : (t : ℕ) → (t ≡ l.ticket → ⊥) → IsStep ls i table t → IsStep ls (i + 1) new t
    step_other t ne s = record {
      at = s.at;
      before = omega (arith, s.before);
      link = s.link ∙ ap (linked_by t) (sym (other t ne));
      less = ap (λ (z : Step). z.count) (other t ne) ∙ s.less ∙ ap (λ (z : ℕ). z + 1) (sym (ap (λ (z : Step). (step_at new z.next).count) (other t ne) ∙ next_same));
    }
      where
        next_low : (step_at table t).next < l.ticket
        next_low = omega (arith, lower s.at (omega (arith, s.before)), ap (λ (z : Link). z.older) s.link)

        next_same : (step_at new (step_at table t).next).count ≡ (step_at table (step_at table t).next).count
        next_same = ap (λ (z : Step). z.count) (other (step_at table t).next (λ q. absurd (omega (arith, q, next_low))))

    step_new : (t : ℕ) → 0 < (step_at new t).count → IsStep ls (i + 1) new t
    step_new t h = ⊎_elim (step_own t) (λ (ne : t ≡ l.ticket → ⊥). step_other t ne (settled.steps t (omega (arith, h, ap (λ (z : Step). z.count) (other t ne))))) (cases_eq t l.ticket)

    raised_settled : IsSettled ls (i + 1) new
    raised_settled = record {
      above = below_more (λ k. (step_at new (link_at ls k).older).count < (step_at new (link_at ls k).ticket).count) i above_before above_here;
      steps = step_new;
    }

    -- ---- the table
    raised_fits : IsTable n new
    raised_fits = record {
      sized = ap length is_new ∙ length-set table l.ticket (record { count = (step_at table l.older).count + 1; next = l.older }) ∙ fits.sized;
      low = λ t. ⊎_elim
          (λ (e : t ≡ l.ticket). omega (arith, e, ap (λ (z : Step). z.count) (own_at t e), fits.low l.older, own_older))
          (λ (ne : t ≡ l.ticket → ⊥). omega (arith, ap (λ (z : Step). z.count) (other t ne), fits.low t))
          (cases_eq t l.ticket);
      within = λ t h. ⊎_elim
          (λ (e : t ≡ l.ticket). omega (arith, ap (λ (z : Step). z.next) (own_at t e), own_older, own_ticket))
          (λ (ne : t ≡ l.ticket → ⊥). omega (arith, ap (λ (z : Step). z.next) (other t ne), fits.within t h))
          (cases_eq t l.ticket);
    }

  both : (new : List Step) (b : Bool) → ltb (step_at table l.older).count (step_at table l.ticket).count ≡ b
      → new ≡ cond b table (set table l.ticket (record { count = (step_at table l.older).count + 1; next = l.older })) → IsTable n new × IsSettled ls (i + 1) new
  both new true h is = (subst (IsTable n) (sym is) fits, subst (IsSettled ls (i + 1)) (sym is) (kept (ltb-true (step_at table l.older).count (step_at table l.ticket).count h)))
  both new false h is =
      let ge : (step_at table l.ticket).count ≤ (step_at table l.older).count = ltb-false (step_at table l.older).count (step_at table l.ticket).count h in
      (raised_fits new is ge, raised_settled new is ge)

-- the table behind the next link
pub settled_more : (n : ℕ) (ls : List Link) → All (λ (l : Link). (l.older < l.ticket) × (l.ticket < n)) ls → IsNonDecreasingBy (λ (l : Link). l.ticket) ls
    → (i : ℕ) (l : Link) → i < length ls → l ≡ get_or ls i l → (table new : List Step) → new ≡ raised table l
    → IsTable n table × IsSettled ls i table → IsTable n new × IsSettled ls (i + 1) new
settled_more n ls inside sorted i l lt is table new e so_far =
    both n ls inside sorted i lt l (sym (get_or_read ls i l lt is no_link)) table so_far.0 so_far.1 new (ltb (step_at table l.older).count (step_at table l.ticket).count) refl e

-- the same of what a vector holds behind a write through a slice of it
pub settled_behind : (n : ℕ) (ls : List Link) → All (λ (l : Link). (l.older < l.ticket) × (l.ticket < n)) ls → IsNonDecreasingBy (λ (l : Link). l.ticket) ls
    → (i : ℕ) (d : Link) → i < length ls → (table seen new : List Step) (len : ℕ) → seen ≡ table → new ≡ raised seen (get_or ls i d) → len ≡ length table
    → IsTable n table × IsSettled ls i table
    → IsTable n (take len (new ++ drop (length new) table)) × IsSettled ls (i + 1) (take len (new ++ drop (length new) table))
settled_behind n ls inside sorted i d lt table seen new len same e sized so_far =
    let behind = settled_more n ls inside sorted i (get_or ls i d) lt (get_or_default ls i d (get_or ls i d) lt) table new (e ∙ ap (λ (z : List Step). raised z (get_or ls i d)) same) so_far in
    let long : length new ≡ length table = omega (arith, behind.0.sized, so_far.0.sized) in
    let whole : take len (new ++ drop (length new) table) ≡ new =
    ap (λ (z : List Step). take len (new ++ z)) (drop_all (length new) table (omega (arith, long))) ∙ ap (take len) (append-nil new) ∙ take_all len new (omega (arith, long, sized)) in
    subst (λ (z : List Step). IsTable n z × IsSettled ls (i + 1) z) (sym whole) behind
