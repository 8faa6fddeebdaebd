-- A list that replays, regrouped by ticket, replays too.
use Rattle.std.proofs.Common.{◌≡◌, ℕ, zero, suc, ◌<◌, ◌≤◌, List, [], ◌∷◌, ◌++◌, true, false, cond, eqb, refl, sym, ◌∙◌, ap, subst, arith}
use Rattle.std.specs.List.{AllByRecursion}
use Rattle.std.proofs.lemmas.Bool.Decides.{nat_tests}
use Rattle.session_values.specs.declared.op.Op.{Op}
use Rattle.session_values.specs.Tables.{Tables, step}
use Rattle.session_values.specs.Commuting.{Commute}
use Rattle.session_values.specs.Dialogue.{Entry}
use Rattle.session_values.proofs.Numbers.{lesser}
use Rattle.session_journal.specs.Journal.{DoneOperation, entry_of, of_ticket, in_order, by_ticket, run, Replays, InversionsCommute}
use Rattle.session_journal.proofs.Replay.{run-append, Replays-append, Replays-front, Replays-back, Instead, moves_right}
use Rattle.session_values.proofs.Lists.{all_push}

-- the done_operations of other tickets
abbrev without : ℕ → List DoneOperation → List DoneOperation
without t [] = []
without t (d ∷ ds) = cond (eqb d.ticket t) (without t ds) (d ∷ without t ds)

module _ (P Q : DoneOperation → Type 0) (t : ℕ) where
  All-without : ((d : DoneOperation) → P d → eqb d.ticket t ≡ false → Q d) → (ds : List DoneOperation) → AllByRecursion P ds → AllByRecursion Q (without t ds)
  All-without f [] a = tt
  All-without f (d ∷ ds) a =
      elim (eqb d.ticket t) as (λ b. eqb d.ticket t ≡ b → AllByRecursion Q (cond b (without t ds) (d ∷ without t ds))) [
        | true ↦ λ e. All-without f ds a.1
        | false ↦ λ e. (f d a.0 e, All-without f ds a.1)
      ] refl

InversionsCommute-without : (t : ℕ) (ds : List DoneOperation) → InversionsCommute ds → InversionsCommute (without t ds)
InversionsCommute-without t [] c = tt
InversionsCommute-without t (d ∷ ds) c =
    elim (eqb d.ticket t) as (λ b. InversionsCommute (cond b (without t ds) (d ∷ without t ds))) [
      | true ↦ InversionsCommute-without t ds c.1
      | false ↦ (All-without _ _ t (λ e h _. h) ds c.0, InversionsCommute-without t ds c.1)
    ]

All-in_order : (P : Op → Type 0) (ds : List DoneOperation) → AllByRecursion (λ d. P d.op) ds → AllByRecursion (λ e. P e.op) (in_order ds)
All-in_order P [] a = tt
All-in_order P (d ∷ ds) a = (a.0, All-in_order P ds a.1)

both : (P Q : DoneOperation → Type 0) (ds : List DoneOperation) → AllByRecursion P ds → AllByRecursion Q ds → AllByRecursion (λ d. P d × Q d) ds
both P Q [] a b = tt
both P Q (d ∷ ds) a b = ((a.0, b.0), both P Q ds a.1 b.1)

below_it : (a b n : ℕ) → a < suc n → eqb a n ≡ false → eqb b n ≡ true → a < b
below_it a b n h e f = grind (arith, nat_tests)

-- the done_operations of the youngest ticket move to the end
youngest_last : (ts : Tables) (n : ℕ) (ds : List DoneOperation) → AllByRecursion (λ d. d.ticket < suc n) ds → InversionsCommute ds → Replays ts (in_order ds) → Instead ts (in_order ds) (in_order (without n ds) ++ of_ticket n ds)
youngest_last ts n [] b c h = record { replays = h; same = refl }
youngest_last ts n (d ∷ ds) b c h =
    let m : Instead (step ts d.op) (in_order ds) (in_order (without n ds) ++ of_ticket n ds) = youngest_last (step ts d.op) n ds b.1 c.1 h.1 in
    elim (eqb d.ticket n) as (λ v. eqb d.ticket n ≡ v → Instead ts (in_order (d ∷ ds)) (in_order (cond v (without n ds) (d ∷ without n ds)) ++ cond v (entry_of d ∷ of_ticket n ds) (of_ticket n ds))) [
      | true ↦ λ e.
          let older : (x : DoneOperation) → (x.ticket < suc n) × (x.ticket < d.ticket → Commute d.op x.op) → eqb x.ticket n ≡ false → Commute d.op x.op = λ x k o. k.1 (below_it x.ticket d.ticket n k.0 o e) in
          let free : AllByRecursion (λ x. Commute d.op x.op) (without n ds) = All-without _ _ n older ds (both _ _ ds b.1 c.0) in
          let r : Instead ts (entry_of d ∷ in_order (without n ds) ++ of_ticket n ds) (in_order (without n ds) ++ entry_of d ∷ of_ticket n ds) = moves_right ts (entry_of d) (in_order (without n ds)) (of_ticket n ds) (All-in_order (λ o. Commute d.op o) (without n ds) free) (h.0, m.replays) in
          record { replays = r.replays; same = r.same ∙ m.same }
      | false ↦ λ e. record { replays = (h.0, m.replays); same = m.same }
    ] refl

of_ticket-without : (t n : ℕ) (ds : List DoneOperation) → eqb t n ≡ false → of_ticket t (without n ds) ≡ of_ticket t ds
of_ticket-without t n [] e = refl
of_ticket-without t n (d ∷ ds) e =
    elim (eqb d.ticket n) as (λ v. eqb d.ticket n ≡ v → of_ticket t (cond v (without n ds) (d ∷ without n ds)) ≡ cond (eqb d.ticket t) (entry_of d ∷ of_ticket t ds) (of_ticket t ds)) [
      | true ↦ λ f.
          let g : eqb d.ticket t ≡ false = apart d.ticket t n e f in
          of_ticket-without t n ds e ∙ ap (λ v. cond v (entry_of d ∷ of_ticket t ds) (of_ticket t ds)) (sym g)
      | false ↦ λ f. λ i. cond (eqb d.ticket t) (entry_of d ∷ of_ticket-without t n ds e i) (of_ticket-without t n ds e i)
    ] refl
  where
    apart : (a t n : ℕ) → eqb t n ≡ false → eqb a n ≡ true → eqb a t ≡ false
    apart a t n e f = grind (arith, nat_tests)

by_ticket-without : (m n : ℕ) (ds : List DoneOperation) → m ≤ n → by_ticket m (without n ds) ≡ by_ticket m ds
by_ticket-without zero n ds h = refl
by_ticket-without (suc m) n ds h = λ i. by_ticket-without m n ds (omega arith) i ++ of_ticket-without m n ds (other m n h) i
  where
    other : (m n : ℕ) → suc m ≤ n → eqb m n ≡ false
    other m n h = grind (arith, nat_tests)

-- where younger done_operations that stand before older ones commute with them, the list regrouped by ticket replays and leaves the same tables
pub regrouped_replays : (n : ℕ) (ts : Tables) (ds : List DoneOperation) → AllByRecursion (λ d. d.ticket < n) ds → InversionsCommute ds → Replays ts (in_order ds) → Instead ts (in_order ds) (by_ticket n ds)
regrouped_replays zero ts [] b c h = record { replays = tt; same = refl }
regrouped_replays zero ts (d ∷ ds) b c h = absurd (omega (arith, b.0))
regrouped_replays (suc n) ts ds b c h =
    let m : Instead ts (in_order ds) (in_order (without n ds) ++ of_ticket n ds) = youngest_last ts n ds b c h in
    let front : Instead ts (in_order (without n ds)) (by_ticket n (without n ds)) = regrouped_replays n ts (without n ds) (All-without _ _ n (λ d k e. lesser d.ticket n k e) ds b) (InversionsCommute-without n ds c) (Replays-front ts _ _ m.replays) in
    let same : by_ticket n (without n ds) ≡ by_ticket n ds = by_ticket-without n n ds (omega arith) in
    let back : Replays (run ts (by_ticket n (without n ds))) (of_ticket n ds) = subst (λ (us : Tables). Replays us (of_ticket n ds)) (sym front.same) (Replays-back ts _ _ m.replays) in
    subst (λ (es : List Entry). Instead ts (in_order ds) (es ++ of_ticket n ds)) same (record {
      replays = Replays-append ts _ _ front.replays back;
      same = run-append ts (by_ticket n (without n ds)) (of_ticket n ds) ∙ ap (λ (us : Tables). run us (of_ticket n ds)) front.same ∙ sym (run-append ts (in_order (without n ds)) (of_ticket n ds)) ∙ m.same;
    })

-- ---- one operation more
pub InversionsCommute-push : (ds : List DoneOperation) (d : DoneOperation) → InversionsCommute ds → AllByRecursion (λ e. d.ticket < e.ticket → Commute e.op d.op) ds → InversionsCommute (ds ++ d ∷ [])
InversionsCommute-push [] d c a = (tt, tt)
InversionsCommute-push (x ∷ ds) d c a = (all_push (λ (e : DoneOperation). e.ticket < x.ticket → Commute x.op e.op) ds d c.0 a.0, InversionsCommute-push ds d c.1 a.1)
