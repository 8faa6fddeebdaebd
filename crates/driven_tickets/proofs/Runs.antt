-- What every desk keeps along a run of acts.
use Rattle.std.proofs.Common.{◌≡◌, ℕ, ◌<◌, ◌≤◌, List, [], ◌∷◌, ◌++◌, Some, None, true, false, cond, eqb, leb, refl, sym, ◌∙◌, ap, subst, append-nil, append_assoc, arith}
use Rattle.std.specs.List.{AllByRecursion}
use Rattle.std.proofs.lemmas.Bool.Decides.{nat_tests}
use Rattle.std.proofs.lemmas.Option.{same_Some, none-some}
use Rattle.std.proofs.lemmas.Bool.{eqb-true, leb-true, leb-false}
use Rattle.session_values.specs.declared.op.Op.{Op}
use Rattle.session_values.specs.declared.value.Value.{Value}
use Rattle.session_values.specs.Commuting.{Commute}
use Rattle.session_values.specs.Dialogue.{Entry}
use Rattle.session_values.specs.Tables.{Tables, reply, step}
use Rattle.session_values.proofs.Lists.{all_push, all_weaker}
use Rattle.symbolic_ops.specs.declared.symbol.Symbol.{Symbol}
use Rattle.symbolic_ops.specs.Matching.{Covered}
use Rattle.symbolic_ops.proofs.Above.{covered_matches}
use Rattle.symbolic_ops.specs.Commuting.{CommutesWithAll}
use Rattle.session_journal.specs.Journal.{DoneOperation, entry_of, in_order, by_ticket, run, Replays, InversionsCommute}
use Rattle.session_journal.proofs.Replay.{run-append, Replays-append}
use Rattle.session_journal.proofs.Regroup.{regrouped_replays, InversionsCommute-push}
use Rattle.driven_tickets.specs.Acts.{Act, Begins, Calls, Narrows, Ends, DeskState, HasBegun, HasCalled, HasNarrowed, HasEnded, Run, done_in, opened}

-- ---- one operation more
in_order-push : (ds : List DoneOperation) (d : DoneOperation) → in_order (ds ++ d ∷ []) ≡ in_order ds ++ entry_of d ∷ []
in_order-push [] d = refl
in_order-push (x ∷ ds) d = ap (λ (es : List Entry). entry_of x ∷ es) (in_order-push ds d)

-- ---- what is kept
-- every operation of a younger ticket commutes with all of a list that a ticket declares
abbrev Younger : ℕ → List Symbol → List DoneOperation → Type 0
Younger t f ds = AllByRecursion (λ d. t < d.ticket → CommutesWithAll d.op f) ds

record Keeps (ts : Tables) (p : DeskState) (ds : List DoneOperation) : Type 0 where
  replays : Replays ts (in_order ds)
  tables : p.tables ≡ run ts (in_order ds)
  inversions : InversionsCommute ds
  below : AllByRecursion (λ d. d.ticket < p.next) ds
  unborn : (t : ℕ) → p.next ≤ t → p.at t ≡ None
  free : (t : ℕ) (f : List Symbol) → p.at t ≡ Some f → Younger t f ds

-- an open ticket is below the next one
born : (ts : Tables) (p : DeskState) (ds : List DoneOperation) → Keeps ts p ds → (t : ℕ) (f : List Symbol) → p.at t ≡ Some f → t < p.next
born ts p ds k t f is = elim (leb p.next t) as (λ b. leb p.next t ≡ b → t < p.next) [
  | true ↦ λ e. absurd (none-some f (sym (k.unborn t (leb-true p.next t e)) ∙ is))
  | false ↦ λ e. leb-false p.next t e
] refl

-- a narrower list commutes with no less
narrower : (a : Op) (f g : List Symbol) → Covered g f → CommutesWithAll a f → CommutesWithAll a g
narrower a f g c h = record { each = λ b m. h.each b (covered_matches g f b c m) }

module _ (ts : Tables) (p q : DeskState) (ds : List DoneOperation) (k : Keeps ts p ds) where
  begun : (f : List Symbol) → HasBegun p q f → Keeps ts q ds
  begun f h = record {
    replays = k.replays;
    tables = h.tables_still ∙ k.tables;
    inversions = k.inversions;
    below = all_weaker (λ d. d.ticket < p.next) (λ d. d.ticket < q.next) (λ d l. omega (arith, l, h.next_more)) ds k.below;
    unborn = λ t l. h.at_is t ∙ ap (λ b. cond b (Some f) (p.at t)) (apart t p.next (omega (arith, l, h.next_more))) ∙ k.unborn t (omega (arith, l, h.next_more));
    free = λ t g is. elim (eqb t p.next) as (λ b. eqb t p.next ≡ b → Younger t g ds) [
      | true ↦ λ e. all_weaker (λ d. d.ticket < p.next) (λ d. t < d.ticket → CommutesWithAll d.op g) (λ d l m. absurd (omega (arith, l, m, eqb-true t p.next e))) ds k.below
      | false ↦ λ e. k.free t g (sym (h.at_is t ∙ ap (λ b. cond b (Some f) (p.at t)) e) ∙ is)
    ] refl;
  }
    where
      apart : (u t : ℕ) → t < u → eqb u t ≡ false
      apart u t l = grind (arith, nat_tests)

  called : (t : ℕ) (op : Op) (v : Value) → HasCalled p q t op v → Keeps ts q (ds ++ record { ticket = t; op = op; reply = v } ∷ [])
  called t op v h =
      let d : DoneOperation = record { ticket = t; op = op; reply = v } in
      let order : in_order (ds ++ d ∷ []) ≡ in_order ds ++ entry_of d ∷ [] = in_order-push ds d in
      let R : List Entry → Type 0 = λ es. Replays ts es in
      let told : reply (run ts (in_order ds)) op ≡ v = ap (λ us. reply us op) (sym k.tables) ∙ sym h.reply_is in
      let mine : Younger t h.declared ds = k.free t h.declared h.is in
      record {
        replays = subst R (sym order) (Replays-append ts (in_order ds) (entry_of d ∷ []) k.replays (told, tt));
        tables = h.tables_are ∙ ap (λ us. step us op) k.tables ∙ sym (ap (run ts) order ∙ run-append ts (in_order ds) (entry_of d ∷ []));
        inversions = InversionsCommute-push ds d k.inversions (all_weaker (λ x. t < x.ticket → CommutesWithAll x.op h.declared) (λ x. t < x.ticket → Commute x.op op) (λ x c l. (c l).each op h.matches) ds mine);
        below = all_push (λ x. x.ticket < q.next) ds d (all_weaker (λ x. x.ticket < p.next) (λ x. x.ticket < q.next) (λ x l. omega (arith, l, h.next_still)) ds k.below) (let l : t < p.next = born ts p ds k t h.declared h.is in omega (arith, l, h.next_still));
        unborn = λ u l. h.at_still u ∙ k.unborn u (omega (arith, l, h.next_still));
        free = λ u g is. let was : p.at u ≡ Some g = sym (h.at_still u) ∙ is in all_push (λ x. u < x.ticket → CommutesWithAll x.op g) ds d (k.free u g was) (λ l. h.free u g l was);
      }

  narrowed : (t : ℕ) (g : List Symbol) → HasNarrowed p q t g → Keeps ts q ds
  narrowed t g h =
      let l : t < p.next = born ts p ds k t h.declared h.is in
      record {
        replays = k.replays;
        tables = h.tables_still ∙ k.tables;
        inversions = k.inversions;
        below = all_weaker (λ d. d.ticket < p.next) (λ d. d.ticket < q.next) (λ d m. omega (arith, m, h.next_still)) ds k.below;
        unborn = λ u m. h.at_is u ∙ ap (λ b. cond b (Some g) (p.at u)) (apart u t p.next l (omega (arith, m, h.next_still))) ∙ k.unborn u (omega (arith, m, h.next_still));
        free = λ u f is. elim (eqb u t) as (λ b. eqb u t ≡ b → Younger u f ds) [
          | true ↦ λ e.
              let e_list : g ≡ f = same_Some g f (sym (h.at_is u ∙ ap (λ b. cond b (Some g) (p.at u)) e) ∙ is) in
              let at_u : p.at u ≡ Some h.declared = ap p.at (eqb-true u t e) ∙ h.is in
              let P : List Symbol → Type 0 = λ x. Younger u x ds in
              subst P e_list (all_weaker (λ d. u < d.ticket → CommutesWithAll d.op h.declared) (λ d. u < d.ticket → CommutesWithAll d.op g) (λ d c m. narrower d.op h.declared g h.covered (c m)) ds (k.free u h.declared at_u))
          | false ↦ λ e. k.free u f (sym (h.at_is u ∙ ap (λ b. cond b (Some g) (p.at u)) e) ∙ is)
        ] refl;
      }
    where
      apart : (u t n : ℕ) → t < n → n ≤ u → eqb u t ≡ false
      apart u t n l m = grind (arith, nat_tests)

  ended : (t : ℕ) → HasEnded p q t → Keeps ts q ds
  ended t h = record {
    replays = k.replays;
    tables = h.tables_still ∙ k.tables;
    inversions = k.inversions;
    below = all_weaker (λ d. d.ticket < p.next) (λ d. d.ticket < q.next) (λ d m. omega (arith, m, h.next_still)) ds k.below;
    unborn = λ u m. elim (eqb u t) as (λ b. eqb u t ≡ b → q.at u ≡ None) [
      | true ↦ λ e. h.at_is u ∙ ap (λ b. cond b None (p.at u)) e
      | false ↦ λ e. h.at_is u ∙ ap (λ b. cond b None (p.at u)) e ∙ k.unborn u (omega (arith, m, h.next_still))
    ] refl;
    free = λ u f is. elim (eqb u t) as (λ b. eqb u t ≡ b → Younger u f ds) [
      | true ↦ λ e. absurd (none-some f (sym (h.at_is u ∙ ap (λ b. cond b None (p.at u)) e) ∙ is))
      | false ↦ λ e. k.free u f (sym (h.at_is u ∙ ap (λ b. cond b None (p.at u)) e) ∙ is)
    ] refl;
  }

-- ---- runs
keeps : (ts : Tables) (p : DeskState) (acts : List Act) (q : DeskState) (ds : List DoneOperation) → Keeps ts p ds → Run p acts q → Keeps ts q (ds ++ done_in acts)
keeps ts p [] q ds k r =
    let P : DeskState → Type 0 = λ x. Keeps ts x (ds ++ []) in
    let Q : List DoneOperation → Type 0 = λ l. Keeps ts p l in
    subst P (sym r) (subst Q (sym (append-nil ds)) k)
keeps ts p (Begins f ∷ acts) q ds k r = keeps ts r.0 acts q ds (begun ts p r.0 ds k f r.1) r.2
keeps ts p (Calls t op v ∷ acts) q ds k r =
    let Q : List DoneOperation → Type 0 = λ l. Keeps ts q l in
    subst Q (append_assoc ds (record { ticket = t; op = op; reply = v } ∷ []) (done_in acts)) (keeps ts r.0 acts q (ds ++ record { ticket = t; op = op; reply = v } ∷ []) (called ts p r.0 ds k t op v r.1) r.2)
keeps ts p (Narrows t g ∷ acts) q ds k r = keeps ts r.0 acts q ds (narrowed ts p r.0 ds k t g r.1) r.2
keeps ts p (Ends t ∷ acts) q ds k r = keeps ts r.0 acts q ds (ended ts p r.0 ds k t r.1) r.2

first : (ts : Tables) → Keeps ts (opened ts) []
first ts = record { replays = tt; tables = refl; inversions = tt; below = tt; unborn = λ t l. refl; free = λ t f is. tt }

pub regroups_replay : (ts : Tables) (acts : List Act) (q : DeskState) → Run (opened ts) acts q → Replays ts (by_ticket q.next (done_in acts))
regroups_replay ts acts q r = let k : Keeps ts q (done_in acts) = keeps ts (opened ts) acts q [] (first ts) r in (regrouped_replays q.next ts (done_in acts) k.below k.inversions k.replays).replays

pub regroups_tables : (ts : Tables) (acts : List Act) (q : DeskState) → Run (opened ts) acts q → run ts (by_ticket q.next (done_in acts)) ≡ q.tables
regroups_tables ts acts q r = let k : Keeps ts q (done_in acts) = keeps ts (opened ts) acts q [] (first ts) r in (regrouped_replays q.next ts (done_in acts) k.below k.inversions k.replays).same ∙ sym k.tables
