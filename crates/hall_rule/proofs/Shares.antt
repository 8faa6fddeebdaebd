-- What an operation that is done changes of the shares.
use Rattle.std.proofs.Common.{◌≡◌, ◌≢◌, ℕ, zero, suc, ◌+◌, ◌/◌, ◌%◌, ◌<◌, ◌≤◌, inl, inr, ◌&&◌, List, [], ◌∷◌, ◌++◌, length, map as map_list, Some, Bool, true, false, eqb, refl, sym, ◌∙◌, ap, subst, append-nil, arith}
use Rattle.std.specs.Prelude.{slice_get}
use Rattle.std.specs.FinMap as map
use Rattle.std.specs.FinSet as set
use Rattle.std.proofs.lemmas.List.{get_or-set_same, get_or-set_other, length-map, length-set, set_past}
use Rattle.std.proofs.lemmas.Bool.{eq-eqb, eqb-true, eqb-false, cases_lt}
use Rattle.std.proofs.lemmas.Option.{none-some, same_Some, slice_get_within}
use Rattle.session_values.proofs.Puts.{kind_after}
use Rattle.session_values.specs.declared.kind.Kind.{Kind}
use Rattle.session_values.specs.declared.kind.Kind.TheVariants.{Get, Put, Swap, Del, Size, Bump, Has, Add, Mark, Drop, Count}
use Rattle.session_values.specs.declared.kind.TableKind.{TableKind}
use Rattle.session_values.specs.declared.kind.TableKind.TheVariants.{Map}
use Rattle.session_values.specs.declared.op.Op.{Op}
use Rattle.session_values.specs.declared.value.Value.{Value}
use Rattle.session_values.specs.Dialogue.{Entry}
use Rattle.session_values.specs.Kinds.{arguments, is_adding}
use Rattle.session_values.specs.Tables.{Container, Bindings, Members, Tables, empty_of, table, reply, step, reply_on, after_on, map_after, set_after, kind_of, size_of}
use Rattle.session_values.specs.Values.{value_cmp}
use Rattle.session_journal.specs.declared.event.Event.{Event}
use Rattle.session_journal.specs.declared.event.Event.TheVariants.{Done}
use Rattle.session_journal.specs.Journal.{DoneOperation, done_operations, in_order, run}
use Rattle.session_values.proofs.Sizes.{on_few, one_if}
use Rattle.session_values.proofs.Numbers.{one_zero, two_zero}
use Rattle.session_journal.specs.Script.{Meaning, adds_on}
use Rattle.session_journal.proofs.Replay.{run-append}
use Rattle.shard_tables.specs.Parts.{part, shard_of}
use Rattle.shard_tables.proofs.PartSteps.{part_after, part_stays, part_reply, part_kind}
use Rattle.session_journal.proofs.Events.{done_operations-append, in_order-append}
use Rattle.hall_rule.specs.Contents.{shards_in, share, opening_tables, tables_after}
use Rattle.hall_rule.specs.Turns.{IsTurnOf}

-- ---- an operation without a key changes nothing
map_stays : (m : map.FinMap value_cmp Value) (k : Kind) (key value : Value) → arguments k ≡ 0 → map_after m k key value ≡ m
map_stays m Get key value h = refl
map_stays m Put key value h = absurd (two_zero h)
map_stays m Swap key value h = absurd (two_zero h)
map_stays m Del key value h = absurd (one_zero h)
map_stays m Size key value h = refl
map_stays m Bump key value h = absurd (two_zero h)
map_stays m Has key value h = refl
map_stays m Add key value h = refl
map_stays m Mark key value h = refl
map_stays m Drop key value h = refl
map_stays m Count key value h = refl

set_stays : (s : set.FinSet value_cmp) (k : Kind) (key : Value) → arguments k ≡ 0 → set_after s k key ≡ s
set_stays s Get key h = refl
set_stays s Put key h = refl
set_stays s Swap key h = refl
set_stays s Del key h = refl
set_stays s Size key h = refl
set_stays s Bump key h = refl
set_stays s Has key h = refl
set_stays s Add key h = absurd (one_zero h)
set_stays s Mark key h = absurd (one_zero h)
set_stays s Drop key h = absurd (one_zero h)
set_stays s Count key h = refl

pub keyless_stays : (c : Container) (op : Op) → arguments op.kind ≡ 0 → after_on c op ≡ c
keyless_stays (Bindings m) op h = ap Bindings (map_stays m op.kind op.key op.value h)
keyless_stays (Members s) op h = ap Members (set_stays s op.kind op.key h)

-- ---- the tables after the operation
pub after-done : (m : Meaning) (J : List Event) (t : ℕ) (op : Op) (r : Value) → tables_after m (J ++ Done t op r ∷ []) ≡ step (tables_after m J) op
after-done m J t op r =
    ap (λ (ds : List DoneOperation). run (opening_tables m) (in_order ds)) (done_operations-append J (Done t op r ∷ []))
    ∙ ap (run (opening_tables m)) (in_order-append (done_operations J) (record { ticket = t; op = op; reply = r } ∷ []))
    ∙ run-append (opening_tables m) (in_order (done_operations J)) (record { op = op; reply = r } ∷ [])

after-quiet : (m : Meaning) (J more : List Event) → done_operations more ≡ [] → tables_after m (J ++ more) ≡ tables_after m J
after-quiet m J more e = ap (λ (ds : List DoneOperation). run (opening_tables m) (in_order ds)) (done_operations-append J more ∙ ap (λ (ds : List DoneOperation). done_operations J ++ ds) e ∙ append-nil (done_operations J))

length-step : (ts : Tables) (op : Op) → length (step ts op) ≡ length ts
unfolding step
length-step ts op = length-set ts op.table (after_on (table ts op.table) op)

length-run : (ts : Tables) (es : List Entry) → length (run ts es) ≡ length ts
length-run ts [] = refl
length-run ts (e ∷ es) = length-run (step ts e.op) es ∙ length-step ts e.op

pub length-opening : (m : Meaning) → map_list kind_of (opening_tables m) ≡ m.shape → length (opening_tables m) ≡ length m.shape
length-opening m o = sym (length-map (opening_tables m) kind_of) ∙ ap length o

pub length-after : (m : Meaning) → map_list kind_of (opening_tables m) ≡ m.shape → (J : List Event) → length (tables_after m J) ≡ length m.shape
length-after m o J = length-run (opening_tables m) (in_order (done_operations J)) ∙ length-opening m o

table-step : (ts : Tables) (op : Op) → op.table < length ts → table (step ts op) op.table ≡ after_on (table ts op.table) op
unfolding step
table-step ts op l = get_or-set_same ts op.table (after_on (table ts op.table) op) (empty_of Map) l

table-step_other : (ts : Tables) (op : Op) (i : ℕ) → i ≢ op.table → table (step ts op) i ≡ table ts i
unfolding step
table-step_other ts op i n = get_or-set_other ts op.table i (after_on (table ts op.table) op) (empty_of Map) n

pub reply-is : (ts : Tables) (op : Op) → reply ts op ≡ reply_on (table ts op.table) op
unfolding reply
reply-is ts op = refl

-- ---- the kind of a share is its table's

kind_step : (ts : Tables) (op : Op) (i : ℕ) → i < length ts → kind_of (table (step ts op) i) ≡ kind_of (table ts i)
kind_step ts op i l = go (eqb i op.table) refl
  where
    go : (b : Bool) → eqb i op.table ≡ b → kind_of (table (step ts op) i) ≡ kind_of (table ts i)
    go true e =
        let z : i ≡ op.table = eqb-true i op.table e in
        ap (λ (a : ℕ). kind_of (table (step ts op) a)) z ∙ ap kind_of (table-step ts op (omega (arith, z, l))) ∙ kind_after (table ts op.table) op ∙ ap (λ (a : ℕ). kind_of (table ts a)) (sym z)
    go false e = ap kind_of (table-step_other ts op i (eqb-false i op.table e))

kind_run : (ts : Tables) (es : List Entry) (i : ℕ) → i < length ts → kind_of (table (run ts es) i) ≡ kind_of (table ts i)
kind_run ts [] i l = refl
kind_run ts (e ∷ es) i l = kind_run (step ts e.op) es i (omega (arith, l, length-step ts e.op)) ∙ kind_step ts e.op i l

kind_at : (ts : Tables) (i : ℕ) (k : TableKind) → slice_get (map_list kind_of ts) i ≡ Some k → kind_of (table ts i) ≡ k
kind_at [] i k e = absurd (none-some k e)
kind_at (c ∷ ts) zero k e = same_Some (kind_of c) k e
kind_at (c ∷ ts) (suc i) k e = kind_at ts i k e

pub kind_table : (m : Meaning) → map_list kind_of (opening_tables m) ≡ m.shape → (J : List Event) (i : ℕ) (k : TableKind) → slice_get m.shape i ≡ Some k → kind_of (table (tables_after m J) i) ≡ k
kind_table m o J i k e =
    let l : i < length (opening_tables m) = omega (arith, slice_get_within m.shape i k e, length-opening m o) in
    kind_run (opening_tables m) (in_order (done_operations J)) i l ∙ kind_at (opening_tables m) i k (ap (λ (ks : List TableKind). slice_get ks i) o ∙ e)

pub kind_share : (m : Meaning) → map_list kind_of (opening_tables m) ≡ m.shape → (turns : ℕ) (J : List Event) (j i : ℕ) (k : TableKind) → j / shards_in m turns ≡ i → slice_get m.shape i ≡ Some k → kind_of (share m turns J j) ≡ k
kind_share m o turns J j i k at e =
    part_kind (shards_in m turns) (j % shards_in m turns) (table (tables_after m J) (j / shards_in m turns))
    ∙ ap (λ (a : ℕ). kind_of (table (tables_after m J) a)) at
    ∙ kind_table m o J i k e

-- ---- how many keys a part has after a list of operations
one_part : (n j : ℕ) (c : Container) (op : Op) → size_of (part n j (after_on c op)) ≤ size_of (part n j c) + one_if (is_adding op.kind)
one_part n j c op = go (eqb (shard_of n op.key) j) refl
  where
    go : (b : Bool) → eqb (shard_of n op.key) j ≡ b → size_of (part n j (after_on c op)) ≤ size_of (part n j c) + one_if (is_adding op.kind)
    go true e = let q : size_of (part n j (after_on c op)) ≡ size_of (after_on (part n j c) op) = ap size_of (part_after (λ k. eqb (shard_of n k) j) c op e) in omega (arith, q, on_few (part n j c) op)
    go false e = let q : size_of (part n j (after_on c op)) ≡ size_of (part n j c) = ap size_of (part_stays (λ k. eqb (shard_of n k) j) c op e) in omega (arith, q)

step_past : (ts : Tables) (op : Op) → length ts ≤ op.table → step ts op ≡ ts
unfolding step
step_past ts op l = set_past ts op.table (after_on (table ts op.table) op) l

part_step_few : (n j : ℕ) (ts : Tables) (op : Op) (i : ℕ) → size_of (part n j (table (step ts op) i)) ≤ size_of (part n j (table ts i)) + one_if (is_adding op.kind && eqb op.table i)
part_step_few n j ts op i = by_table (eqb op.table i) refl
  where
    and_true : (b : Bool) → (b && true) ≡ b
    and_true true = refl
    and_true false = refl

    here : i ≡ op.table → size_of (part n j (table (step ts op) i)) ≤ size_of (part n j (table ts i)) + one_if (is_adding op.kind)
    here e = elim (cases_lt op.table (length ts)) [
      | inl l ↦
          let P : ℕ → Type 0 = λ k. size_of (part n j (table (step ts op) k)) ≤ size_of (part n j (table ts k)) + one_if (is_adding op.kind) in
          let q : size_of (part n j (table (step ts op) op.table)) ≡ size_of (part n j (after_on (table ts op.table) op)) = ap (λ (c : Container). size_of (part n j c)) (table-step ts op l) in
          subst P (sym e) (omega (arith, q, one_part n j (table ts op.table) op))
      | inr g ↦ let q : size_of (part n j (table (step ts op) i)) ≡ size_of (part n j (table ts i)) = ap (λ (us : Tables). size_of (part n j (table us i))) (step_past ts op g) in omega (arith, q)
    ]

    by_table : (b : Bool) → eqb op.table i ≡ b → size_of (part n j (table (step ts op) i)) ≤ size_of (part n j (table ts i)) + one_if (is_adding op.kind && eqb op.table i)
    by_table true e =
        let q : one_if (is_adding op.kind && eqb op.table i) ≡ one_if (is_adding op.kind) = ap (λ (b : Bool). one_if (is_adding op.kind && b)) e ∙ ap one_if (and_true (is_adding op.kind)) in
        omega (arith, q, here (sym (eqb-true op.table i e)))
    by_table false e = let q : size_of (part n j (table (step ts op) i)) ≡ size_of (part n j (table ts i)) = ap (λ (c : Container). size_of (part n j c)) (table-step_other ts op i (λ z. eqb-false op.table i e (sym z))) in omega (arith, q)

part_run_few : (n j : ℕ) (ts : Tables) (es : List Entry) (i : ℕ) → size_of (part n j (table (run ts es) i)) ≤ size_of (part n j (table ts i)) + adds_on i es
part_run_few n j ts [] i = omega arith
part_run_few n j ts (e ∷ es) i = omega (arith, part_run_few n j (step ts e.op) es i, part_step_few n j ts e.op i)

-- a share has no more keys than it opens with and adding operations were done on its table
pub share_few : (m : Meaning) (turns : ℕ) (J : List Event) (j : ℕ) → size_of (share m turns J j) ≤ size_of (share m turns [] j) + adds_on (j / shards_in m turns) (in_order (done_operations J))
share_few m turns J j = part_run_few (shards_in m turns) (j % shards_in m turns) (opening_tables m) (in_order (done_operations J)) (j / shards_in m turns)

-- ---- the shares after the operation
pub share_quiet : (m : Meaning) (turns : ℕ) (J more : List Event) (j : ℕ) → done_operations more ≡ [] → share m turns J j ≡ share m turns (J ++ more) j
share_quiet m turns J more j e = ap (λ (ts : Tables). part (shards_in m turns) (j % shards_in m turns) (table ts (j / shards_in m turns))) (sym (after-quiet m J more e))

module _ (m : Meaning) (o : map_list kind_of (opening_tables m) ≡ m.shape) (turns : ℕ) (J : List Event) (t : ℕ) (op : Op) (r : Value) (l : op.table < length m.shape) where
  abbrev n : ℕ
  n = shards_in m turns

  abbrev K : List Event
  K = J ++ Done t op r ∷ []

  low : op.table < length (tables_after m J)
  low = omega (arith, l, length-after m o J)

  -- where the part of the operation's table goes over into what the operation makes of it
  at_table : (j : ℕ) (f : Container → Container) → j / n ≡ op.table → part n (j % n) (after_on (table (tables_after m J) op.table) op) ≡ f (part n (j % n) (table (tables_after m J) op.table)) → share m turns K j ≡ f (share m turns J j)
  at_table j f at h =
      let P : ℕ → Type 0 = λ i. part n (j % n) (table (tables_after m K) i) ≡ f (part n (j % n) (table (tables_after m J) i)) in
      subst P (sym at) (ap (λ (ts : Tables). part n (j % n) (table ts op.table)) (after-done m J t op r) ∙ ap (part n (j % n)) (table-step (tables_after m J) op low) ∙ h)

  share_elsewhere : (j : ℕ) → j / n ≢ op.table → share m turns K j ≡ share m turns J j
  share_elsewhere j apart = ap (λ (ts : Tables). part n (j % n) (table ts (j / n))) (after-done m J t op r) ∙ ap (part n (j % n)) (table-step_other (tables_after m J) op (j / n) apart)

  share_keyless : (j : ℕ) → j / n ≡ op.table → arguments op.kind ≡ 0 → share m turns K j ≡ share m turns J j
  share_keyless j at none = at_table j (λ c. c) at (ap (part n (j % n)) (keyless_stays (table (tables_after m J) op.table) op none))

  -- a turn of the operation
  pub share_worked : (j : ℕ) → IsTurnOf n op j → share m turns K j ≡ after_on (share m turns J j) op
  share_worked j at = go (eqb (arguments op.kind) 0) refl
    where
      go : (b : Bool) → eqb (arguments op.kind) 0 ≡ b → share m turns K j ≡ after_on (share m turns J j) op
      go true e = let z : arguments op.kind ≡ 0 = eqb-true (arguments op.kind) 0 e in share_keyless j at.table z ∙ sym (keyless_stays (share m turns J j) op z)
      go false e =
          let z : arguments op.kind ≢ 0 = eqb-false (arguments op.kind) 0 e in
          at_table j (λ c. after_on c op) at.table (part_after (λ k. eqb (shard_of n k) (j % n)) (table (tables_after m J) op.table) op (eq-eqb _ _ (at.shard (omega (arith, z)))))

  -- any other turn
  pub share_still : (j : ℕ) → (IsTurnOf n op j → ⊥) → share m turns K j ≡ share m turns J j
  share_still j apart = by_table (eqb (j / n) op.table) refl
    where
      by_shard : j / n ≡ op.table → (b : Bool) → eqb (shard_of n op.key) (j % n) ≡ b → share m turns K j ≡ share m turns J j
      by_shard at true e = absurd (apart (record { table = at; shard = λ k. eqb-true _ _ e }))
      by_shard at false e = at_table j (λ c. c) at (part_stays (λ k. eqb (shard_of n k) (j % n)) (table (tables_after m J) op.table) op e)

      by_key : j / n ≡ op.table → (b : Bool) → eqb (arguments op.kind) 0 ≡ b → share m turns K j ≡ share m turns J j
      by_key at true e = let z : arguments op.kind ≡ 0 = eqb-true (arguments op.kind) 0 e in absurd (apart (record { table = at; shard = λ k. absurd (omega (arith, k, z)) }))
      by_key at false e = by_shard at (eqb (shard_of n op.key) (j % n)) refl

      by_table : (b : Bool) → eqb (j / n) op.table ≡ b → share m turns K j ≡ share m turns J j
      by_table true e = by_key (eqb-true _ _ e) (eqb (arguments op.kind) 0) refl
      by_table false e = share_elsewhere j (eqb-false _ _ e)

-- the reply of an operation with a key is the one that it has on its share
pub share_reply : (m : Meaning) (turns : ℕ) (J : List Event) (j : ℕ) (op : Op) → IsTurnOf (shards_in m turns) op j → 0 < arguments op.kind → reply (tables_after m J) op ≡ reply_on (share m turns J j) op
share_reply m turns J j op at keyed =
    let n : ℕ = shards_in m turns in
    let P : ℕ → Type 0 = λ i. reply_on (table (tables_after m J) op.table) op ≡ reply_on (part n (j % n) (table (tables_after m J) i)) op in
    reply-is (tables_after m J) op ∙ subst P (sym at.table) (sym (part_reply (λ k. eqb (shard_of n k) (j % n)) (table (tables_after m J) op.table) op keyed (eq-eqb _ _ (at.shard keyed))))
