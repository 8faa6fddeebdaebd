-- An operation and a count beside each other.
use Rattle.std.proofs.Common.{◌≡◌, ℕ, ℤ, pos, ◌≢◌, length, inl, inr, Bool, true, false, not, ◌||◌, eqb, refl, sym, ◌∙◌, ap, subst, arith}
use Rattle.std.proofs.lemmas.List.{get_or-set_other}
use Rattle.std.proofs.lemmas.Bool.Decides.{nat_tests}
use Rattle.std.proofs.lemmas.Bool.{eqb-true, not-true, cases_lt}
use Rattle.std.specs.FinMap as map
use Rattle.session_values.specs.declared.kind.Kind.{Kind}
use Rattle.session_values.specs.declared.kind.Kind.TheVariants.{Get, Put, Swap, Del, Size, Bump, Has, Add, Mark, Drop, Count}
use Rattle.session_values.specs.declared.kind.TableKind.TheVariants.{Map}
use Rattle.session_values.specs.declared.op.Op.{Op}
use Rattle.session_values.specs.declared.value.Value.{Value}
use Rattle.session_values.specs.declared.value.Value.TheVariants.{Nil, Num, Sym}
use Rattle.session_values.specs.Values.{value_cmp}
use Rattle.session_values.specs.Kinds.{is_on_map}
use Rattle.session_values.specs.Tables.{Tables, Container, Bindings, Members, empty_of, table, step, after_on, map_after, size_of}
use Rattle.session_values.proofs.Bumps.{bound_to-same}
use Rattle.commute_tables.specs.Relation.{is_number}
use Rattle.commute_tables.proofs.Commutes.{commutes-Commute}
use Rattle.commute_tables.proofs.OneTable.{step_at, table_after, past_after}
use Rattle.session_values.specs.Commuting.{Swaps, Commute}
use Rattle.shard_tables.proofs.PartSteps.{part_stays}
use Rattle.range_tables.specs.declared.range_op.RangeOp.{RangeOp}
use Rattle.range_tables.specs.declared.range_op.RangeOp.TheVariants.{Plain, Between}
use Rattle.range_tables.specs.Ranges.{is_between, between_on, range_reply, range_step, IsHeldRange}
use Rattle.range_tables.specs.Commuting.{RangeSwaps, RangeCommute}
use Rattle.range_tables.specs.Relation.{changes_nothing, commutes_count, range_commutes}

-- an operation on sets leaves a map
set_silent : (m : map.FinMap value_cmp Value) (kind : Kind) (k v : Value) → is_on_map kind ≡ false → map_after m kind k v ≡ m
set_silent m Get k v h = cc
set_silent m Put k v h = cc
set_silent m Swap k v h = cc
set_silent m Del k v h = cc
set_silent m Size k v h = cc
set_silent m Bump k v h = cc
set_silent m Has k v h = refl
set_silent m Add k v h = refl
set_silent m Mark k v h = refl
set_silent m Drop k v h = refl
set_silent m Count k v h = refl

-- what changes nothing leaves a map
idle : (m : map.FinMap value_cmp Value) (kind : Kind) (k v : Value) → changes_nothing kind (is_number v) ≡ true → map_after m kind k v ≡ m
idle m Get k v h = refl
idle m Put k v h = cc
idle m Swap k v h = cc
idle m Del k v h = cc
idle m Size k v h = refl
idle m Bump k Nil h = bound_to-same m k
idle m Bump k (Num d) h = cc
idle m Bump k (Sym p) h = bound_to-same m k
idle m Has k v h = refl
idle m Add k v h = refl
idle m Mark k v h = refl
idle m Drop k v h = refl
idle m Count k v h = refl

-- what keeps a count on one container
same_count : (c : Container) (op : Op) (low high : ℤ) → (not (is_on_map op.kind) || changes_nothing op.kind (is_number op.value) || not (is_between low high op.key)) ≡ true → between_on low high (after_on c op) ≡ between_on low high c
same_count (Members s) op low high h = refl
same_count (Bindings m) op low high h = on (is_on_map op.kind) (changes_nothing op.kind (is_number op.value)) refl refl h
  where
    on : (x y : Bool) → is_on_map op.kind ≡ x → changes_nothing op.kind (is_number op.value) ≡ y → (not x || y || not (is_between low high op.key)) ≡ true → between_on low high (Bindings (map_after m op.kind op.key op.value)) ≡ between_on low high (Bindings m)
    on false y e f g = ap (λ (n : map.FinMap value_cmp Value). between_on low high (Bindings n)) (set_silent m op.kind op.key op.value e)
    on true true e f g = ap (λ (n : map.FinMap value_cmp Value). between_on low high (Bindings n)) (idle m op.kind op.key op.value f)
    on true false e f g = ap (λ (c : Container). Num (pos (size_of c))) (part_stays (is_between low high) (Bindings m) op (not-true (is_between low high op.key) g))

-- what keeps a count at tables
pub count_stays : (ts : Tables) (op : Op) (i : ℕ) (low high : ℤ) → commutes_count op (eqb op.table i) low high ≡ true → between_on low high (table (step ts op) i) ≡ between_on low high (table ts i)
unfolding step
count_stays ts op i low high h = by_table (eqb op.table i) refl h
  where
    other_table : (x y : ℕ) → eqb x y ≡ false → y ≢ x
    other_table x y e = grind (arith, nat_tests)

    here : (not (is_on_map op.kind) || changes_nothing op.kind (is_number op.value) || not (is_between low high op.key)) ≡ true → between_on low high (table (step_at op.table ts op) op.table) ≡ between_on low high (table ts op.table)
    here g = elim (cases_lt op.table (length ts)) [
      | inl l ↦ ap (between_on low high) (table_after op.table ts op l) ∙ same_count (table ts op.table) op low high g
      | inr l ↦ ap (λ (us : Tables). between_on low high (table us op.table)) (past_after op.table ts op l)
    ]

    by_table : (b : Bool) → eqb op.table i ≡ b → (not b || not (is_on_map op.kind) || changes_nothing op.kind (is_number op.value) || not (is_between low high op.key)) ≡ true → between_on low high (table (step_at op.table ts op) i) ≡ between_on low high (table ts i)
    by_table true e g = let P : ℕ → Type 0 = λ j. between_on low high (table (step_at op.table ts op) j) ≡ between_on low high (table ts j) in subst P (eqb-true op.table i e) (here g)
    by_table false e g = ap (between_on low high) (get_or-set_other ts op.table i (after_on (table ts op.table) op) (empty_of Map) (other_table op.table i e))

pub count_beside : (op : Op) (i : ℕ) (low high : ℤ) → commutes_count op (eqb op.table i) low high ≡ true → RangeCommute (Plain op) (Between i low high)
unfolding range_step range_reply
count_beside op i low high h = record { at = λ ts. record { tables = refl; first = refl; second = count_stays ts op i low high h } }

pub turned : (a b : RangeOp) → RangeCommute a b → RangeCommute b a
turned a b h = record { at = λ ts. record { tables = sym (h.at ts).tables; first = sym (h.at ts).second; second = sym (h.at ts).first } }

pub plain_beside : (a b : Op) → Commute a b → RangeCommute (Plain a) (Plain b)
unfolding range_step range_reply
plain_beside a b h = record { at = λ ts. record { tables = (h.at ts).tables; first = (h.at ts).first; second = (h.at ts).second } }

pub plain_swaps : (ts : Tables) (a b : Op) → RangeSwaps ts (Plain a) (Plain b) → Swaps ts a b
unfolding range_step range_reply
plain_swaps ts a b s = record { tables = s.tables; first = s.first; second = s.second }

pub plain_only : (a b : Op) → RangeCommute (Plain a) (Plain b) → Commute a b
plain_only a b h = record { at = λ ts. plain_swaps ts a b (h.at ts) }

pub counts_beside : (i j : ℕ) (low high l h : ℤ) → RangeCommute (Between i low high) (Between j l h)
unfolding range_step range_reply
counts_beside i j low high l h = record { at = λ ts. record { tables = refl; first = refl; second = refl } }

-- the test is right where it says that they commute
pub commutes-RangeCommute : (a b : RangeOp) → IsHeldRange a → IsHeldRange b → range_commutes a b ≡ true → RangeCommute a b
commutes-RangeCommute (Plain a) (Plain b) p q h = plain_beside a b (commutes-Commute a b p.value q.value h)
commutes-RangeCommute (Plain a) (Between i low high) p q h = count_beside a i low high h
commutes-RangeCommute (Between i low high) (Plain b) p q h = turned (Plain b) (Between i low high) (count_beside b i low high h)
commutes-RangeCommute (Between i low high) (Between j l h) p q e = counts_beside i j low high l h
