-- Tables that shards hold, one of them written back.
use Rattle.std.proofs.Common.{◌≡◌, ◌||◌, ◌-◌, Bool, true, false, not, nat_lt, ℕ, zero, suc, ◌<◌, List, [], ◌∷◌, length, map, Some, Option, slice_get, get_or, refl, sym, ◌∙◌, ap, arith}
use Rattle.std.proofs.Math.ListN.{set}
use Rattle.std.proofs.lemmas.Bool.Decides.{nat_tests}
use Rattle.std.proofs.lemmas.List.{length-map}
use Rattle.std.proofs.lemmas.Option.{slice_get_within}
use Rattle.shard_tables.specs.declared.part.Part.{Part}
use Rattle.shard_tables.specs.Either.{entries_in, shard_view}
use Rattle.session_values.specs.Opening.{entries_of}
use Rattle.session_values.proofs.Puts.{kind_after}
use Rattle.session_values.specs.Kinds.{home}
use Rattle.session_values.specs.Tables.{Container, Tables, after_on, kind_of, reply, reply_on, step, table}
use Rattle.session_values.specs.declared.kind.TableKind.{TableKind}
use Rattle.session_values.specs.declared.op.Op.{Op}
use Rattle.live_session.specs.Held.{container_in, held, lists_in, rooms}

table_held : (ps : List Part) (i : ℕ) (p : Part) → i < length ps → get_or ps i p ≡ p → table (held ps) i ≡ container_in p
table_held [] i p h e = absurd (omega (arith, h))
table_held (x ∷ ps) zero p h e = ap container_in e
table_held (x ∷ ps) (suc i) p h e = table_held ps i p (omega (arith, h)) e

held_set : (ps : List Part) (i : ℕ) (p : Part) → held (set ps i p) ≡ set (held ps) i (container_in p)
held_set [] i p = refl
held_set (x ∷ ps) zero p = refl
held_set (x ∷ ps) (suc i) p = ap (λ (cs : Tables). container_in x ∷ cs) (held_set ps i p)

kinds_after : (all : Tables) (i : ℕ) (op : Op) → map kind_of (set all i (after_on (table all i) op)) ≡ map kind_of all
kinds_after [] i op = refl
kinds_after (c ∷ all) zero op = ap (λ (k : TableKind). k ∷ map kind_of all) (kind_after c op)
kinds_after (c ∷ all) (suc i) op = ap (λ (ks : List TableKind). kind_of c ∷ ks) (kinds_after all i op)

-- an operation leaves the kinds as they were
pub kinds_step : (all : Tables) (op : Op) → map kind_of (step all op) ≡ map kind_of all
unfolding step
kinds_step all op = kinds_after all op.table op

inside : {X : Type 0} (x y : X) → ◌≡◌ {A = Option X} (Some x) (Some y) → x ≡ y
inside {X} x y e = cc

kind_at : (ps : List Part) (i : ℕ) (p : Part) (k : TableKind) → slice_get (map kind_of (held ps)) i ≡ Some k → get_or ps i p ≡ p → kind_of (container_in p) ≡ k
kind_at [] i p k h e = cc
kind_at (x ∷ ps) zero p k h e = ap (λ (q : Part). kind_of (container_in q)) (sym e) ∙ inside (kind_of (container_in x)) k h
kind_at (x ∷ ps) (suc i) p k h e = kind_at ps i p k h e

module _ (ps : List Part) (i : ℕ) (op : Op) (at : i ≡ op.table) (fits : slice_get (map kind_of (held ps)) op.table ≡ Some (home op.kind)) where
  there : slice_get (map kind_of (held ps)) i ≡ Some (home op.kind)
  there = ap (slice_get (map kind_of (held ps))) at ∙ fits

  -- a table that has a kind exists
  pub exists : i < length ps
  exists =
      let within : i < length (map kind_of (held ps)) = slice_get_within _ _ _ there in
      rw (length-map, length-map) at within

  module _ (p : Part) (is : get_or ps i p ≡ p) where
    holds : table (held ps) op.table ≡ container_in p
    holds = ap (table (held ps)) (sym at) ∙ table_held ps i p exists is

    pub kind_kept : kind_of (container_in p) ≡ home op.kind
    kind_kept = kind_at ps i p (home op.kind) there is

    -- the reply of the operation's table is that of the tables
    pub reply_kept : reply_on (container_in p) op ≡ reply (held ps) op
    unfolding reply
    reply_kept = ap (λ (c : Container). reply_on c op) (sym holds)

    -- the table is written back as the operation leaves it
    pub written_step : (new : Part) → container_in new ≡ after_on (container_in p) op → held (set ps i new) ≡ step (held ps) op
    unfolding step
    written_step new after =
        held_set ps i new
        ∙ ap (set (held ps) i) (after ∙ ap (λ (c : Container). after_on c op) (sym holds))
        ∙ ap (λ (j : ℕ). set (held ps) j (after_on (table (held ps) op.table) op)) at

-- where there is room for a key that is added, a table has less keys than its room
pub room_by : (adds : Bool) (spare size room : ℕ) → (not adds || nat_lt 0 spare) ≡ true → spare ≡ room - size → adds ≡ true → size < room
room_by true spare size room h e a = let some : 0 < spare = grind (arith, nat_tests, h) in omega (arith, some, e)
room_by false spare size room h e a = cc

-- ---- one of the tables
pub same_item : (ps : List Part) (i : ℕ) (p q : Part) → i < length ps → p ≡ get_or ps i p → q ≡ get_or ps i q → p ≡ q
same_item [] i p q l a b = absurd (omega (arith, l))
same_item (x ∷ ps) zero p q l a b = a ∙ sym b
same_item (x ∷ ps) (suc i) p q l a b = same_item ps i p q (omega (arith, l)) a b

pub listed_at : (ps : List Part) (i : ℕ) (p : Part) → i < length (lists_in ps) → p ≡ get_or ps i p → entries_of (lists_in ps) i ≡ entries_in p
listed_at [] i p l is = absurd (omega (arith, l))
listed_at (x ∷ ps) zero p l is = ap entries_in (sym is)
listed_at (x ∷ ps) (suc i) p l is = listed_at ps i p (omega (arith, l)) is

-- ---- rooms

-- a shard that is written back with its room leaves all rooms
pub rooms_same : (ps : List Part) (i : ℕ) (p new : Part) → i < length ps → get_or ps i p ≡ p → (shard_view new).room ≡ (shard_view p).room → rooms (set ps i new) ≡ rooms ps
rooms_same [] i p new l is e = refl
rooms_same (x ∷ ps) zero p new l is e = ap (λ (n : ℕ). n ∷ rooms ps) (e ∙ ap (λ (q : Part). (shard_view q).room) (sym is))
rooms_same (x ∷ ps) (suc i) p new l is e = ap (λ (ns : List ℕ). (shard_view x).room ∷ ns) (rooms_same ps i p new (omega (arith, l)) is e)
