-- One shard, before and after an operation; and how many shards a table has.
use Rattle.std.proofs.Common.{◌≡◌, ℕ, ◌+◌, ◌*◌, ◌-◌, ◌/◌, ◌<◌, ◌≤◌, pos, refl, sym, ◌∙◌, ap, arith}
use Rattle.std.proofs.lemmas.Nat.{div-mul-add}
use Rattle.session_values.specs.declared.kind.Kind.{Kind}
use Rattle.session_values.specs.declared.kind.Kind.TheVariants.{Get, Put, Swap, Del, Size, Bump, Has, Add, Mark, Drop, Count}
use Rattle.session_values.specs.declared.kind.TableKind.TheVariants.{Map, Set}
use Rattle.session_values.specs.declared.op.Op.{Op}
use Rattle.session_values.specs.declared.value.Value.{Value}
use Rattle.session_values.specs.declared.value.Value.TheVariants.{Num}
use Rattle.session_values.specs.Kinds.{arguments, home}
use Rattle.session_values.specs.Tables.{Container, Bindings, Members, after_on, kind_of, map_reply, reply_on, set_reply, size_of}
use Rattle.session_values.proofs.KindLemmas.{map_set}
use Rattle.session_values.proofs.Numbers.{one_zero, two_zero}
use Rattle.hall_rule.specs.Contents.{Content, Register, Shard, shards_of}
use Rattle.session_hall.specs.Working.{WorkedTo}

pub to_shard : {S : Type 0} (op : Op) (x y : Content S) (v : Value) → WorkedTo op x y v → (c : Container) × (r : ℕ) × (x ≡ Shard c r) × (y ≡ Shard (after_on c op) r) × (v ≡ reply_on c op)
to_shard op (Register s b) y v w = absurd w
to_shard op (Shard c r) y v w = (c, r, refl, w.0, w.1)

pub shards_are : (turns tables n : ℕ) → turns ≡ 1 + tables * n → 0 < tables → shards_of turns tables ≡ n
shards_are turns tables n e l =
    let z : turns - 1 ≡ n * tables + 0 = omega (arith, e) in
    ap (λ (a : ℕ). a / tables) z ∙ div-mul-add n tables 0 l

pub product_small : (a n : ℕ) → 0 < n → a ≤ a * n
product_small a n l = grind arith

-- ---- the reply of an operation without a key
pub keyless_reply : (c : Container) (op : Op) → arguments op.kind ≡ 0 → kind_of c ≡ home op.kind → reply_on c op ≡ Num (pos (size_of c))
keyless_reply (Bindings m) op none k = go op.kind none k
  where
    go : (x : Kind) → arguments x ≡ 0 → Map ≡ home x → map_reply m x op.key ≡ Num (pos (size_of (Bindings m)))
    go Size n h = refl
    go Count n h = absurd (map_set h)
    go Get n h = absurd (one_zero n)
    go Put n h = absurd (two_zero n)
    go Swap n h = absurd (two_zero n)
    go Bump n h = absurd (two_zero n)
    go Del n h = absurd (one_zero n)
    go Has n h = absurd (one_zero n)
    go Add n h = absurd (one_zero n)
    go Mark n h = absurd (one_zero n)
    go Drop n h = absurd (one_zero n)
keyless_reply (Members s) op none k = go op.kind none k
  where
    go : (x : Kind) → arguments x ≡ 0 → Set ≡ home x → set_reply s x op.key ≡ Num (pos (size_of (Members s)))
    go Count n h = refl
    go Size n h = absurd (map_set (sym h))
    go Get n h = absurd (one_zero n)
    go Put n h = absurd (two_zero n)
    go Swap n h = absurd (two_zero n)
    go Bump n h = absurd (two_zero n)
    go Del n h = absurd (one_zero n)
    go Has n h = absurd (one_zero n)
    go Add n h = absurd (one_zero n)
    go Mark n h = absurd (one_zero n)
    go Drop n h = absurd (one_zero n)
