-- The set at the head of a loop is the least one that its turns lead back into.
use Rattle.std.proofs.Common.{ℕ, zero, suc, Option, Some, None, inl, inr, ◌⊎◌}
use Rattle.symbolic_ops.specs.declared.symbol.Symbol.{Symbol}
use Rattle.check_meaning.specs.Code.{Code, Finish, Move, Ask, Fork, Loop, Quit}
use Rattle.may_use_analysis.specs.Steps.{Step, Other, store_step}
use Rattle.may_use_analysis.specs.Trails.{Symbols, Back}
use Rattle.may_use_analysis.specs.Flow.{RepliedBack, Turned, Flow, Head}
use Rattle.may_use_analysis.proofs.FlowLemmas.{Within, back_within, replied_within, turned_within, flow_within}

-- the symbols of all of these sets
abbrev pub Union : (ℕ → Symbols) → Symbols
Union B s = (n : ℕ) × B n s

back_union : (step : Step) (B : ℕ → Symbols) → Within (Back step (Union B)) (Union (λ n. Back step (B n)))
back_union step B s m = (m.1.0, (m.0, m.1.1, m.2))

replied_union : (x : Option ℕ) (B : ℕ → Symbols) → Within (RepliedBack x (Union B)) (Union (λ n. RepliedBack x (B n)))
replied_union None B s m = m
replied_union (Some x) B s m = back_union (Other x) B s m

turned_union : (x k : ℕ) (body : Symbols → Symbols) → ((A B : Symbols) → Within A B → Within (body A) (body B)) → ((B : ℕ → Symbols) → Within (body (Union B)) (Union (λ n. body (B n)))) → (B : ℕ → Symbols) → Within (Turned x body k (Union B)) (Union (λ n. Turned x body k (B n)))
turned_union x zero body mono one B s m = m
turned_union x (suc k) body mono one B s m =
    let inner = mono (Turned x body k (Union B)) (Union (λ n. Turned x body k (B n))) (turned_union x k body mono one B) m.0 m.1 in
    back_union (Other x) (λ n. body (Turned x body k (B n))) s (m.0, one (λ n. Turned x body k (B n)) m.0 inner, m.2)

fork_union : (A B : ℕ → Symbols) (s : Symbol) → Union A s ⊎ Union B s → Union (λ n z. A n z ⊎ B n z) s
fork_union A B s (inl m) = (m.0, inl m.1)
fork_union A B s (inr m) = (m.0, inr m.1)

-- what a union leads to, one of its sets leads to
pub flow_union : (code : Code) (B : ℕ → Symbols) → Within (Flow code (Union B)) (Union (λ n. Flow code (B n)))
flow_union Finish B s m = m
flow_union (Move x e rest) B s m =
    back_union (store_step x e) (λ n. Flow rest (B n)) s (back_within (store_step x e) (Flow rest (Union B)) (Union (λ n. Flow rest (B n))) (flow_union rest B) s m)
flow_union (Ask at p x c rest) B s (inl own) = (zero, inl own)
flow_union (Ask at p x c rest) B s (inr m) =
    let r = replied_union x (λ n. Flow rest (B n)) s (replied_within x (Flow rest (Union B)) (Union (λ n. Flow rest (B n))) (flow_union rest B) s m) in
    (r.0, inr r.1)
flow_union (Fork at p q test a b rest) B s (inl m) =
    let r = flow_union a (λ n. Flow rest (B n)) s (flow_within a (Flow rest (Union B)) (Union (λ n. Flow rest (B n))) (flow_union rest B) s m) in
    (r.0, inl r.1)
flow_union (Fork at p q test a b rest) B s (inr m) =
    let r = flow_union b (λ n. Flow rest (B n)) s (flow_within b (Flow rest (Union B)) (Union (λ n. Flow rest (B n))) (flow_union rest B) s m) in
    (r.0, inr r.1)
flow_union (Loop at p n x body rest) B s m =
    let at = turned_within x m.0 (Flow body) (flow_within body) (Flow rest (Union B)) (Union (λ k. Flow rest (B k))) (flow_union rest B) s m.1 in
    let r = turned_union x m.0 (Flow body) (flow_within body) (flow_union body) (λ k. Flow rest (B k)) s at in
    (r.0, (m.0, r.1))
flow_union (Quit es rest) B s m = absurd m

-- a set that holds what follows the loop, and that a turn leads back into, holds the head's symbols
pub head_least : (x : ℕ) (body : Code) (after X : Symbols) → Within after X → Within (Back (Other x) (Flow body X)) X → Within (Head x body after) X
head_least x body after X start turn s m = go m.0 s m.1
  where
    go : (k : ℕ) → Within (Turned x (Flow body) k after) X
    go zero s m = start s m
    go (suc k) s m =
        turn s (back_within (Other x) (Flow body (Turned x (Flow body) k after)) (Flow body X) (flow_within body (Turned x (Flow body) k after) X (go k)) s m)

-- what follows the loop is at its head
pub head_start : (x : ℕ) (body : Code) (after : Symbols) → Within after (Head x body after)
head_start x body after s m = (zero, m)

-- a turn from the head's symbols leads to the head's symbols
pub head_turn : (x : ℕ) (body : Code) (after X : Symbols) → Within X (Head x body after) → Within (Back (Other x) (Flow body X)) (Head x body after)
head_turn x body after X h s m =
    let r = flow_union body (λ k. Turned x (Flow body) k after) m.0 (flow_within body X (Head x body after) h m.0 m.1) in
    (suc r.0, (m.0, r.1, m.2))
