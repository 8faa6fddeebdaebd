-- Trails: the ways through a handler, whatever its conditions say, and the symbols of the
-- operations on them.
use Rattle.std.specs.Prelude.{◌≡◌, ℕ, zero, suc, List, [], ◌∷◌, ◌++◌, Option, Some, None, ◌⊎◌}
use Rattle.symbolic_ops.specs.declared.symbol.Symbol.{Symbol}
use Rattle.check_meaning.specs.declared.tree.CheckedCall.{CheckedCall}
use Rattle.check_meaning.specs.Code.{Code, Finish, Move, Ask, Fork, Loop, Quit}
use Rattle.may_use_analysis.specs.Steps.{Step, Copy, Constant, Other, Call, End, store_step, symbol_of, back}

-- a set of trails
abbrev pub Trails : Type 1
Trails = List Step → Type 0

-- this step, and then one of these trails
abbrev pub Begins : Step → Trails → Trails
Begins step after t = (rest : List Step) × (t ≡ step ∷ rest) × after rest

-- the store of a reply, where a variable takes it
abbrev pub Replied : Option ℕ → Trails → Trails
Replied None after = after
Replied (Some x) after = Begins (Other x) after

-- this many turns of a loop, each with the store of the loop's variable first, and then one of
-- these trails
abbrev pub Turns : ℕ → (Trails → Trails) → ℕ → Trails → Trails
Turns x body zero after = after
Turns x body (suc n) after = Begins (Other x) (body (Turns x body n after))

-- zero or more turns
abbrev pub AnyTurns : ℕ → (Trails → Trails) → Trails → Trails
AnyTurns x body after t = (n : ℕ) × Turns x body n after t

-- the trails of a block which one of these trails follows; nothing follows an end
abbrev pub From : Code → Trails → Trails
From Finish after = after
From (Move x e rest) after = Begins (store_step x e) (From rest after)
From (Ask at p x c rest) after = Begins (Call c) (Replied x (From rest after))
From (Fork at p q test a b rest) after = λ t. From a (From rest after) t
    ⊎ From b (From rest after) t
From (Loop at p n x body rest) after = AnyTurns x (From body) (From rest after)
From (Quit es rest) after = λ t. t ≡ End ∷ []

-- the trails from the points of this number in a block which one of these trails follows
abbrev pub FromPoint : Code → ℕ → Trails → Trails
FromPoint Finish i after t = ⊥
FromPoint (Move x e rest) i after t = FromPoint rest i after t
FromPoint (Ask at p x c rest) i after t = ((i ≡ p) × From rest after t) ⊎ FromPoint rest i after t
FromPoint (Fork at p q test a b rest) i after t =
    ((i ≡ p) × From a (From rest after) t) ⊎ (((i ≡ q) × From b (From rest after) t)
    ⊎ (FromPoint a i (From rest after) t ⊎ (FromPoint b i (From rest after) t
    ⊎ FromPoint rest i after t)))
FromPoint (Loop at p n x body rest) i after t =
    ((i ≡ p) × From rest after t) ⊎ (FromPoint body i (AnyTurns x (From body) (From rest after)) t
    ⊎ FromPoint rest i after t)
FromPoint (Quit es rest) i after t = FromPoint rest i after t

-- the one trail without a step
abbrev pub NoStep : Trails
NoStep t = t ≡ []

-- the trails from a point of a handler, whose entry is point 0
abbrev pub FromHandler : Code → ℕ → Trails
FromHandler code i t = ((i ≡ 0) × From code NoStep t) ⊎ FromPoint code i NoStep t

-- ---- the symbols of trails

-- a set of symbols
abbrev pub Symbols : Type 1
Symbols = Symbol → Type 0

-- the symbols of this set, carried back over a step
abbrev pub Back : Step → Symbols → Symbols
Back step after s = (later : Symbol) × after later × (s ≡ back step later)

-- the symbol of the step's own operation
abbrev pub IsOwn : Step → Symbols
IsOwn (Copy x y) s = ⊥
IsOwn (Constant x v) s = ⊥
IsOwn (Other x) s = ⊥
IsOwn (Call c) s = s ≡ symbol_of c
IsOwn End s = ⊥

-- the symbols of the operations on a trail, carried back to its start
abbrev pub Shows : List Step → Symbols
Shows [] s = ⊥
Shows (step ∷ rest) s = IsOwn step s ⊎ Back step (Shows rest) s

-- the symbols of all operations on all of these trails
abbrev pub Shown : Trails → Symbols
Shown trails s = (t : List Step) × trails t × Shows t s

-- the symbols of all operations on all trails from a point
abbrev pub LaterAt : Code → ℕ → Symbols
LaterAt code i = Shown (FromHandler code i)

-- ---- the same, step by step

-- a symbol carried back over these steps, the last one first
abbrev pub carried_back : List Step → Symbol → Symbol
carried_back [] s = s
carried_back (step ∷ before) s = back step (carried_back before s)

-- an operation stands on the trail that has this symbol, carried back over the steps before it
abbrev pub ShowsSomewhere : List Step → Symbol → Type 0
ShowsSomewhere t s =
    (before : List Step) × (c : CheckedCall) × (rest : List Step) × (t ≡ before ++ Call c ∷ rest)
    × (s ≡ carried_back before (symbol_of c))
