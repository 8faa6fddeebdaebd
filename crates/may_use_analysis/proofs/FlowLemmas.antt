-- The sets of symbols of trails are made from the end of a block to its start.
use Rattle.std.proofs.Common.{◌≡◌, ℕ, zero, suc, List, [], ◌∷◌, Option, Some, None, refl, sym, ap, ◌∙◌, subst, inl, inr, ◌⊎◌, ◌↔◌}
use Rattle.check_meaning.specs.declared.tree.CheckedAtom.TheVariants as atom
use Rattle.check_meaning.specs.declared.tree.CheckedCall.{CheckedCall}
use Rattle.symbolic_ops.specs.declared.arg.Arg.{Arg}
use Rattle.symbolic_ops.specs.declared.arg.Arg.TheVariants.{Known, Var, Any}
use Rattle.symbolic_ops.specs.declared.symbol.Symbol.{Symbol}
use Rattle.check_meaning.specs.Code.{Code, Finish, Move, Ask, Fork, Loop, Quit, Term, Atom, Calculate}
use Rattle.may_use_analysis.specs.Steps.{symbol_of}
use Rattle.may_use_analysis.specs.Steps.{Step, Other, Call, End, store_step, arg_back, back}
use Rattle.may_use_analysis.specs.Trails.{Trails, Begins, Replied, Turns, From, Symbols, Back, IsOwn, Shows, Shown}
use Rattle.may_use_analysis.specs.Flow.{RepliedBack, Turned, Flow}

-- one set within another
abbrev pub Within : Symbols → Symbols → Type 0
Within A B = (s : Symbol) → A s → B s

-- larger sets give larger sets

pub back_within : (step : Step) (A B : Symbols) → Within A B → Within (Back step A) (Back step B)
back_within step A B h s m = (m.0, h m.0 m.1, m.2)

pub replied_within : (x : Option ℕ) (A B : Symbols) → Within A B → Within (RepliedBack x A) (RepliedBack x B)
replied_within None A B h s m = h s m
replied_within (Some x) A B h s m = back_within (Other x) A B h s m

pub turned_within : (x n : ℕ) (body : Symbols → Symbols) → ((A B : Symbols) → Within A B → Within (body A) (body B)) → (A B : Symbols) → Within A B → Within (Turned x body n A) (Turned x body n B)
turned_within x zero body mono A B h s m = h s m
turned_within x (suc n) body mono A B h s m =
    back_within (Other x) (body (Turned x body n A)) (body (Turned x body n B)) (mono (Turned x body n A) (Turned x body n B) (turned_within x n body mono A B h)) s m

pub flow_within : (code : Code) (A B : Symbols) → Within A B → Within (Flow code A) (Flow code B)
flow_within Finish A B h s m = h s m
flow_within (Move x e rest) A B h s m = back_within (store_step x e) (Flow rest A) (Flow rest B) (flow_within rest A B h) s m
flow_within (Ask at p x c rest) A B h s (inl e) = inl e
flow_within (Ask at p x c rest) A B h s (inr m) = inr (replied_within x (Flow rest A) (Flow rest B) (flow_within rest A B h) s m)
flow_within (Fork at p q test a b rest) A B h s (inl m) = inl (flow_within a (Flow rest A) (Flow rest B) (flow_within rest A B h) s m)
flow_within (Fork at p q test a b rest) A B h s (inr m) = inr (flow_within b (Flow rest A) (Flow rest B) (flow_within rest A B h) s m)
flow_within (Loop at p n x body rest) A B h s m =
    (m.0, turned_within x m.0 (Flow body) (flow_within body) (Flow rest A) (Flow rest B) (flow_within rest A B h) s m.1)
flow_within (Quit es rest) A B h s m = m

-- an operation changes no variable

arg_back_call : (c : CheckedCall) (a : Arg) → arg_back (Call c) a ≡ a
arg_back_call c (Known v) = refl
arg_back_call c (Var x) = refl
arg_back_call c Any = refl

pub back_call : (c : CheckedCall) (s : Symbol) → back (Call c) s ≡ s
back_call c s =
    ap (λ (a : Arg). record s { key = a; value = arg_back (Call c) s.value }) (arg_back_call c s.key)
    ∙ ap (λ (a : Arg). record s { value = a }) (arg_back_call c s.value)

-- a trail that a step begins

pub shown_begins : (step : Step) (T : Trails) (s : Symbol) → Shown (Begins step T) s → (IsOwn step s) ⊎ Back step (Shown T) s
shown_begins step T s m = go m.0 m.1 m.2
  where
    at_rest : (rest : List Step) → T rest → Shows (step ∷ rest) s → (IsOwn step s) ⊎ Back step (Shown T) s
    at_rest rest t (inl own) = inl own
    at_rest rest t (inr later) = inr (later.0, (rest, t, later.1), later.2)

    go : (t : List Step) → Begins step T t → Shows t s → (IsOwn step s) ⊎ Back step (Shown T) s
    go t b shows = at_rest b.0 b.2 (subst (λ z. Shows z s) b.1 shows)

pub begins_shown : (step : Step) (T : Trails) (s : Symbol) → Back step (Shown T) s → Shown (Begins step T) s
begins_shown step T s m = (step ∷ m.1.0, (m.1.0, refl, m.1.1), inr (m.0, m.1.2, m.2))

pub begins_own : (step : Step) (T : Trails) (s : Symbol) → ((t : List Step) × T t) → IsOwn step s → Shown (Begins step T) s
begins_own step T s has own = (step ∷ has.0, (has.0, refl, has.1), inl own)

-- a store has no operation
pub store_not_own : (x : ℕ) (e : Term) (s : Symbol) → IsOwn (store_step x e) s → ⊥
store_not_own x (Atom (atom.Lit v)) s own = own
store_not_own x (Atom (atom.Var y)) s own = own
store_not_own x (Calculate calc l r) s own = own

only_back : {O B : Type 0} → (O → ⊥) → O ⊎ B → B
only_back none (inl o) = absurd (none o)
only_back none (inr b) = b

-- each set of trails that is asked for has a trail

abbrev pub HasTrail : Trails → Type 0
HasTrail T = (t : List Step) × T t

pub turns_some : (x n : ℕ) (body : Trails → Trails) → ((T : Trails) → HasTrail T → HasTrail (body T)) → (T : Trails) → HasTrail T → HasTrail (Turns x body n T)
turns_some x zero body some T has = has
turns_some x (suc n) body some T has =
    let r = some (Turns x body n T) (turns_some x n body some T has) in
    (Other x ∷ r.0, (r.0, refl, r.1))

pub replied_some : (x : Option ℕ) (T : Trails) → HasTrail T → HasTrail (Replied x T)
replied_some None T has = has
replied_some (Some x) T has = (Other x ∷ has.0, (has.0, refl, has.1))

pub from_some : (code : Code) (T : Trails) → HasTrail T → HasTrail (From code T)
from_some Finish T has = has
from_some (Move x e rest) T has = let r = from_some rest T has in (store_step x e ∷ r.0, (r.0, refl, r.1))
from_some (Ask at p x c rest) T has =
    let r = replied_some x (From rest T) (from_some rest T has) in
    (Call c ∷ r.0, (r.0, refl, r.1))
from_some (Fork at p q test a b rest) T has =
    let r = from_some a (From rest T) (from_some rest T has) in
    (r.0, inl r.1)
from_some (Loop at p n x body rest) T has =
    let r = from_some rest T has in
    (r.0, (zero, r.1))
from_some (Quit es rest) T has = (End ∷ [], refl)

-- what trails show, the sets have

pub replied_flow : (x : Option ℕ) (T : Trails) (s : Symbol) → Shown (Replied x T) s → RepliedBack x (Shown T) s
replied_flow None T s m = m
replied_flow (Some x) T s m = only_back (λ o. o) (shown_begins (Other x) T s m)

pub turns_flow : (x n : ℕ) (trails : Trails → Trails) (sets : Symbols → Symbols) → ((A B : Symbols) → Within A B → Within (sets A) (sets B)) → ((T : Trails) → Within (Shown (trails T)) (sets (Shown T))) → (T : Trails) → Within (Shown (Turns x trails n T)) (Turned x sets n (Shown T))
turns_flow x zero trails sets mono one T s m = m
turns_flow x (suc n) trails sets mono one T s m =
    let b = only_back (λ o. o) (shown_begins (Other x) (trails (Turns x trails n T)) s m) in
    (b.0, mono (Shown (Turns x trails n T)) (Turned x sets n (Shown T)) (turns_flow x n trails sets mono one T) b.0 (one (Turns x trails n T) b.0 b.1), b.2)

ask_flow : (x : Option ℕ) (c : CheckedCall) (T : Trails) (A : Symbols) (s : Symbol) → Within (Shown T) A → (s ≡ symbol_of c) ⊎ Back (Call c) (Shown (Replied x T)) s → (s ≡ symbol_of c) ⊎ RepliedBack x A s
ask_flow x c T A s h (inl own) = inl own
ask_flow x c T A s h (inr b) =
    inr (subst (RepliedBack x A) (sym (b.2 ∙ back_call c b.0)) (replied_within x (Shown T) A h b.0 (replied_flow x T b.0 b.1)))

fork_flow : (T U : Trails) (A B : Symbols) (s : Symbol) → Within (Shown T) A → Within (Shown U) B → (t : List Step) → T t ⊎ U t → Shows t s → A s ⊎ B s
fork_flow T U A B s h k t (inl f) shows = inl (h s (t, f, shows))
fork_flow T U A B s h k t (inr f) shows = inr (k s (t, f, shows))

pub from_flow : (code : Code) (T : Trails) → Within (Shown (From code T)) (Flow code (Shown T))
from_flow Finish T s m = m
from_flow (Move x e rest) T s m =
    back_within (store_step x e) (Shown (From rest T)) (Flow rest (Shown T)) (from_flow rest T) s (only_back (store_not_own x e s) (shown_begins (store_step x e) (From rest T) s m))
from_flow (Ask at p x c rest) T s m = ask_flow x c (From rest T) (Flow rest (Shown T)) s (from_flow rest T) (shown_begins (Call c) (Replied x (From rest T)) s m)
from_flow (Fork at p q test a b rest) T s m =
    fork_flow (From a (From rest T)) (From b (From rest T)) (Flow a (Flow rest (Shown T))) (Flow b (Flow rest (Shown T))) s (λ z n. flow_within a (Shown (From rest T)) (Flow rest (Shown T)) (from_flow rest T) z (from_flow a (From rest T) z n)) (λ z n. flow_within b (Shown (From rest T)) (Flow rest (Shown T)) (from_flow rest T) z (from_flow b (From rest T) z n)) m.0 m.1 m.2
from_flow (Loop at p n x body rest) T s m =
    let at = turns_flow x m.1.0 (From body) (Flow body) (flow_within body) (from_flow body) (From rest T) s (m.0, m.1.1, m.2) in
    (m.1.0, turned_within x m.1.0 (Flow body) (flow_within body) (Shown (From rest T)) (Flow rest (Shown T)) (from_flow rest T) s at)
from_flow (Quit es rest) T s m = go (subst (λ z. Shows z s) m.1 m.2)
  where
    go : Shows (End ∷ []) s → ⊥
    go (inl none) = none
    go (inr later) = later.1

-- what the sets have, a trail shows

pub flow_replied : (x : Option ℕ) (T : Trails) (s : Symbol) → RepliedBack x (Shown T) s → Shown (Replied x T) s
flow_replied None T s m = m
flow_replied (Some x) T s m = begins_shown (Other x) T s m

pub flow_turns : (x n : ℕ) (trails : Trails → Trails) (sets : Symbols → Symbols) → ((A B : Symbols) → Within A B → Within (sets A) (sets B)) → ((T : Trails) → HasTrail T → HasTrail (trails T)) → ((T : Trails) → HasTrail T → Within (sets (Shown T)) (Shown (trails T))) → (T : Trails) → HasTrail T → Within (Turned x sets n (Shown T)) (Shown (Turns x trails n T))
flow_turns x zero trails sets mono some one T has s m = m
flow_turns x (suc n) trails sets mono some one T has s m =
    let has_n = turns_some x n trails some T has in
    let inner = mono (Turned x sets n (Shown T)) (Shown (Turns x trails n T)) (flow_turns x n trails sets mono some one T has) m.0 m.1 in
    begins_shown (Other x) (trails (Turns x trails n T)) s (m.0, one (Turns x trails n T) has_n m.0 inner, m.2)

pub flow_from : (code : Code) (T : Trails) → HasTrail T → Within (Flow code (Shown T)) (Shown (From code T))
flow_from Finish T has s m = m
flow_from (Move x e rest) T has s m =
    begins_shown (store_step x e) (From rest T) s (back_within (store_step x e) (Flow rest (Shown T)) (Shown (From rest T)) (flow_from rest T has) s m)
flow_from (Ask at p x c rest) T has s (inl own) =
    begins_own (Call c) (Replied x (From rest T)) s (replied_some x (From rest T) (from_some rest T has)) own
flow_from (Ask at p x c rest) T has s (inr m) =
    begins_shown (Call c) (Replied x (From rest T)) s (s, flow_replied x (From rest T) s (replied_within x (Flow rest (Shown T)) (Shown (From rest T)) (flow_from rest T has) s m), sym (back_call c s))
flow_from (Fork at p q test a b rest) T has s (inl m) =
    let r = flow_from a (From rest T) (from_some rest T has) s (flow_within a (Flow rest (Shown T)) (Shown (From rest T)) (flow_from rest T has) s m) in
    (r.0, inl r.1, r.2)
flow_from (Fork at p q test a b rest) T has s (inr m) =
    let r = flow_from b (From rest T) (from_some rest T has) s (flow_within b (Flow rest (Shown T)) (Shown (From rest T)) (flow_from rest T has) s m) in
    (r.0, inr r.1, r.2)
flow_from (Loop at p n x body rest) T has s m =
    let at = turned_within x m.0 (Flow body) (flow_within body) (Flow rest (Shown T)) (Shown (From rest T)) (flow_from rest T has) s m.1 in
    let r = flow_turns x m.0 (From body) (Flow body) (flow_within body) (from_some body) (flow_from body) (From rest T) (from_some rest T has) s at in
    (r.0, (m.0, r.1), r.2)
flow_from (Quit es rest) T has s m = absurd m

-- the symbols at the start of a block are those of its trails
pub flow_is_shown : (code : Code) (T : Trails) → HasTrail T → (s : Symbol) → Shown (From code T) s ↔ Flow code (Shown T) s
flow_is_shown code T has s = (from_flow code T s, flow_from code T has s)
