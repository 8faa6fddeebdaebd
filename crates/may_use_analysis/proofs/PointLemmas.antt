-- The symbols at a point are those of the trails from it.
use Rattle.std.proofs.Common.{◌≡◌, ℕ, List, [], refl, subst, inl, inr, ◌⊎◌, ◌↔◌}
use Rattle.symbolic_ops.specs.declared.symbol.Symbol.{Symbol}
use Rattle.check_meaning.specs.Code.{Code, Finish, Move, Ask, Fork, Loop, Quit}
use Rattle.may_use_analysis.specs.Steps.{Step}
use Rattle.may_use_analysis.specs.Trails.{Trails, AnyTurns, From, FromPoint, NoStep, Symbols, Shows, Shown, LaterAt}
use Rattle.may_use_analysis.specs.Flow.{Flow, Head, FlowPoint, FlowHandler}
use Rattle.may_use_analysis.proofs.FlowLemmas.{Within, flow_within, turned_within, HasTrail, from_some, from_flow, flow_from}

-- a union of two sets of trails
shown_either : (T U : Trails) (s : Symbol) → Shown (λ t. T t ⊎ U t) s → Shown T s ⊎ Shown U s
shown_either T U s m = go m.0 m.1 m.2
  where
    go : (t : List Step) → T t ⊎ U t → Shows t s → Shown T s ⊎ Shown U s
    go t (inl f) shows = inl (t, f, shows)
    go t (inr f) shows = inr (t, f, shows)

either_shown : (T U : Trails) (s : Symbol) → Shown T s ⊎ Shown U s → Shown (λ t. T t ⊎ U t) s
either_shown T U s (inl m) = (m.0, inl m.1, m.2)
either_shown T U s (inr m) = (m.0, inr m.1, m.2)

either_map : {A B C D : Type 0} → (A → C) → (B → D) → A ⊎ B → C ⊎ D
either_map f g (inl a) = inl (f a)
either_map f g (inr b) = inr (g b)

-- a set of trails under a condition
shown_at : (i p : ℕ) (T : Trails) (A : Symbols) (s : Symbol) → Within (Shown T) A → Shown (λ t. (i ≡ p) × T t) s → (i ≡ p) × A s
shown_at i p T A s h m = (m.1.0, h s (m.0, m.1.1, m.2))

at_shown : (i p : ℕ) (T : Trails) (A : Symbols) (s : Symbol) → Within A (Shown T) → (i ≡ p) × A s → Shown (λ t. (i ≡ p) × T t) s
at_shown i p T A s h m = let r = h s m.1 in (r.0, (m.0, r.1), r.2)

head_within : (x : ℕ) (body : Code) (A B : Symbols) → Within A B → Within (Head x body A) (Head x body B)
head_within x body A B h s m = (m.0, turned_within x m.0 (Flow body) (flow_within body) A B h s m.1)

-- the trails of a loop's turns, and the set at its head
loop_flow : (x : ℕ) (body rest : Code) (T : Trails) → Within (Shown (AnyTurns x (From body) (From rest T))) (Head x body (Flow rest (Shown T)))
loop_flow x body rest T s m = from_flow (Loop 0 0 0 x body rest) T s m

flow_loop : (x : ℕ) (body rest : Code) (T : Trails) → HasTrail T → Within (Head x body (Flow rest (Shown T))) (Shown (AnyTurns x (From body) (From rest T)))
flow_loop x body rest T has s m = flow_from (Loop 0 0 0 x body rest) T has s m

-- larger sets give larger sets at each point
pub point_within : (code : Code) (i : ℕ) (A B : Symbols) → Within A B → Within (FlowPoint code i A) (FlowPoint code i B)
point_within Finish i A B h s m = m
point_within (Move x e rest) i A B h s m = point_within rest i A B h s m
point_within (Ask at p x c rest) i A B h s m =
    either_map (λ a. (a.0, flow_within rest A B h s a.1)) (point_within rest i A B h s) m
point_within (Fork at p q test a b rest) i A B h s m =
    let inner = flow_within rest A B h in
    either_map (λ u. (u.0, flow_within a (Flow rest A) (Flow rest B) inner s u.1)) (either_map (λ u. (u.0, flow_within b (Flow rest A) (Flow rest B) inner s u.1)) (either_map (point_within a i (Flow rest A) (Flow rest B) inner s) (either_map (point_within b i (Flow rest A) (Flow rest B) inner s) (point_within rest i A B h s)))) m
point_within (Loop at p n x body rest) i A B h s m =
    either_map (λ u. (u.0, flow_within rest A B h s u.1)) (either_map (point_within body i (Head x body (Flow rest A)) (Head x body (Flow rest B)) (head_within x body (Flow rest A) (Flow rest B) (flow_within rest A B h)) s) (point_within rest i A B h s)) m
point_within (Quit es rest) i A B h s m = point_within rest i A B h s m

pub point_flow : (code : Code) (i : ℕ) (T : Trails) → Within (Shown (FromPoint code i T)) (FlowPoint code i (Shown T))
point_flow Finish i T s m = m.1
point_flow (Move x e rest) i T s m = point_flow rest i T s m
point_flow (Ask at p x c rest) i T s m =
    either_map (shown_at i p (From rest T) (Flow rest (Shown T)) s (from_flow rest T)) (point_flow rest i T s) (shown_either (λ t. (i ≡ p) × From rest T t) (FromPoint rest i T) s m)
point_flow (Fork at p q test a b rest) i T s m =
    let inner = from_flow rest T in
    let F = From rest T in
    let B = Flow rest (Shown T) in
    either_map (shown_at i p (From a F) (Flow a B) s (λ z n. flow_within a (Shown F) B inner z (from_flow a F z n)))
    (λ m1. either_map (shown_at i q (From b F) (Flow b B) s (λ z n. flow_within b (Shown F) B inner z (from_flow b F z n)))
    (λ m2. either_map (λ n. point_within a i (Shown F) B inner s (point_flow a i F s n))
    (λ m3. either_map (λ n. point_within b i (Shown F) B inner s (point_flow b i F s n)) (point_flow rest i T s)
    (shown_either (FromPoint b i F) (FromPoint rest i T) s m3))
    (shown_either (FromPoint a i F) (λ t. FromPoint b i F t ⊎ FromPoint rest i T t) s m2))
    (shown_either (λ t. (i ≡ q) × From b F t) (λ t. FromPoint a i F t ⊎ (FromPoint b i F t ⊎ FromPoint rest i T t)) s m1))
    (shown_either (λ t. (i ≡ p) × From a F t) (λ t. ((i ≡ q) × From b F t) ⊎ (FromPoint a i F t ⊎ (FromPoint b i F t ⊎ FromPoint rest i T t))) s m)
point_flow (Loop at p n x body rest) i T s m =
    let F = AnyTurns x (From body) (From rest T) in
    either_map (shown_at i p (From rest T) (Flow rest (Shown T)) s (from_flow rest T))
    (λ m1. either_map (λ n. point_within body i (Shown F) (Head x body (Flow rest (Shown T))) (loop_flow x body rest T) s (point_flow body i F s n)) (point_flow rest i T s)
    (shown_either (FromPoint body i F) (FromPoint rest i T) s m1))
    (shown_either (λ t. (i ≡ p) × From rest T t) (λ t. FromPoint body i F t ⊎ FromPoint rest i T t) s m)
point_flow (Quit es rest) i T s m = point_flow rest i T s m

pub flow_point : (code : Code) (i : ℕ) (T : Trails) → HasTrail T → Within (FlowPoint code i (Shown T)) (Shown (FromPoint code i T))
flow_point Finish i T has s m = absurd m
flow_point (Move x e rest) i T has s m = flow_point rest i T has s m
flow_point (Ask at p x c rest) i T has s m =
    either_shown (λ t. (i ≡ p) × From rest T t) (FromPoint rest i T) s (either_map (at_shown i p (From rest T) (Flow rest (Shown T)) s (flow_from rest T has)) (flow_point rest i T has s) m)
flow_point (Fork at p q test a b rest) i T has s m =
    let inner = flow_from rest T has in
    let F = From rest T in
    let has_f = from_some rest T has in
    let B = Flow rest (Shown T) in
    either_shown (λ t. (i ≡ p) × From a F t) (λ t. ((i ≡ q) × From b F t) ⊎ (FromPoint a i F t ⊎ (FromPoint b i F t ⊎ FromPoint rest i T t))) s
    (either_map (at_shown i p (From a F) (Flow a B) s (λ z n. flow_from a F has_f z (flow_within a B (Shown F) inner z n)))
    (λ m1. either_shown (λ t. (i ≡ q) × From b F t) (λ t. FromPoint a i F t ⊎ (FromPoint b i F t ⊎ FromPoint rest i T t)) s
    (either_map (at_shown i q (From b F) (Flow b B) s (λ z n. flow_from b F has_f z (flow_within b B (Shown F) inner z n)))
    (λ m2. either_shown (FromPoint a i F) (λ t. FromPoint b i F t ⊎ FromPoint rest i T t) s
    (either_map (λ n. flow_point a i F has_f s (point_within a i B (Shown F) inner s n))
    (λ m3. either_shown (FromPoint b i F) (FromPoint rest i T) s
    (either_map (λ n. flow_point b i F has_f s (point_within b i B (Shown F) inner s n)) (flow_point rest i T has s) m3)) m2)) m1)) m)
flow_point (Loop at p n x body rest) i T has s m =
    let F = AnyTurns x (From body) (From rest T) in
    let has_f = from_some (Loop at p n x body rest) T has in
    either_shown (λ t. (i ≡ p) × From rest T t) (λ t. FromPoint body i F t ⊎ FromPoint rest i T t) s
    (either_map (at_shown i p (From rest T) (Flow rest (Shown T)) s (flow_from rest T has))
    (λ m1. either_shown (FromPoint body i F) (FromPoint rest i T) s
    (either_map (λ n. flow_point body i F has_f s (point_within body i (Head x body (Flow rest (Shown T))) (Shown F) (flow_loop x body rest T has) s n)) (flow_point rest i T has s) m1)) m)
flow_point (Quit es rest) i T has s m = flow_point rest i T has s m

no_step : HasTrail NoStep
no_step = ([], refl)

-- the trail without a step has no operation
nothing_shown : Within (Shown NoStep) (λ z. ⊥)
nothing_shown s m = subst (λ t. Shows t s) m.1 m.2

-- the symbols at a point of a handler are those of the trails from it
pub later_is_flow : (code : Code) (i : ℕ) (s : Symbol) → LaterAt code i s ↔ FlowHandler code i s
later_is_flow code i s = (there, back_again)
  where
    there : LaterAt code i s → FlowHandler code i s
    there m =
        either_map (shown_at i 0 (From code NoStep) (Flow code (λ z. ⊥)) s (λ z n. flow_within code (Shown NoStep) (λ z. ⊥) nothing_shown z (from_flow code NoStep z n))) (λ n. point_within code i (Shown NoStep) (λ z. ⊥) nothing_shown s (point_flow code i NoStep s n)) (shown_either (λ t. (i ≡ 0) × From code NoStep t) (FromPoint code i NoStep) s m)

    back_again : FlowHandler code i s → LaterAt code i s
    back_again m =
        either_shown (λ t. (i ≡ 0) × From code NoStep t) (FromPoint code i NoStep) s (either_map (at_shown i 0 (From code NoStep) (Flow code (λ z. ⊥)) s (λ z n. flow_from code NoStep no_step z (flow_within code (λ z. ⊥) (Shown NoStep) (λ y k. absurd k) z n))) (λ n. flow_point code i NoStep no_step s (point_within code i (λ z. ⊥) (Shown NoStep) (λ y k. absurd k) s n)) m)
