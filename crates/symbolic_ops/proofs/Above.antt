-- Lists of symbols that cover others, and the operations that they stand for.
use Rattle.std.proofs.Common.{◌≡◌, List, [], ◌∷◌, inl, inr, refl, sym, ◌∙◌}
use Rattle.std.specs.List.{AllByRecursion}
use Rattle.session_values.specs.declared.op.Op.{Op}
use Rattle.session_values.specs.Op.{IsHeld}
use Rattle.session_values.specs.declared.value.Value.{Value}
use Rattle.symbolic_ops.specs.declared.arg.Arg.{Arg}
use Rattle.symbolic_ops.specs.declared.arg.Arg.TheVariants.{Known, Var, Any}
use Rattle.symbolic_ops.specs.declared.symbol.Symbol.{Symbol}
use Rattle.symbolic_ops.specs.Matching.{Agrees, ArgBelow, Below, Covered, HasNoVar, IsBelowSome, IsNoVar, Matches, StandsFor, exact_symbol}

arg_below : (a : Arg) → IsNoVar a → ArgBelow a a
arg_below (Known v) h = refl
arg_below (Var x) h = h
arg_below Any h = tt

below_itself : (s : Symbol) → HasNoVar s → Below s s
below_itself s h = record { kind = refl; table = refl; key = arg_below s.key h.0; value = arg_below s.value h.1 }

-- more symbols cover no less
more_above : (g f : List Symbol) (s : Symbol) → Covered g f → Covered g (s ∷ f)
more_above [] f s h = tt
more_above (x ∷ g) f s h = (inr h.0, more_above g f s h.1)

pub covered_itself : (f : List Symbol) → AllByRecursion HasNoVar f → Covered f f
covered_itself [] h = tt
covered_itself (s ∷ f) h = (inl (below_itself s h.0), more_above f f s (covered_itself f h.1))

arg_through : (a b c : Arg) → ArgBelow a b → ArgBelow b c → ArgBelow a c
arg_through a b Any p q = tt
arg_through (Known u) (Known v) (Known w) p q = p ∙ q
arg_through (Known u) (Var y) (Known w) p q = absurd p
arg_through (Known u) Any (Known w) p q = absurd q
arg_through (Var x) (Known v) (Known w) p q = absurd p
arg_through (Var x) (Var y) (Known w) p q = absurd q
arg_through (Var x) Any (Known w) p q = absurd q
arg_through Any (Known v) (Known w) p q = absurd p
arg_through Any (Var y) (Known w) p q = absurd q
arg_through Any Any (Known w) p q = absurd q
arg_through a (Known v) (Var z) p q = absurd q
arg_through a (Var y) (Var z) p q = absurd q
arg_through a Any (Var z) p q = absurd q

below_through : (a b c : Symbol) → Below a b → Below b c → Below a c
below_through a b c p q = record { kind = p.kind ∙ q.kind; table = p.table ∙ q.table; key = arg_through a.key b.key c.key p.key q.key; value = arg_through a.value b.value c.value p.value q.value }

below_some : (a b : Symbol) (h : List Symbol) → Below a b → IsBelowSome b h → IsBelowSome a h
below_some a b [] p q = q
below_some a b (c ∷ h) p (inl q) = inl (below_through a b c p q)
below_some a b (c ∷ h) p (inr q) = inr (below_some a b h p q)

some_through : (a : Symbol) (g h : List Symbol) → IsBelowSome a g → Covered g h → IsBelowSome a h
some_through a [] h p q = absurd p
some_through a (b ∷ g) h (inl p) q = below_some a b h p q.0
some_through a (b ∷ g) h (inr p) q = some_through a g h p q.1

pub covered_through : (f g h : List Symbol) → Covered f g → Covered g h → Covered f h
covered_through [] g h p q = tt
covered_through (a ∷ f) g h p q = (some_through a g h p.0 q, covered_through f g h p.1 q)

agrees : (a b : Arg) (v : Value) → ArgBelow a b → Agrees a v → Agrees b v
agrees a Any v p q = tt
agrees (Known u) (Known w) v p q = sym p ∙ q
agrees (Var x) (Known w) v p q = absurd p
agrees Any (Known w) v p q = absurd p
agrees (Known u) (Var y) v p q = absurd p
agrees (Var x) (Var y) v p q = absurd p
agrees Any (Var y) v p q = absurd p

stands : (g s : Symbol) (op : Op) → Below g s → StandsFor g op → StandsFor s op
stands g s op b h = record { held = h.held; kind = sym b.kind ∙ h.kind; table = sym b.table ∙ h.table; key = agrees g.key s.key op.key b.key h.key; value = agrees g.value s.value op.value b.value h.value }

matches_some : (g : Symbol) (f : List Symbol) (op : Op) → IsBelowSome g f → StandsFor g op → Matches f op
matches_some g [] op b h = absurd b
matches_some g (s ∷ f) op (inl b) h = inl (stands g s op b h)
matches_some g (s ∷ f) op (inr b) h = inr (matches_some g f op b h)

pub covered_matches : (g f : List Symbol) (op : Op) → Covered g f → Matches g op → Matches f op
covered_matches [] f op c h = absurd h
covered_matches (s ∷ g) f op c (inl h) = matches_some s f op c.0 h
covered_matches (s ∷ g) f op c (inr h) = covered_matches g f op c.1 h

pub exact_stands : (op : Op) → IsHeld op → StandsFor (exact_symbol op) op
exact_stands op h = record { held = h; kind = refl; table = refl; key = refl; value = refl }

pub exact_alone : (op b : Op) → StandsFor (exact_symbol op) b → b ≡ op
exact_alone op b s = λ i. record { kind = sym s.kind i; table = sym s.table i; key = sym s.key i; value = sym s.value i }
