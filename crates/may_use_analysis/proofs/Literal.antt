-- Carrying back, as the text says it: an operation's arguments go back over the steps before it, last step first.
use Rattle.std.proofs.Common.{List, [], ◌∷◌, ◌++◌, refl, sym, ap, ◌∙◌, subst, inl, inr, ◌↔◌}
use Rattle.check_meaning.specs.declared.tree.CheckedCall.{CheckedCall}
use Rattle.symbolic_ops.specs.declared.symbol.Symbol.{Symbol}
use Rattle.may_use_analysis.specs.Steps.{symbol_of}
use Rattle.may_use_analysis.specs.Steps.{Step, Copy, Constant, Other, Call, End, back}
use Rattle.may_use_analysis.specs.Trails.{IsOwn, Shows, carried_back, ShowsSomewhere}

own_somewhere : (step : Step) (rest : List Step) (s : Symbol) → IsOwn step s → ShowsSomewhere (step ∷ rest) s
own_somewhere (Copy x y) rest s own = absurd own
own_somewhere (Constant x v) rest s own = absurd own
own_somewhere (Other x) rest s own = absurd own
own_somewhere (Call c) rest s own = ([], c, rest, refl, own)
own_somewhere End rest s own = absurd own

pub shows_somewhere : (t : List Step) (s : Symbol) → Shows t s → ShowsSomewhere t s
shows_somewhere [] s m = absurd m
shows_somewhere (step ∷ rest) s (inl own) = own_somewhere step rest s own
shows_somewhere (step ∷ rest) s (inr later) =
    let w = shows_somewhere rest later.0 later.1 in
    (step ∷ w.0, w.1, w.2, ap (λ z. step ∷ z) w.3, later.2 ∙ ap (back step) w.4)

shows_at : (before : List Step) (c : CheckedCall) (rest : List Step) → Shows (before ++ Call c ∷ rest) (carried_back before (symbol_of c))
shows_at [] c rest = inl refl
shows_at (step ∷ before) c rest = inr (carried_back before (symbol_of c), shows_at before c rest, refl)

pub somewhere_shows : (t : List Step) (s : Symbol) → ShowsSomewhere t s → Shows t s
somewhere_shows t s w =
    subst (λ z. Shows z s) (sym w.3) (subst (Shows (w.0 ++ Call w.1 ∷ w.2)) (sym w.4) (shows_at w.0 w.1 w.2))

pub literally : (t : List Step) (s : Symbol) → Shows t s ↔ ShowsSomewhere t s
literally t s = (shows_somewhere t s, somewhere_shows t s)
