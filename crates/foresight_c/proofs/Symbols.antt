-- The symbols that C gives, one after another.
use Rattle.std.proofs.Common.{ℕ, zero, suc, ◌<◌, List, [], ◌∷◌, ◌++◌, length, take, get_or, inl, inr, refl, arith}
use Rattle.symbolic_ops.specs.declared.symbol.Symbol.{Symbol}
use Rattle.foresight_c.specs.declared.values.COperation.{COperation}
use Rattle.foresight_c.specs.Reading.{IsSymbolOf, IsUnread}
use Rattle.foresight_c.specs.Tickets.{AreSymbolsOf, HasUnread}

pub symbols_next : (gs : List COperation) (ys : List Symbol) (i : ℕ) (d : COperation) (y : Symbol) → i < length gs → IsSymbolOf (get_or gs i d) y → AreSymbolsOf (take i gs) ys → AreSymbolsOf (take (suc i) gs) (ys ++ y ∷ [])
symbols_next [] ys i d y l s h = let no : ⊥ = omega (arith, l) in absurd no
symbols_next (x ∷ gs) [] zero d y l s h = (s, refl)
symbols_next (x ∷ gs) (z ∷ ys) zero d y l s h = let no : ⊥ = cc in absurd no
symbols_next (x ∷ gs) [] (suc i) d y l s h = absurd h
symbols_next (x ∷ gs) (z ∷ ys) (suc i) d y l s h = let l2 : i < length gs = omega (arith, l) in (h.0, symbols_next gs ys i d y l2 s h.1)

pub unread_at : (gs : List COperation) (i : ℕ) (d : COperation) → i < length gs → IsUnread 4 (get_or gs i d) → HasUnread gs
unread_at [] i d l u = let no : ⊥ = omega (arith, l) in absurd no
unread_at (x ∷ gs) zero d l u = inl u
unread_at (x ∷ gs) (suc i) d l u = let l2 : i < length gs = omega (arith, l) in inr (unread_at gs i d l2 u)
