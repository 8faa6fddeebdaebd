use Rattle.std.proofs.Common.{◌≡◌, ℕ, suc, ◌+◌, List, [], ◌∷◌, ◌++◌, length, length-append, inl, inr, refl, sym, ap, ◌∙◌, take, subst, arith}
use Rattle.symbolic_ops.specs.declared.symbol.Symbol.{Symbol}
use Rattle.symbolic_ops.specs.Foresight.{ForesightView}
use Rattle.foresight_c.specs.Tickets.{AreSymbolsOf}
use Rattle.foresight_c.proofs.Symbols.{symbols_next, unread_at}
use Rattle.foresight_c.proofs.ticketing.symbols_of.Goals as goal

pub returns-in-None : goal.returns-in-None
returns-in-None c = inr (omega (arith, c.if-given.false), inl (refl, unread_at c.args.given.now c.loop-g.g-index _ c.loop-g-test.true c.in-None.ensures))

pub loop-g-preserved : goal.loop-g-preserved
loop-g-preserved c =
    let ys : List Symbol = c.loop-g.list.symbols in
    let i : ℕ = c.loop-g.g-index in
    let e : suc i ≡ i + 1 = omega arith in
    let pushed : c.push.new.self.symbols ≡ ys ++ c.in-Some.symbol ∷ [] = ap (λ (f : ForesightView). f.symbols) c.push.ensures in
    let more = symbols_next c.args.given.now ys i _ c.in-Some.symbol c.loop-g-test.true c.in-Some.ensures c.loop-g.invariant.symbols in
    let long = ap (λ (zs : List Symbol). length zs) pushed in
    let one = length-append ys (c.in-Some.symbol ∷ []) in
    record {
      symbols = subst (λ (zs : List Symbol). AreSymbolsOf (take (i + 1) c.args.given.now) zs) (sym pushed)
          (subst (λ (j : ℕ). AreSymbolsOf (take j c.args.given.now) (ys ++ c.in-Some.symbol ∷ [])) e more);
      count = omega (arith, long, one, c.loop-g.invariant.count);
      room = ap (λ (f : ForesightView). f.room) c.push.ensures ∙ c.loop-g.invariant.room;
    }
