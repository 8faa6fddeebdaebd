use Rattle.std.proofs.Common.{◌≡◌, ◌≤◌, List, length, refl, ap, subst, ◌∙◌, arith}
use Rattle.std.specs.List.{AllByRecursion}
use Rattle.std.proofs.lemmas.List.{with_items_is}
use Rattle.symbolic_ops.specs.declared.symbol.Symbol.{Symbol}
use Rattle.symbolic_ops.specs.Foresight.{ForesightView}
use Rattle.session_journal.specs.Script.{Meaning, declared_with}
use Rattle.admission_book.specs.Foresights.{MarkedView}
use Rattle.admission_book.specs.Touched.{IsTouched}
use Rattle.admission_book.proofs.Known.{sited_known, taken_known}
use Rattle.admission_book.proofs.marked_foresight.MarkedForesight.take_entry.Goals as goal

pub returns-in-Some : goal.returns-in-Some
returns-in-Some g c =
    let m : Meaning = g.S.Tickets.meaning c.args.script.now in
    let all : length c.entry_site.new.values ≡ c.self.inside.values.len = omega (arith, c.entry_site.ensures.room, c.self.invariant, c.self.inside.values.ok.0) in
    let told : declared_with m c.in-Some.site c.entry_site.new.values ≡ m.entry c.args.t = c.in-Some.ensures.site.1 in
    let roomy : 256 ≤ c.self.inside.list.room = omega (arith, c.requires.room, ap (λ (f : MarkedView). f.list.room) c.self.view_is) in
    sited_known m _ c.in-Some.site (m.entry c.args.t) c.declaration.result.now refl c.in-Some.ensures.site.0 roomy (ap (declared_with m c.in-Some.site) (with_items_is c.self.inside.values c.entry_site.new.values all) ∙ told) c.declaration.ensures c.of-self-inside.ensures

pub returns-in-None : goal.returns-in-None
returns-in-None g c =
    let roomy : 256 ≤ c.self.inside.list.room = omega (arith, c.requires.room, ap (λ (f : MarkedView). f.list.room) c.self.view_is) in
    let P : List Symbol → Type 0 = λ l. AllByRecursion (λ s. IsTouched c.of-self-inside-in-None.result s) l in
    let are = c.symbols.ensures.symbols ∙ ap (λ (f : ForesightView). f.symbols) c.entry.ensures in
    taken_known (g.S.Tickets.meaning c.args.script.now) _ _ _ refl c.entry.ensures roomy (subst P are c.of-self-inside-in-None.ensures)
