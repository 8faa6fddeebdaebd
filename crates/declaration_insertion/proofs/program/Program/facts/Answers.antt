use Rattle.std.proofs.Common.{◌<◌, length, subst, sym, arith}
use Rattle.declaration_insertion.specs.Facts.{HasFacts}
use Rattle.declaration_insertion.specs.Program.{ProgramView, declared_at}
use Rattle.declaration_insertion.proofs.FactLemmas.{facts_read}
use Rattle.declaration_insertion.proofs.program.Program.facts.Goals as goal

pub returns : goal.returns
returns c =
    let p : ProgramView = record { file = c.self.inside.checked; lists = c.self.inside.later } in
    let items = c.self.inside.facts.items in
    let inside : c.args.h < length p.file.handlers = subst (λ (v : ProgramView). c.args.h < length v.file.handlers) (sym c.self.view_is) c.requires.handler in
    let within : c.args.h < length items = omega (arith, inside, c.self.invariant.0.later.count, c.self.invariant.1.count) in
    subst (λ (v : ProgramView). HasFacts (declared_at v c.args.h) c.args.point c.get.result.now) c.self.view_is (facts_read p.lists items c.args.h c.args.point c.index.result.now c.get.result.now c.self.invariant.1 within c.index.ensures c.get.ensures)
