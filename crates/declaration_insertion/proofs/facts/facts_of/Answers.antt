use Rattle.std.proofs.Common.{List, [], ◌∷◌, length, length-append, ap, arith}
use Rattle.std.specs.Prelude.{slice_index_or}
use Rattle.declaration_insertion.specs.Facts.{AreFacts}
use Rattle.declaration_insertion.specs.declared.facts.PointFacts.{PointFacts}
use Rattle.declaration_insertion.proofs.FactLemmas.{more_read}
use Rattle.declaration_insertion.proofs.facts.facts_of.Goals as goal

pub loop-h-preserved : goal.loop-h-preserved
loop-h-preserved c =
    let before = c.loop-h.facts.items in
    let found = c.in_ok-of_handler.of_handler in
    record {
      count = omega (arith, ap length c.in_ok-push.ensures.items, length-append before (found ∷ []), c.loop-h.invariant.count);
      each = more_read (λ k (f : List PointFacts). AreFacts (slice_index_or c.args.later.now k []) f) [] before c.push.new.self.items found c.loop-h.h c.loop-h.invariant.count c.in_ok-push.ensures.items c.loop-h.invariant.each c.in_ok-of_handler.ensures;
    }
