use Rattle.std.proofs.Common.{◌≡◌, ◌-◌, ◌++◌, IfSome, Some, take, drop, length, ap, ◌∙◌, subst, arith, length-drop}
use Rattle.std.proofs.Math.Seq.{take-add}
use Rattle.std.proofs.lemmas.List.{take_all}
use Rattle.byte_ends.proofs.EndsLemmas.{grew_more}
use Rattle.byte_ends.proofs.writing.write_all.Goals as goal

pub pieces-preserved : goal.pieces-preserved
pieces-preserved g c =
    let bytes = c.args.bytes.now in
    let at = c.pieces.at in
    let tail : take (length bytes - at) (drop at bytes) ≡ drop at bytes = take_all (length bytes - at) (drop at bytes) (omega (arith, length-drop at bytes)) in
    let takes = c.in-Took.ensures.takes in
    let wrote = subst (λ xs. IfSome (g.O.Sink.held c.pieces.out) (λ held. g.O.Sink.held c.write.new.self ≡ Some (held ++ take c.in-Took.n xs))) tail takes.2 in
    record {
      grew = rw (take-add at c.in-Took.n bytes) (grew_more _ _ _ (take at bytes) (take c.in-Took.n (drop at bytes)) c.pieces.invariant.grew wrote);
      still = λ empty. absurd (omega (arith, ap length empty, c.pieces-test.true));
      within = omega (arith, takes.1, ap length tail, length-drop at bytes, c.pieces.invariant.within);
      well = c.in-Took.ensures.counts ∙ c.pieces.invariant.well;
    }
