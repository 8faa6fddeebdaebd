use Rattle.std.proofs.Common.{◌≡◌, ◌+◌, ◌++◌, ◌∷◌, [], Bool, List, ap, arith, sym, take, ◌∙◌}
use Rattle.session_values.specs.Opening.{AreApart, Pair}
use Rattle.shard_tables.specs.Either.{entries_in}
use Rattle.shard_tables.specs.declared.part.Part.{Part}
use Rattle.live_session.specs.Held.{lists_in}
use Rattle.live_session.specs.Moving.{marked_by, marked_by_all}
use Rattle.live_session.proofs.DumpLemmas.{all_more}
use Rattle.live_session.proofs.Filled.{lists_push, take_push}
use Rattle.live_session.proofs.Kept.{all_push}
use Rattle.live_session.proofs.renewing.mark_parts.Goals as goal

pub loop-part-preserved : goal.loop-part-preserved
loop-part-preserved c =
    let ps : List Part = c.args.parts.now in
    let i = c.loop-part.part-index in
    let p : Part = c.part-item.result in
    let old : List Bool = c.args.flags.now.items in
    let more : lists_in (take (i + 1) ps) ≡ lists_in (take i ps) ++ entries_in p ∷ [] =
    ap lists_in (take_push ps i p (omega arith) c.part-item.is) ∙ lists_push (take i ps) p in
    record {
      marked = c.mark_part.ensures.marked
          ∙ ap (λ (fs : List Bool). marked_by fs (entries_in p)) c.loop-part.invariant.marked
          ∙ sym (all_push old (lists_in (take i ps)) (entries_in p))
          ∙ ap (marked_by_all old) (sym more);
      apart = all_more AreApart ps i p (omega arith) c.part-item.is c.loop-part.invariant.apart c.mark_part.ensures.apart;
    }
