use Rattle.std.proofs.Common.{◌≡◌, ◌≤◌, List, length, arith, subst, take}
use Rattle.std.proofs.lemmas.List.{take_all}
use Rattle.std.specs.List.{AllByRecursion}
use Rattle.session_journal.specs.Opening.{AreApart, Pair}
use Rattle.shard_tables.specs.declared.part.Part.{Part}
use Rattle.table_lines.specs.Dumped.{HaveRoom}
use Rattle.serve_single.specs.Tables.{lists_in}
use Rattle.serve_single.proofs.Dumping.{all_more, more_room}
use Rattle.serve_single.proofs.writing.most_entries.Goals as goal

pub loop-part-preserved : goal.loop-part-preserved
loop-part-preserved c =
    let ps : List Part = c.args.parts.now in
    let inv = c.loop-part.invariant in
    let old = c.larger-most.ensures.first in
    let new = c.larger-most.ensures.second in
    record {
      room = all_more (λ (es : List Pair). length es ≤ c.larger-most.result) ps c.loop-part.part-index c.part-item.result (omega arith) c.part-item.is
          (more_room (lists_in (take c.loop-part.part-index ps)) c.loop-part.most c.larger-most.result old inv.room) (omega (arith, new, c.len.ensures.entries));
      apart = all_more AreApart ps c.loop-part.part-index c.part-item.result (omega arith) c.part-item.is inv.apart c.len.ensures.apart;
    }

pub returns : goal.returns
returns c =
    let all : take c.loop-part.part-index c.args.parts.now ≡ c.args.parts.now = take_all c.loop-part.part-index c.args.parts.now c.loop-part-test.false in
    record {
      room = subst (λ (ps : List Part). HaveRoom c.loop-part.most (lists_in ps)) all c.loop-part.invariant.room;
      apart = subst (λ (ps : List Part). AllByRecursion AreApart (lists_in ps)) all c.loop-part.invariant.apart;
    }
