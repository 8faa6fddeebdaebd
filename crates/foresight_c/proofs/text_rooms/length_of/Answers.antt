use Rattle.std.proofs.Common.{arith}
use Rattle.byte_ends.proofs.Paged.{ended}
use Rattle.foresight_c.proofs.Filling.{counted_end, counted_past, counted_start}
use Rattle.foresight_c.proofs.text_rooms.length_of.Goals as goal

pub returns-then-counter-lt18446744073709551615 : goal.returns-then-counter-lt18446744073709551615
returns-then-counter-lt18446744073709551615 g c =
    counted_end c.put_text.new.out.count (g.P.PutsText.text c.args.text.now) (ended c.put_text.ensures (counted_start (g.P.PutsText.text c.args.text.now))) c.if-counter-lt18446744073709551615.true

pub returns-else-counter-lt18446744073709551615 : goal.returns-else-counter-lt18446744073709551615
returns-else-counter-lt18446744073709551615 g c =
    counted_past c.put_text.new.out.count (g.P.PutsText.text c.args.text.now) (ended c.put_text.ensures (counted_start (g.P.PutsText.text c.args.text.now))) (omega (arith, c.if-counter-lt18446744073709551615.false))
