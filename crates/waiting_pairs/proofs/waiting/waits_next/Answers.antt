use Rattle.waiting_pairs.proofs.Adding.{alike_next}
use Rattle.waiting_pairs.proofs.waiting.waits_next.Goals as goal

pub returns-then-alike-point : goal.returns-then-alike-point
returns-then-alike-point c = λ asked k last. (k, alike_next c.args.program.now asked c.args.holder c.args.point c.alike.result c.args.last.items c.if-alike-point.true c.alike.ensures.same last)

pub returns-else-alike-point : goal.returns-else-alike-point
returns-else-alike-point c = λ asked k last. c.waits_at.ensures asked k
