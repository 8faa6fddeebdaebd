use Rattle.std.proofs.Common.{refl, ◌∙◌, ap}
use Rattle.symbolic_ops.specs.Matching.{exact_symbol}
use Rattle.session_hall.specs.Stages.{flying, waiting}
use Rattle.tests_desks.specs.BookRows.{put_of}
use Rattle.tests_desks.specs.TwoPuts.{may_put_both}
use Rattle.tests_desks.proofs.BookSteps.{asks_admit, asks_do, was_admitted, was_done}
use Rattle.tests_desks.proofs.HallCalls.{pushed}
use Rattle.tests_desks.proofs.TwoPuts.{admits_first, does_first}
use Rattle.tests_desks.proofs.two_puts.put_first.Goals as goal

pub admit-requires-clause-may : goal.admit-requires-clause-may
admit-requires-clause-may g c = asks_admit _ _ _ c.requires.book 1 _ _ c.put_2.ensures admits_first

pub done-requires-clause-may : goal.done-requires-clause-may
done-requires-clause-may g c =
    let a = was_admitted _ _ _ c.admit.new.self c.requires.book c.admit.ensures.stays 1 _ _ c.admit.result 1 (waiting 1 may_put_both) c.put_2.ensures c.in-Admitted.is refl refl c.admit.ensures.admits in
    asks_do _ _ _ a 1 _ _ _ (pushed _ _ _ _ _ c.clear.ensures c.push.ensures (c.exact.ensures ∙ ap exact_symbol c.put_1.ensures)) does_first

pub returns : goal.returns
returns g c =
    let a = was_admitted _ _ _ c.admit.new.self c.requires.book c.admit.ensures.stays 1 _ _ c.admit.result 1 (waiting 1 may_put_both) c.put_2.ensures c.in-Admitted.is refl refl c.admit.ensures.admits in
    was_done _ _ _ c.done.new.self a c.done.ensures.stays 1 _ _ _ 1 (flying 1 may_put_both (put_of 2 7)) (put_of 2 7) (pushed _ _ _ _ _ c.clear.ensures c.push.ensures (c.exact.ensures ∙ ap exact_symbol c.put_1.ensures)) refl refl refl c.done.ensures.did
