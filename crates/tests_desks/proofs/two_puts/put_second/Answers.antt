use Rattle.std.proofs.Common.{refl}
use Rattle.session_hall.specs.Stages.{flying, waiting}
use Rattle.tests_desks.specs.BookRows.{put_of}
use Rattle.tests_desks.specs.TwoPuts.{may_get, may_put}
use Rattle.tests_desks.proofs.BookRows.{cleared}
use Rattle.tests_desks.proofs.BookSteps.{asks_admit, asks_do, asks_narrow, has_narrowed, was_admitted, was_delayed, was_done}
use Rattle.tests_desks.proofs.TwoPuts.{admits_again, admits_second, does_second, narrows_older}
use Rattle.tests_desks.proofs.two_puts.put_second.Goals as goal

pub admit-requires-clause-may : goal.admit-requires-clause-may
admit-requires-clause-may g c = asks_admit _ _ _ c.requires 1 _ _ c.put_1.ensures admits_second

pub narrow-requires-clause-may : goal.narrow-requires-clause-may
narrow-requires-clause-may g c =
    let a = was_delayed _ _ _ c.admit.new.self c.requires c.admit.ensures.stays 1 _ _ _ c.in-Delayed.older c.in-Delayed.symbol c.put_1.ensures c.in-Delayed.is c.admit.ensures.admits in
    asks_narrow _ _ _ a 0 _ _ (cleared _ _ c.clear.ensures) (narrows_older c.in-Delayed.older c.in-Delayed.symbol)

pub admit-requires-2-clause-may : goal.admit-requires-2-clause-may
admit-requires-2-clause-may g c =
    let a = was_delayed _ _ _ c.admit.new.self c.requires c.admit.ensures.stays 1 _ _ _ c.in-Delayed.older c.in-Delayed.symbol c.put_1.ensures c.in-Delayed.is c.admit.ensures.admits in
    let b = has_narrowed _ _ _ c.narrow.new.self a c.narrow.ensures.stays 0 _ _ 0 (waiting 0 may_get) (cleared _ _ c.clear.ensures) refl refl c.narrow.ensures.narrowed in
    asks_admit _ _ _ b 1 _ _ c.put_1-2.ensures (admits_again c.in-Delayed.older c.in-Delayed.symbol)

pub done-requires-clause-may : goal.done-requires-clause-may
done-requires-clause-may g c =
    let a = was_delayed _ _ _ c.admit.new.self c.requires c.admit.ensures.stays 1 _ _ _ c.in-Delayed.older c.in-Delayed.symbol c.put_1.ensures c.in-Delayed.is c.admit.ensures.admits in
    let b = has_narrowed _ _ _ c.narrow.new.self a c.narrow.ensures.stays 0 _ _ 0 (waiting 0 may_get) (cleared _ _ c.clear.ensures) refl refl c.narrow.ensures.narrowed in
    let d = was_admitted _ _ _ c.admit-2.new.self b c.admit-2.ensures.stays 1 _ _ c.admit-2.result 1 (waiting 1 may_put) c.put_1-2.ensures c.in-Admitted.is refl refl c.admit-2.ensures.admits in
    asks_do _ _ _ d 1 _ _ _ (cleared _ _ c.clear.ensures) (does_second c.in-Delayed.older c.in-Delayed.symbol)

pub returns : goal.returns
returns g c =
    let a = was_delayed _ _ _ c.admit.new.self c.requires c.admit.ensures.stays 1 _ _ _ c.in-Delayed.older c.in-Delayed.symbol c.put_1.ensures c.in-Delayed.is c.admit.ensures.admits in
    let b = has_narrowed _ _ _ c.narrow.new.self a c.narrow.ensures.stays 0 _ _ 0 (waiting 0 may_get) (cleared _ _ c.clear.ensures) refl refl c.narrow.ensures.narrowed in
    let d = was_admitted _ _ _ c.admit-2.new.self b c.admit-2.ensures.stays 1 _ _ c.admit-2.result 1 (waiting 1 may_put) c.put_1-2.ensures c.in-Admitted.is refl refl c.admit-2.ensures.admits in
    was_done _ _ _ c.done.new.self d c.done.ensures.stays 1 _ _ _ 1 (flying 1 may_put (put_of 1 7)) (put_of 1 7) (cleared _ _ c.clear.ensures) refl refl refl c.done.ensures.did
