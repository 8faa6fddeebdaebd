use Rattle.tests_desks.proofs.BookRows.{admits_as, cleared, may_admit, was_delayed, may_narrow_one, has_narrowed_one, may_narrow, has_narrowed, may_admit_now, was_admitted, may_do, was_done}
use Rattle.tests_desks.proofs.books.put_when_free.Goals as goal

pub admit-requires-clause-may : goal.admit-requires-clause-may
admit-requires-clause-may g c = rw c.put_2.ensures (may_admit c.args.book.now c.requires)

pub narrow-requires-clause-may : goal.narrow-requires-clause-may
narrow-requires-clause-may g c =
    let none = cleared _ _ c.clear.ensures in
    let a = was_delayed c.in-Delayed.older c.in-Delayed.symbol c.args.book.now c.admit.new.self c.admit.ensures.stays c.admit.result c.requires (admits_as c.args.book.now.book c.admit.new.self.book 2 _ _ c.admit.result c.put_2.ensures c.admit.ensures.admits) c.in-Delayed.is in
    may_narrow_one c.in-Delayed.older c.in-Delayed.symbol c.admit.new.self c.clear.new.self.symbols a none

pub narrow-requires-2-clause-may : goal.narrow-requires-2-clause-may
narrow-requires-2-clause-may g c =
    let none = cleared _ _ c.clear.ensures in
    let a = was_delayed c.in-Delayed.older c.in-Delayed.symbol c.args.book.now c.admit.new.self c.admit.ensures.stays c.admit.result c.requires (admits_as c.args.book.now.book c.admit.new.self.book 2 _ _ c.admit.result c.put_2.ensures c.admit.ensures.admits) c.in-Delayed.is in
    let b = has_narrowed_one c.in-Delayed.older c.in-Delayed.symbol c.admit.new.self c.narrow.new.self c.narrow.ensures.stays c.clear.new.self.symbols a none c.narrow.ensures.narrowed in
    may_narrow c.in-Delayed.older c.in-Delayed.symbol c.narrow.new.self c.clear.new.self.symbols b none

pub admit-requires-2-clause-may : goal.admit-requires-2-clause-may
admit-requires-2-clause-may g c =
    let none = cleared _ _ c.clear.ensures in
    let a = was_delayed c.in-Delayed.older c.in-Delayed.symbol c.args.book.now c.admit.new.self c.admit.ensures.stays c.admit.result c.requires (admits_as c.args.book.now.book c.admit.new.self.book 2 _ _ c.admit.result c.put_2.ensures c.admit.ensures.admits) c.in-Delayed.is in
    let b = has_narrowed_one c.in-Delayed.older c.in-Delayed.symbol c.admit.new.self c.narrow.new.self c.narrow.ensures.stays c.clear.new.self.symbols a none c.narrow.ensures.narrowed in
    let d = has_narrowed c.in-Delayed.older c.in-Delayed.symbol c.narrow.new.self c.narrow-2.new.self c.narrow-2.ensures.stays c.clear.new.self.symbols b none c.narrow-2.ensures.narrowed in
    rw c.put_2-2.ensures (may_admit_now c.in-Delayed.older c.in-Delayed.symbol c.narrow-2.new.self d)

pub done-requires-clause-may : goal.done-requires-clause-may
done-requires-clause-may g c =
    let none = cleared _ _ c.clear.ensures in
    let a = was_delayed c.in-Delayed.older c.in-Delayed.symbol c.args.book.now c.admit.new.self c.admit.ensures.stays c.admit.result c.requires (admits_as c.args.book.now.book c.admit.new.self.book 2 _ _ c.admit.result c.put_2.ensures c.admit.ensures.admits) c.in-Delayed.is in
    let b = has_narrowed_one c.in-Delayed.older c.in-Delayed.symbol c.admit.new.self c.narrow.new.self c.narrow.ensures.stays c.clear.new.self.symbols a none c.narrow.ensures.narrowed in
    let d = has_narrowed c.in-Delayed.older c.in-Delayed.symbol c.narrow.new.self c.narrow-2.new.self c.narrow-2.ensures.stays c.clear.new.self.symbols b none c.narrow-2.ensures.narrowed in
    let e = was_admitted c.in-Delayed.older c.in-Delayed.symbol c.narrow-2.new.self c.admit-2.new.self c.admit-2.ensures.stays c.admit-2.result d (admits_as c.narrow-2.new.self.book c.admit-2.new.self.book 2 _ _ c.admit-2.result c.put_2-2.ensures c.admit-2.ensures.admits) c.in-Admitted.is in
    may_do c.in-Delayed.older c.in-Delayed.symbol c.admit-2.new.self c.clear.new.self.symbols e none

pub returns : goal.returns
returns g c =
    let none = cleared _ _ c.clear.ensures in
    let a = was_delayed c.in-Delayed.older c.in-Delayed.symbol c.args.book.now c.admit.new.self c.admit.ensures.stays c.admit.result c.requires (admits_as c.args.book.now.book c.admit.new.self.book 2 _ _ c.admit.result c.put_2.ensures c.admit.ensures.admits) c.in-Delayed.is in
    let b = has_narrowed_one c.in-Delayed.older c.in-Delayed.symbol c.admit.new.self c.narrow.new.self c.narrow.ensures.stays c.clear.new.self.symbols a none c.narrow.ensures.narrowed in
    let d = has_narrowed c.in-Delayed.older c.in-Delayed.symbol c.narrow.new.self c.narrow-2.new.self c.narrow-2.ensures.stays c.clear.new.self.symbols b none c.narrow-2.ensures.narrowed in
    let e = was_admitted c.in-Delayed.older c.in-Delayed.symbol c.narrow-2.new.self c.admit-2.new.self c.admit-2.ensures.stays c.admit-2.result d (admits_as c.narrow-2.new.self.book c.admit-2.new.self.book 2 _ _ c.admit-2.result c.put_2-2.ensures c.admit-2.ensures.admits) c.in-Admitted.is in
    was_done c.in-Delayed.older c.in-Delayed.symbol c.admit-2.new.self c.done.new.self c.done.ensures.stays c.clear.new.self.symbols e none c.done.ensures.did
