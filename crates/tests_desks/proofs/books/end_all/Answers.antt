use Rattle.tests_desks.proofs.BookRows.{ended_as, may_end_one, one_has_ended, may_end_two, two_have_ended, may_end_three, three_have_ended}
use Rattle.tests_desks.proofs.books.end_all.Goals as goal

pub end-requires-clause-may : goal.end-requires-clause-may
end-requires-clause-may c = rw c.nil.ensures (may_end_one c.args.older c.args.symbol c.args.book.now c.requires)

pub end-requires-2-clause-may : goal.end-requires-2-clause-may
end-requires-2-clause-may c =
    let a = one_has_ended c.args.older c.args.symbol c.args.book.now c.end.new.self c.end.ensures.stays c.requires (ended_as c.args.book.now.book c.end.new.self.book 0 _ _ c.nil.ensures c.end.ensures.ended) in
    rw c.nil-2.ensures (may_end_two c.args.older c.args.symbol c.end.new.self a)

pub end-requires-3-clause-may : goal.end-requires-3-clause-may
end-requires-3-clause-may c =
    let a = one_has_ended c.args.older c.args.symbol c.args.book.now c.end.new.self c.end.ensures.stays c.requires (ended_as c.args.book.now.book c.end.new.self.book 0 _ _ c.nil.ensures c.end.ensures.ended) in
    let b = two_have_ended c.args.older c.args.symbol c.end.new.self c.end-2.new.self c.end-2.ensures.stays a (ended_as c.end.new.self.book c.end-2.new.self.book 1 _ _ c.nil-2.ensures c.end-2.ensures.ended) in
    rw c.nil-3.ensures (may_end_three c.args.older c.args.symbol c.end-2.new.self b)

pub returns : goal.returns
returns c =
    let a = one_has_ended c.args.older c.args.symbol c.args.book.now c.end.new.self c.end.ensures.stays c.requires (ended_as c.args.book.now.book c.end.new.self.book 0 _ _ c.nil.ensures c.end.ensures.ended) in
    let b = two_have_ended c.args.older c.args.symbol c.end.new.self c.end-2.new.self c.end-2.ensures.stays a (ended_as c.end.new.self.book c.end-2.new.self.book 1 _ _ c.nil-2.ensures c.end-2.ensures.ended) in
    three_have_ended c.args.older c.args.symbol c.end-2.new.self c.end-3.new.self c.end-3.ensures.stays b (ended_as c.end-2.new.self.book c.end-3.new.self.book 2 _ _ c.nil-3.ensures c.end-3.ensures.ended)
