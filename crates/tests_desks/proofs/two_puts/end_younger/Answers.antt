use Rattle.std.proofs.Common.{refl, []}
use Rattle.session_hall.specs.Stages.{waiting}
use Rattle.tests_desks.proofs.BookSteps.{asks_end, has_ended}
use Rattle.tests_desks.proofs.TwoPuts.{ends_younger}
use Rattle.tests_desks.proofs.two_puts.end_younger.Goals as goal

pub end-requires-clause-may : goal.end-requires-clause-may
end-requires-clause-may c = asks_end _ _ _ c.requires 1 _ _ c.nil.ensures (ends_younger c.args.older c.args.symbol)

pub returns : goal.returns
returns c = has_ended _ _ _ c.end.new.self c.requires c.end.ensures.stays 1 _ _ 1 (waiting 1 []) c.nil.ensures refl refl c.end.ensures.ended
