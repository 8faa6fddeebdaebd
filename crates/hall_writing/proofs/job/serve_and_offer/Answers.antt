use Rattle.std.proofs.Common.{sym}
use Rattle.hall_writing.proofs.Since.{has_offered}
use Rattle.hall_writing.proofs.job.serve_and_offer.Goals as goal

pub shape_of-job : goal.shape_of-job
shape_of-job g c = sym (has_offered _ _ _ _ c.requires.unkept c.serve_tickets.ensures.unkept c.serve_tickets.ensures.given).0

pub returns-clause-offered : goal.returns-clause-offered
returns-clause-offered g c = (has_offered _ _ _ _ c.requires.unkept c.serve_tickets.ensures.unkept c.serve_tickets.ensures.given).1
