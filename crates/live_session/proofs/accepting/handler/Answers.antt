use Rattle.request_files.proofs.HandlerLemmas.{handler_none, handler_some}
use Rattle.live_session.proofs.accepting.handler.Goals as goal

pub returns-in-Some : goal.returns-in-Some
returns-in-Some c = handler_some _ _ _ _ _ c.in-Some.ensures.index c.find-in-Some.ensures.index

pub returns-in-None : goal.returns-in-None
returns-in-None c = handler_none _ _ _ c.requires c.in-None.ensures.index
