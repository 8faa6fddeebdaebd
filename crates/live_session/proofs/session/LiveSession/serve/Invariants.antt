use Rattle.std.proofs.Common.{length}
use denote.Shadow.{shadow}
use denote.Text.{Utf8}
use Rattle.live_session.proofs.Batching.{SoFar}
use Rattle.live_session.proofs.session.LiveSession.serve.Given as goal

abbrev pub invariant-lines : goal.invariant-lines
invariant-lines l = record {
  utf8 : shadow (Utf8 l.rest);
  so_far : SoFar l.fn.self l.text l.most l.fn.out.held l.self l.rest l.requests l.out.held;
}

abbrev pub decreases-lines : goal.decreases-lines
decreases-lines l = length l.rest
