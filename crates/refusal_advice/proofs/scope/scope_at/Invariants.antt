use denote.Shadow.{shadow}
use denote.Text.{Utf8}
use Rattle.refusal_advice.proofs.scope.scope_at.Given as goal

-- the token before is a text
abbrev pub invariant-loop-token : goal.invariant-loop-token
invariant-loop-token l = shadow (Utf8 l.last)
