use Rattle.std.proofs.Common.{◌≡◌, drop, take}
use Rattle.std.specs.List.{AllByRecursion}
use Rattle.live_session.specs.ArgumentWords as spec
use Rattle.live_session.proofs.argument.first_fault.Given as goal

abbrev pub invariant-loop-argument : goal.invariant-loop-argument
invariant-loop-argument l = record {
  same : spec.first_fault l.names (drop l.argument-index l.arguments) ≡ spec.first_fault l.names l.arguments;
  held : AllByRecursion spec.IsHeld (take l.argument-index l.arguments);
}
