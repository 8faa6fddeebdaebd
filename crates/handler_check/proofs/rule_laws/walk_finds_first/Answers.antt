use Rattle.std.proofs.Common.{subst}
use Rattle.handler_check.specs.Rules.{IsBroken}
use Rattle.handler_check.specs.Scan.{Fault}
use Rattle.handler_check.proofs.Finds.{Finds}
use Rattle.handler_check.proofs.Files.{finds_file}
use Rattle.handler_check.proofs.rule_laws.walk_finds_first.Goals as goal

pub returns : goal.returns
returns c = record {
  some = λ f e rise is. subst (λ (w : Fault). Finds w (IsBroken f)) is (finds_file f rise);
  none = λ f rise is. subst (λ (w : Fault). Finds w (IsBroken f)) is (finds_file f rise);
}
