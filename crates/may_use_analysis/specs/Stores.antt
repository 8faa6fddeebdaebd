-- The stores that the program holds, as steps. Only this crate's own functions cite it.
use Rattle.may_use_analysis.specs.declared.stores.Store.{Store}
use Rattle.may_use_analysis.specs.declared.stores.Store.TheVariants.{Copy, Constant, Other}
use Rattle.may_use_analysis.specs.Steps as steps

abbrev pub step_of : Store → steps.Step
step_of (Copy x y) = steps.Copy x y
step_of (Constant x v) = steps.Constant x v
step_of (Other x) = steps.Other x
