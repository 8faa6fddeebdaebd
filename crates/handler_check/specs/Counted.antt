-- Which operations a bound counts. Only this crate's own functions cite it.
use Rattle.check_meaning.specs.Bounds.{Weight, every, adding}
use Rattle.handler_check.specs.declared.bounds.Counted.{Counted}
use Rattle.handler_check.specs.declared.bounds.Counted.TheVariants.{Every, Adding}

-- each operation counts, or those alone that may add a key to this table
abbrev pub weight_of : Counted → Weight
weight_of Every = every
weight_of (Adding t) = adding t
