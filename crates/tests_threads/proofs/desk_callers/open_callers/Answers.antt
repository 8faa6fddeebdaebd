use Rattle.std.proofs.Common.{length, sym, ap, ◌∙◌}
use Rattle.std.specs.Prelude.{slice_get}
use Rattle.tests_threads.proofs.desk_callers.open_callers.Goals as goal

pub returns : goal.returns
returns g c = record {
  script = c.in_ok-hall.ensures.script;
  count = ap length c.into_vec.ensures ∙ c.in_ok-hall.ensures.count;
  callers_are = c.in_ok-hall.ensures.sizes.2;
  opens = λ i d e. c.in_ok-hall.ensures.callers i d (ap (λ l. slice_get l i) (sym c.into_vec.ensures) ∙ e);
}
