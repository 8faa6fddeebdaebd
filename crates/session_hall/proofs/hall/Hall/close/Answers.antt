use Rattle.std.proofs.Common.{◌∙◌, length, map, ap, arith}
use Rattle.hall_rule.specs.declared.held.Held.TheVariants.{Table}
use Rattle.session_hall.specs.Names.{script_of}
use Rattle.session_hall.proofs.Left.{all_tables, ended_here, is_done, noted_here, parts_long, split_values}
use Rattle.session_hall.proofs.hall.Hall.close.Goals as goal

pub close-requires-clause-ended : goal.close-requires-clause-ended
close-requires-clause-ended g c =
    ended_here g.S.Tickets.meaning c.args.self c.args.callers c.values_of-values.result.0.items c.remove.new.self.items c.remove.result
    (split_values g.S.Tickets.meaning c.args.self c.args.callers c.values_of-values.result.0.items c.remove.new.self.items c.remove.result c.values_of-values.ensures.values c.remove.ensures.value c.remove.ensures.items) c.values_of-values.ensures.values
    c.in-Register.book c.in-Register.is

pub parts_of-requires-clause-tables : goal.parts_of-requires-clause-tables
parts_of-requires-clause-tables g c =
    all_tables g.S.Tickets.meaning c.args.self c.args.callers c.values_of-values.result.0.items c.remove.new.self.items c.remove.result
    (split_values g.S.Tickets.meaning c.args.self c.args.callers c.values_of-values.result.0.items c.remove.new.self.items c.remove.result c.values_of-values.ensures.values c.remove.ensures.value c.remove.ensures.items) c.values_of-values.ensures.values

pub from_vec-parts-requires : goal.from_vec-parts-requires
from_vec-parts-requires g c =
    let few = c.values_of-values.ensures.values.few in
    let all = ap length (split_values g.S.Tickets.meaning c.args.self c.args.callers c.values_of-values.result.0.items c.remove.new.self.items c.remove.result c.values_of-values.ensures.values c.remove.ensures.value c.remove.ensures.items) in
    let moved = parts_long c.parts_of.result.items c.remove.new.self.items c.parts_of.ensures in
    let long = c.parts_of.result.ok in
    omega (arith, few, all, moved, long)

pub invariant_of-result : goal.invariant_of-result
invariant_of-result g c = (
  g.S.Tickets.meaning (script_of c.args.self),
  is_done g.S.Tickets.meaning c.args.self c.args.callers c.values_of-values.result.0.items c.remove.new.self.items c.remove.result
      (split_values g.S.Tickets.meaning c.args.self c.args.callers c.values_of-values.result.0.items c.remove.new.self.items c.remove.result c.values_of-values.ensures.values c.remove.ensures.value c.remove.ensures.items) c.values_of-values.ensures.values
      c.in-Register.book c.in-Register.is c.close.result.0.events c.close.ensures.events c.close.result.1 c.close.ensures.serial c.close.ensures.tables c.from_vec-parts.result (ap (map Table) c.from_vec-parts.ensures ∙ c.parts_of.ensures),
)

pub returns-clause-done : goal.returns-clause-done
returns-clause-done g c =
    is_done g.S.Tickets.meaning c.args.self c.args.callers c.values_of-values.result.0.items c.remove.new.self.items c.remove.result
    (split_values g.S.Tickets.meaning c.args.self c.args.callers c.values_of-values.result.0.items c.remove.new.self.items c.remove.result c.values_of-values.ensures.values c.remove.ensures.value c.remove.ensures.items) c.values_of-values.ensures.values
    c.in-Register.book c.in-Register.is c.close.result.0.events c.close.ensures.events c.close.result.1 c.close.ensures.serial c.close.ensures.tables c.from_vec-parts.result (ap (map Table) c.from_vec-parts.ensures ∙ c.parts_of.ensures)

pub returns-clause-noted : goal.returns-clause-noted
returns-clause-noted g c =
    noted_here g.S.Tickets.meaning c.args.self c.args.callers c.values_of-values.result.0.items c.remove.new.self.items c.remove.result
    (split_values g.S.Tickets.meaning c.args.self c.args.callers c.values_of-values.result.0.items c.remove.new.self.items c.remove.result c.values_of-values.ensures.values c.remove.ensures.value c.remove.ensures.items) c.values_of-values.ensures.values
    c.in-Register.book c.in-Register.is c.close.result.0.events c.close.ensures.events
