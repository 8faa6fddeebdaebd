use Rattle.std.proofs.Common.{◌∙◌, sym, subst}
use Rattle.session_hall.specs.Closings.{HasLeft}
use Rattle.session_hall.proofs.Left.{all_end, has_left, same_seats}
use Rattle.session_hall.proofs.closing.values_of.Goals as goal

pub close-values-requires-clause-all : goal.close-values-requires-clause-all
close-values-requires-clause-all g c =
    all_end g.S.Tickets.meaning c.args.hall c.args.callers c.requires.all c.args.hall.sizes.some_callers c.requires.callers c.from_vec.result
    (c.from_vec.ensures ∙ c.seats_of-seats.ensures ∙ same_seats c.into_vec.result.items c.args.callers c.into_vec.ensures)

pub returns-clause-values : goal.returns-clause-values
returns-clause-values g c =
    let rule = c.close-values.ensures.rule in
    subst (λ l. HasLeft g.S.Tickets.meaning c.args.hall c.args.callers l) (sym c.into_vec-2.ensures)
    (has_left g.S.Tickets.meaning c.args.hall c.args.callers c.requires.all c.args.hall.sizes.some_callers c.requires.callers c.from_vec.result
    (c.from_vec.ensures ∙ c.seats_of-seats.ensures ∙ same_seats c.into_vec.result.items c.args.callers c.into_vec.ensures)
    c.close-values.result c.close-values.ensures.turns rule.0 rule.1 rule.2)
