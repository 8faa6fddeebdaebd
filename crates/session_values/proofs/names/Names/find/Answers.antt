use Rattle.std.proofs.Common.{sym, ◌∙◌}
use Rattle.session_values.proofs.NamesLemmas.{found, not_found, Contains-known, texts, position-texts}
use Rattle.session_values.proofs.names.Names.find.Goals as goal

pub returns-in-Some-clause-found : goal.returns-in-Some-clause-found
returns-in-Some-clause-found c =
    rw (← c.self.view_is) (found c.args.text.now c.self.inside.texts.keys c.in-Some.place (sym c.in-Some.ensures.index)).at

pub returns-in-None-clause-none : goal.returns-in-None-clause-none
returns-in-None-clause-none c =
    rw (← c.self.view_is) (Contains-known (texts c.self.inside.texts.keys) c.args.text.now (not_found c.args.text.now c.self.inside.texts.keys (sym c.in-None.ensures.index)))

pub returns-in-Some-clause-index : goal.returns-in-Some-clause-index
returns-in-Some-clause-index c = rw (← c.self.view_is) (c.in-Some.ensures.index ∙ position-texts c.args.text.now c.self.inside.texts.keys)

pub returns-in-None-clause-index : goal.returns-in-None-clause-index
returns-in-None-clause-index c = rw (← c.self.view_is) (c.in-None.ensures.index ∙ position-texts c.args.text.now c.self.inside.texts.keys)
