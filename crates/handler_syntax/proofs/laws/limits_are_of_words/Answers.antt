use Rattle.syntax_grammar.proofs.Found.{fits_fine, fine_fits}
use Rattle.handler_syntax.proofs.laws.limits_are_of_words.Goals as goal

pub returns-clause-within : goal.returns-clause-within
returns-clause-within c = fits_fine

pub returns-clause-unbroken : goal.returns-clause-unbroken
returns-clause-unbroken c = fine_fits
