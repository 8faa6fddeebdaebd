use Rattle.handler_check.specs.Resolved.{table_names, variables_of}
use Rattle.handler_check.proofs.Numbers.{numbered, counted}
use Rattle.syntax_trees.specs.Source.{block_source}
use Rattle.handler_check.proofs.laws.points_are_numbered.Goals as goal

pub returns : goal.returns
returns c = record {
  numbered = λ f h. numbered (table_names f) (variables_of h) (block_source h.body) 1;
  count = λ f h. counted (table_names f) (variables_of h) (block_source h.body) 1;
}
