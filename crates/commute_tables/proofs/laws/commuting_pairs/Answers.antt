use Rattle.commute_tables.proofs.ListedPairs.{pairs_decided, on_other_containers, with_other_keys}
use Rattle.commute_tables.proofs.laws.commuting_pairs.Goals as goal

pub returns-clause-one_key : goal.returns-clause-one_key
returns-clause-one_key c = pairs_decided

pub returns-clause-other_container : goal.returns-clause-other_container
returns-clause-other_container c = on_other_containers

pub returns-clause-other_key : goal.returns-clause-other_key
returns-clause-other_key c = with_other_keys
