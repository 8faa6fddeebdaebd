use Rattle.may_use_analysis.proofs.Arranged.{later_list}
use Rattle.may_use_analysis.proofs.laws.each_point_has_its_list.Goals as goal

pub returns : goal.returns
returns c = later_list
