use Rattle.refusal_places.proofs.LineFronts.{line_front}
use Rattle.refusal_places.proofs.laws.lines_begin_behind_line_feeds.Goals as goal

pub returns : goal.returns
returns c = line_front
