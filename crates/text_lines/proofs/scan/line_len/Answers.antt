use Rattle.text_lines.proofs.FeedLemmas.{feed_found, feed_missing}
use Rattle.text_lines.proofs.scan.line_len.Goals as goal

-- src/scan.rt:35:1
pub returns-in-Some-clause-len : goal.returns-in-Some-clause-len
returns-in-Some-clause-len c = feed_found c.args.bytes.now c.in-Some.len c.in-Some.ensures

-- src/scan.rt:35:1
pub returns-in-None-clause-len : goal.returns-in-None-clause-len
returns-in-None-clause-len c = feed_missing c.args.bytes.now c.in-None.ensures
