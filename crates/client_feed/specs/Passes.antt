-- What the pass of an end knows.
use Rattle.crossbeam_channel.specs.Claims.{Pass, view}
use Rattle.reply_sheet.specs.declared.arrival.Arrival.{Arrival}
use Rattle.client_feed.specs.declared.rule.Hand.{Hand}

-- what its holder sent, or took
abbrev pub knows : Pass Arrival Hand → Hand
knows p = view p
