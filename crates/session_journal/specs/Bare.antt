-- A script of which nothing is known but the session that it serves.
use Rattle.std.specs.Prelude.{[]}
use Rattle.session_values.specs.Serial.{Session}
use Rattle.session_journal.specs.Script.{Meaning}

-- its tables open as the session's do, its tickets are the session's, and all else is empty: no
-- entries are told, nothing is declared, and it has no sites. What is judged of a list of events
-- asks no more of a script.
abbrev pub bare_script : Session → Meaning
bare_script s = record {
  shape = s.shape;
  opening = s.opening;
  opened = [];
  requests = s.requests;
  next = s.next;
  length = s.length;
  adds = λ t table. 0;
  entry = λ t. [];
  told = λ t replies. [];
  due = λ t replies. [];
  points = λ part. 0;
  declared = λ part point. [];
}
