-- The same requests over other entries.
use Rattle.std.proofs.Common.{refl, List}
use Rattle.session_values.specs.Opening.{IsOpening, Pair}
use Rattle.session_hall.specs.Script.{IsScript}
use Rattle.handler_check.specs.Resolved.{shape_of}
use Rattle.handler_machine.specs.Scripts.{ScriptsView, meaning, meaning_over}

pub over_lists : (s : ScriptsView) (lists : List (List Pair)) → IsScript (meaning s) → IsOpening (shape_of s.program.file) lists → IsScript (meaning_over s lists)
over_lists s lists k o = record {
  opening = refl;
  opened = o;
  fits = k.fits;
  values = k.values;
  ends = k.ends;
  adds = k.adds;
  entry = k.entry;
  told = k.told;
  due = k.due;
  few_requests = k.few_requests;
  few_calls = k.few_calls;
  few_adds = k.few_adds;
}
