-- While ends are made: each knows the list and did nothing.
use Rattle.std.proofs.Common.{◌≡◌, ◌+◌, ◌-◌, suc, vec_len, vec_capacity, []}
use Rattle.std.specs.List.{AllByRecursion}
use Rattle.crossbeam_queue.specs.Passes.{IsPassOf, view}
use Rattle.session_values.specs.Serial.{serial_replies}
use Rattle.session_journal.specs.Script.{session_of}
use Rattle.hall_writing.specs.declared.rule.EndState.{EndState}
use Rattle.hall_writing.specs.Lanes.{end_state}
use Rattle.hall_writing.specs.Ends.{state_of}
use Rattle.hall_writing.proofs.opening.opened.Given as goal

abbrev pub invariant-loop-made : goal.invariant-loop-made
invariant-loop-made g l = record {
  pass : IsPassOf l.queue l.pass;
  fresh : view {V = EndState} l.pass ≡ end_state [] [] (suc l.fn.callers - l.made) l.fn.callers (serial_replies (session_of (g.S.Script.meaning l.fn.plan)) (g.S.Script.meaning l.fn.plan).requests);
  ends : AllByRecursion (λ e. IsPassOf l.queue e.pass × (state_of e ≡ end_state [] [] 1 l.fn.callers (serial_replies (session_of (g.S.Script.meaning l.fn.plan)) (g.S.Script.meaning l.fn.plan).requests))) l.ends.items;
  room : l.fn.callers ≡ vec_capacity l.ends;
  many : vec_len l.ends + 1 ≡ l.made;
}
