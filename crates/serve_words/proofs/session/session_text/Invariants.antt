use Rattle.std.proofs.Common.{◌≡◌, ◌+◌, ◌*◌, ◌≤◌, ◌++◌, codes, string_bytes, string_len}
use Rattle.serve_words.specs.Draws.{state_after}
use Rattle.serve_words.specs.Session.{handlers_text, lines_of}
use Rattle.serve_words.proofs.session.session_text.Given as goal

abbrev pub invariant-loop : goal.invariant-loop
invariant-loop l = record {
  state : l.draws.state ≡ state_after l.start (3 * l.counter);
  text : string_bytes l.text ≡ (handlers_text ++ codes "%%\n") ++ lines_of l.start l.counter;
  len : string_len l.text ≤ 400 + 40 * l.counter;
}
