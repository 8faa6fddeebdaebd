use Rattle.std.proofs.Common.{◌++◌, codes, string_bytes, ◌∙◌, rules, arith}
use Rattle.serve_words.specs.Session.{handlers_text}
use Rattle.serve_words.proofs.Lines.{next_states, next_lines, no_states, no_lines}
use Rattle.serve_words.proofs.session.session_text.Goals as goal

pub loop-init : goal.loop-init
loop-init c = record {
  state = no_states c.args.start;
  text = no_lines c.args.start (handlers_text ++ codes "%%\n") (string_bytes c.push_str.new.self) (search rules);
  len = search rules;
}

pub loop-preserved : goal.loop-preserved
loop-preserved c = record {
  state = c.push_request.ensures.state ∙ next_states c.args.start c.loop.counter c.loop.draws.state c.loop.invariant.state;
  text = next_lines c.args.start c.loop.counter c.loop.draws.state _ (handlers_text ++ codes "%%\n") (string_bytes c.loop.text) _ c.loop.invariant.state c.push_request.ensures.state c.loop.invariant.text c.in_ok-push_request.ensures.text;
  len = omega arith;
}
