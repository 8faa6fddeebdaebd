use Rattle.std.proofs.Common.{List, refl, sym, ap, ◌∙◌}
use Rattle.std.specs.List.{list_all}
use Rattle.text_lines.specs.Text.{Text, words}
use Rattle.text_lines.specs.Values.{is_value}
use Rattle.live_session.proofs.Words.{all_step, all_stop}
use Rattle.live_session.proofs.arguments.are_values.Goals as goal

pub words-init : goal.words-init
words-init c = record { next = tt; finite = tt; same = refl }

pub returns-then-not-is_value : goal.returns-then-not-is_value
returns-then-not-is_value c =
    let bad = sym c.is_value.ensures ∙ c.if-not-is_value.true in
    sym (all_stop c.in-Some.word.now (words c.next.new.self.rest.now) bad) ∙ sym (ap (λ (ws : List Text). list_all is_value ws) c.in-Some.ensures.steps.0) ∙ c.words.invariant.same

pub words-preserved : goal.words-preserved
words-preserved c =
    let good = sym c.is_value.ensures ∙ c.if-not-is_value.false in
    record {
      next = tt;
      finite = tt;
      same = sym (all_step c.in-Some.word.now (words c.next.new.self.rest.now) good) ∙ sym (ap (λ (ws : List Text). list_all is_value ws) c.in-Some.ensures.steps.0) ∙ c.words.invariant.same;
    }

pub returns : goal.returns
returns c = sym (ap (λ (ws : List Text). list_all is_value ws) c.in_default.ensures.steps.0) ∙ c.words.invariant.same
