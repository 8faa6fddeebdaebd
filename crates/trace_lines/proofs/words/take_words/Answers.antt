use Rattle.std.proofs.Common.{◌++◌, List, length, sym, ap, ◌∙◌, subst, arith}
use Rattle.std.specs.List.{AllByRecursion}
use Rattle.session_values.specs.Names.{Begins}
use Rattle.session_values.proofs.Named.{begins_then}
use Rattle.text_lines.specs.Text.{Text, words}
use Rattle.trace_lines.specs.declared.words.Word.{Word}
use Rattle.trace_lines.specs.EventRows.{placed_literals}
use Rattle.trace_lines.specs.Placing.{IsPlaced, texts}
use Rattle.trace_lines.proofs.Kept.{all_placed_kept}
use Rattle.trace_lines.proofs.Placed.{literal_begins, literal_length, literals_nil, literals_step}
use Rattle.trace_lines.proofs.Taken.{all_and, taken}
use Rattle.trace_lines.proofs.words.take_words.Goals as goal

pub returns-then-len-ge-MAX_WORDS-clause-placed : goal.returns-then-len-ge-MAX_WORDS-clause-placed
returns-then-len-ge-MAX_WORDS-clause-placed c =
    let begins : Begins c.words.names c.placed.new.names = subst (Begins c.words.names) (sym c.in_ok-placed.ensures.names) (literal_begins c.words.names c.in-Some.text.now) in
    subst (AllByRecursion (IsPlaced c.placed.new.names)) (sym c.push_reserved.ensures.items)
    (all_and (IsPlaced c.placed.new.names) c.words.words.items c.in_ok-placed.field-0 (all_placed_kept c.words.names c.placed.new.names c.words.words.items begins c.words.invariant.placed) c.in_ok-placed.ensures.placed)

pub returns-then-len-ge-MAX_WORDS-clause-kept : goal.returns-then-len-ge-MAX_WORDS-clause-kept
returns-then-len-ge-MAX_WORDS-clause-kept c =
    begins_then _ _ _ c.words.invariant.kept (subst (Begins c.words.names) (sym c.in_ok-placed.ensures.names) (literal_begins c.words.names c.in-Some.text.now))

pub returns-then-len-ge-MAX_WORDS-clause-more : goal.returns-then-len-ge-MAX_WORDS-clause-more
returns-then-len-ge-MAX_WORDS-clause-more c =
    omega (arith, ap (λ (ns : List Text). length ns) c.in_ok-placed.ensures.names, literal_length c.words.names c.in-Some.text.now, ap (λ (ws : List Text). length ws) c.in-Some.ensures.steps.0, c.words.invariant.room)

pub words-preserved : goal.words-preserved
words-preserved c =
    let step = c.in-Some.ensures.steps.0 in
    let new = c.in_ok-placed.ensures.names in
    let rest : List Text = words c.next.new.self.rest.now in
    let begins : Begins c.words.names c.placed.new.names = subst (Begins c.words.names) (sym new) (literal_begins c.words.names c.in-Some.text.now) in
    record {
      next = tt;
      finite = tt;
      all =
          ap (λ (items : List Word). texts items ++ rest) c.push_reserved.ensures.items
          ∙ taken c.words.words.items c.in_ok-placed.field-0 c.in-Some.text.now rest c.in_ok-placed.ensures.text
          ∙ ap (λ (ws : List Text). texts c.words.words.items ++ ws) (sym step)
          ∙ c.words.invariant.all;
      names = ap (λ (ns : List Text). placed_literals ns rest) new ∙ sym (literals_step c.words.names c.in-Some.text.now rest) ∙ ap (placed_literals c.words.names) (sym step) ∙ c.words.invariant.names;
      placed =
          subst (AllByRecursion (IsPlaced c.placed.new.names)) (sym c.push_reserved.ensures.items)
          (all_and (IsPlaced c.placed.new.names) c.words.words.items c.in_ok-placed.field-0 (all_placed_kept c.words.names c.placed.new.names c.words.words.items begins c.words.invariant.placed) c.in_ok-placed.ensures.placed);
      kept = begins_then _ _ _ c.words.invariant.kept begins;
      room = omega (arith, ap (λ (ns : List Text). length ns) new, literal_length c.words.names c.in-Some.text.now, ap (λ (ws : List Text). length ws) step, c.words.invariant.room);
      few = omega (arith, c.if-len-ge-MAX_WORDS.false, c.len.ensures);
      capacity = c.push_reserved.ensures.capacity ∙ c.words.invariant.capacity;
    }

pub returns-clause-names : goal.returns-clause-names
returns-clause-names c = λ few. sym (literals_nil c.words.names) ∙ ap (placed_literals c.words.names) (sym c.in_default.ensures.steps.0) ∙ c.words.invariant.names
