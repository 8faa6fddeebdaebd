-- The names of words that are taken one after another.
use Rattle.std.proofs.Common.{◌≡◌, ◌+◌, ◌≤◌, List, length, Option, Some, None, sym, ap, ◌∙◌, subst, arith}
use Rattle.std.specs.Prelude.{MatchOption}
use Rattle.session_values.specs.declared.value.Value.{Value}
use Rattle.text_lines.specs.Steps.{FindsValue}
use Rattle.text_lines.specs.Text.{Text, words}
use Rattle.text_lines.specs.Values.{placed_all}
use Rattle.text_lines.specs.declared.line.Line.{Line}
use Rattle.text_lines.proofs.ValueLemmas.{placed_all_nil, placed_all_step, placed_length}

pub says_names : (old new : Line) (names after : List Text) (found : Option (Option Value)) → FindsValue old names found new after → placed_all after (words new.rest.now) ≡ placed_all names (words old.rest.now)
says_names old new names after None s =
    ap (λ (l : Line). placed_all after (words l.rest.now)) s.0.1 ∙ ap (λ (ns : List Text). placed_all ns (words old.rest.now)) s.1
says_names old new names after (Some v) s =
    ap (λ (ns : List Text). placed_all ns (words new.rest.now)) s.2.1 ∙ sym (placed_all_step names s.0 (words new.rest.now)) ∙ ap (placed_all names) (sym s.1.0)

pub says_all : (old new : Line) (names after : List Text) (found : Option (Option Value)) → FindsValue old names found new after → found ≡ None → after ≡ placed_all names (words old.rest.now)
says_all old new names after found s e =
    let t : FindsValue old names None new after = subst (λ r. FindsValue old names r new after) e s in
    t.1 ∙ sym (placed_all_nil names) ∙ ap (placed_all names) (sym t.0.0)
