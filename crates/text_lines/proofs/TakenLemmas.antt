-- What is known where a word's value was asked.
use Rattle.std.proofs.Common.{◌≡◌, ◌+◌, ◌≤◌, List, length, Option, Some, None, ap, ◌∙◌, subst, arith}
use Rattle.session_values.specs.declared.value.Value.{Value}
use Rattle.text_lines.specs.Steps.{FindsValue, IsTaken}
use Rattle.text_lines.specs.Text.{Text, words}
use Rattle.text_lines.specs.declared.line.Line.{Line}
use Rattle.text_lines.proofs.ValueLemmas.{placed_length}

pub found_room : (old new : Line) (names after : List Text) (found : Option (Option Value)) → FindsValue old names found new after
    → length after + length (words new.rest.now) ≤ length names + length (words old.rest.now)
found_room old new names after None s = omega (arith, ap length s.1, ap (λ (l : Line). length (words l.rest.now)) s.0.1)
found_room old new names after (Some v) s = omega (arith, ap length s.1.0, ap length s.2.1, placed_length names s.0)

pub found_taken : (old new : Line) (names after : List Text) (r : Option (Option Value)) (found v : Option Value) → FindsValue old names r new after → r ≡ Some found → found ≡ v → IsTaken names old.rest.now v new.rest.now after
found_taken old new names after r found v s e f = subst (λ r. FindsValue old names r new after) (e ∙ ap Some f) s
