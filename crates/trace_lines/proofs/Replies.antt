-- The values of a reply, one after another.
use Rattle.std.proofs.Common.{◌≡◌, List, [], ◌∷◌, ◌++◌, Option, Some, None, refl, sym, ap, ◌∙◌, append_assoc}
use Rattle.std.specs.Option.{option_and_then, option_map}
use Rattle.session_values.specs.declared.reply.Reply.{Reply}
use Rattle.session_values.specs.declared.value.Value.{Value}
use Rattle.text_lines.specs.Text.{Text}
use Rattle.text_lines.specs.ValueWords.{literal_value}
use Rattle.trace_lines.specs.EventWords.{all_literals, as_reply, first_word}
use Rattle.trace_lines.specs.Fronts.{reply_with}

-- the first word is one value more
pub reply_more : (names : List Text) (front : List Value) (ws rest : List Text) (v : Value) → first_word (literal_value names) ws ≡ Some (v, rest) → reply_with names (front ++ v ∷ []) rest ≡ reply_with names front ws
reply_more names front [] rest v e = absurd (cc)
reply_more names front (w ∷ ws) rest v e = go (literal_value names w) e
  where
    more : Option Value → Option (List Value) → Option Reply
    more o r = option_and_then as_reply (option_map (λ (vs : List Value). front ++ vs) (option_and_then (λ (x : Value). option_map (λ (vs : List Value). x ∷ vs) r) o))

    step : (r : Option (List Value)) → option_and_then as_reply (option_map (λ (vs : List Value). (front ++ v ∷ []) ++ vs) r) ≡ more (Some v) r
    step None = refl
    step (Some vs) = ap as_reply (append_assoc front (v ∷ []) vs)

    go : (o : Option Value) → option_map {U = Value × List Text} (λ (x : Value). (x, ws)) o ≡ Some (v, rest) → reply_with names (front ++ v ∷ []) rest ≡ more o (all_literals names ws)
    go None h = absurd (cc)
    go (Some x) h =
        let pair : ◌≡◌ {A = Value × List Text} (x, ws) (v, rest) = cc in
        let value : x ≡ v = ap (λ (p : Value × List Text). p.0) pair in
        let words : ws ≡ rest = ap (λ (p : Value × List Text). p.1) pair in
        ap (λ (us : List Text). reply_with names (front ++ v ∷ []) us) (sym words) ∙ step (all_literals names ws) ∙ ap (λ (y : Value). more (Some y) (all_literals names ws)) (sym value)
