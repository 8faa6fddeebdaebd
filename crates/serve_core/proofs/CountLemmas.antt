-- Counts that grow by one element.
use Rattle.std.proofs.Common.{◌≡◌, ℕ, ◌+◌, ◌<◌, List, [], ◌∷◌, ◌++◌, take, length, get_or, ap, arith, ◌∙◌, length-append}
use Rattle.std.proofs.lemmas.List.{take_more}
use Rattle.session_values.specs.declared.reply.Reply.{Reply}
use Rattle.session_values.specs.ReplyText.{line_text, reply_text}
use Rattle.session_journal.specs.declared.event.Event.{Event}
use Rattle.session_journal.specs.Journal.{DoneOperation, done_operations}
use Rattle.reply_sheet.proofs.TextLemmas.{text_more}
use Rattle.session_journal.proofs.Events.{done_operations-append}

-- one event more
pub done_operations_more : (J : List Event) (i : ℕ) (e : Event) → i < length J → get_or J i e ≡ e → length (done_operations (take (i + 1) J)) ≡ length (done_operations (take i J)) + length (done_operations (e ∷ []))
done_operations_more J i e h is =
    ap (λ (K : List Event). length (done_operations K)) (take_more J i e h ∙ ap (λ (x : Event). take i J ++ x ∷ []) is)
    ∙ ap (λ (ds : List DoneOperation). length ds) (done_operations-append (take i J) (e ∷ []))
    ∙ length-append (done_operations (take i J)) (done_operations (e ∷ []))

-- one reply more
pub bytes_more : (names : List (List ℕ)) (rs : List Reply) (i : ℕ) (r : Reply) → i < length rs → get_or rs i r ≡ r
    → length (reply_text names 0 (take (i + 1) rs)) ≡ length (reply_text names 0 (take i rs)) + length (line_text names i r)
bytes_more names rs i r h is =
    let same : 0 + i ≡ i = omega (arith) in
    ap (λ (t : List ℕ). length t) (text_more names 0 rs i r h is)
    ∙ ap (λ (n : ℕ). length (reply_text names 0 (take i rs) ++ line_text names n r)) same
    ∙ length-append (reply_text names 0 (take i rs)) (line_text names i r)
