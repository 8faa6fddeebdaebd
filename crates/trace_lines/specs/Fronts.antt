-- What code reads from the front of some words. Only this crate's own functions cite it.
use Rattle.std.specs.Prelude.{◌≡◌, ◌==◌, List, slice_index, [], ◌∷◌, ◌++◌, if◌then◌else◌, Bool, true, false, Option, Some, None, MatchOption}
use Rattle.std.specs.Borrow.{Bor}
use Rattle.std.specs.Option.{option_map, option_and_then}
use Rattle.session_values.specs.declared.kind.Kind.{Kind}
use Rattle.session_values.specs.declared.kind.Kind.TheVariants.{Has, Add, Mark, Drop, Count}
use Rattle.session_values.specs.declared.reply.Reply.{Reply}
use Rattle.session_values.specs.declared.value.Value.{Value}
use Rattle.session_values.specs.declared.value.Value.TheVariants.{Nil}
use Rattle.text_lines.specs.Text.{Text}
use Rattle.text_lines.specs.Values.{as_value, is_nil, number}
use Rattle.trace_lines.specs.declared.words.Word.{Word}
use Rattle.trace_lines.specs.Placing.{texts}
use Rattle.trace_lines.specs.EventWords.{Front, all_literals, as_reply, kind_among}

-- ---- single words

-- the first of the kinds on sets whose word it is
abbrev pub set_kind_of : Text → Option Kind
set_kind_of = kind_among (Has ∷ Add ∷ Mark ∷ Drop ∷ Count ∷ [])

-- the value of a literal without a quote
abbrev pub plain_value : Text → Option Value
plain_value w = if is_nil w then Some Nil else as_value (number w)

-- the value of a word that is no literal of a symbol
abbrev pub unplaced_value : Text → Option Value
unplaced_value w = if slice_index w 0 == 39 then None else plain_value w

-- ---- some words, from the first on

-- what was read, with the words that are left
abbrev pub IsFront : {X : Type 0} → Option (X × Bor (List Word)) → Front X → Type 0
IsFront r f = MatchOption r (f ≡ None) (λ p. f ≡ Some (p.0, texts p.1.now))

-- the reply of some values and of those that the words are, if they are one
abbrev pub reply_with : List Text → List Value → List Text → Option Reply
reply_with names front ws = option_and_then as_reply
    (option_map (λ (vs : List Value). front ++ vs) (all_literals names ws))

-- no word is left
abbrev pub is_over : List Text → Bool
is_over [] = true
is_over (w ∷ ws) = false
