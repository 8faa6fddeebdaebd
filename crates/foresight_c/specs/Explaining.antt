-- What is told of a refusal, and what a caller gets of it.
use Rattle.std.specs.Prelude.{◌≡◌, IsUtf8, ℕ, ◌<◌, ◌≤◌, ◌⊎◌, min, nat_le, if◌then◌else◌, List, length, None}
use Rattle.refusal_places.specs.Answers.{answer}
use Rattle.refusal_advice.specs.Json.{IsJson}
use Rattle.refusal_advice.specs.Told.{IsTold}
use Rattle.refusal_advice.specs.declared.explaining.Form.{Form}
use Rattle.refusal_advice.specs.declared.explaining.Form.TheVariants as form
use Rattle.foresight_c.specs.declared.answer.Answer.{Answer}
use Rattle.foresight_c.specs.Fronts.{put_at_front}
use Rattle.foresight_c.specs.Numbers.{fine, no_memory, no_room, not_text, unexplained, unread}

-- the number of a form
abbrev pub form_number : Form → ℕ
form_number form.Text = 0
form_number form.Json = 1

-- a text and a line that are read: they are below 2^32 bytes
pub record AreReadable (text refusal : List ℕ) : Type 0 where
  pub text_short : length text < 4294967296
  pub refusal_short : length refusal < 4294967295

-- what is told of a refusal's line in this form, of a text that goes by this name
abbrev pub IsToldIn : Form → List ℕ → List ℕ → List ℕ → List ℕ → Type 0
IsToldIn form.Text name text refusal told = IsTold name text refusal told
IsToldIn form.Json name text refusal told = IsJson name text refusal told

-- nothing is told of it: it is no line of a refusal, or names a place that the text hasn't, or one of
-- them is too long to be read
abbrev pub IsUnexplained : List ℕ → List ℕ → List ℕ → Type 0
IsUnexplained name text refusal =
    (AreReadable text refusal → ⊥) ⊎ (answer name text refusal ≡ None)

-- nothing was handed over, and this is why
pub record IsNothing (out out_new : List ℕ) (a : Answer) (why number : ℕ) : Type 0 where
  pub out_still : out_new ≡ out
  pub written : a.written ≡ 0
  pub needed : a.needed ≡ 0
  pub told : a.told ≡ 0
  pub number_is : number ≡ why

-- a text stands at the front of a room, as much of it as the room takes, and how long it is is told
pub record HasText (text out out_new : List ℕ) (a : Answer) (number : ℕ) : Type 0 where
  pub out_is : out_new ≡ put_at_front out text
  pub written : a.written ≡ min (length out) (length text)
  pub needed : a.needed ≡ length text
  pub told : a.told ≡ 0
  pub number_is : number ≡ (if nat_le (length text) (length out) then fine else no_room)

-- a refusal's line is told of in this form, or nothing is told of it, or memory ran out
abbrev pub ExplainsAs : Form → List ℕ → List ℕ → List ℕ → List ℕ → List ℕ → Answer → ℕ → Type 0
ExplainsAs f name text refusal out out_new a n =
    ((told : List ℕ) × IsToldIn f name text refusal told × HasText told out out_new a n)
    ⊎ ((IsUnexplained name text refusal × IsNothing out out_new a unexplained n)
    ⊎ IsNothing out out_new a no_memory n)

-- the same by the number of the form; there may be no such form, and the name may be no text
abbrev pub Explains : ℕ → List ℕ → List ℕ → List ℕ → List ℕ → List ℕ → Answer → ℕ → Type 0
Explains number name text refusal out out_new a n =
    ((2 ≤ number) × IsNothing out out_new a unread n)
    ⊎ ((f : Form) × (form_number f ≡ number)
    × (((IsUtf8 name → ⊥) × IsNothing out out_new a not_text n)
    ⊎ (IsUtf8 name × ExplainsAs f name text refusal out out_new a n)))
