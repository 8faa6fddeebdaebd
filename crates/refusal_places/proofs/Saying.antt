-- Inputs that are UTF-8, and others.
use Rattle.std.proofs.Common.{◌≡◌, Bool, true, false, None, refl, ap, IsUtf8}
use Rattle.std.specs.Prelude.{if◌then◌else◌}
use Rattle.std.specs.Str.{is_utf8}
use Rattle.std.proofs.lemmas.Str.{is_utf8-from_IsUtf8, IsUtf8-from_is_utf8}
use Rattle.text_lines.specs.Text.{Text}
use Rattle.refusal_places.specs.Answers.{said_of}
use Rattle.refusal_places.specs.Refusals.{refusal_of}

pub said_utf8 : (input : Text) → IsUtf8 input → said_of input ≡ refusal_of input
said_utf8 input utf8 = ap (λ b. if b then refusal_of input else None) (is_utf8-from_IsUtf8 input utf8)

said_other : (input : Text) (t : Bool) → is_utf8 input ≡ t → (IsUtf8 input → ⊥) → said_of input ≡ None
said_other input true e not_utf8 = absurd (not_utf8 (IsUtf8-from_is_utf8 input e))
said_other input false e not_utf8 = ap (λ b. if b then refusal_of input else None) e

pub said_none : (input : Text) → (IsUtf8 input → ⊥) → said_of input ≡ None
said_none input not_utf8 = said_other input (is_utf8 input) refl not_utf8
